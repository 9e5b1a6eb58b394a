-- Which GOAWAY is the last that was written (RFC 9113, section 6.8).
use Rattle.std.proofs.Common.{
  ◌≡◌,
  ℕ,
  inl,
  inr,
  refl,
  sym,
  ap,
  ◌∙◌,
  Bool,
  true,
  false,
  List,
  [],
  ◌∷◌,
  ◌++◌,
  Option,
  None,
  Some,
  true≢false,
}
use Rattle.std.specs.Prelude.{◌&&◌, ◌||◌, if◌then◌else◌}
use Rattle.std.specs.List.{list_any}
use Rattle.std.specs.Option.{option_or}
use Rattle.std.proofs.lemmas.List.Elements.{filter-append}
use Rattle.std.proofs.lemmas.List.Folds.{list_any-append}
use Rattle.h2frame.specs.declared.frame.Frame.{Frame}
use Rattle.h2frame.specs.declared.kind.FrameKind.{FrameKind}
use Rattle.h2frame.specs.declared.kind.FrameKind.TheVariants as kind
use Rattle.outwriter.specs.declared.control.WriterOrder.TheVariants.{
  Settings,
  Ping,
  Probe,
  Window,
  Open,
  Refuse,
  Reset,
  Goaway,
  InputEnded,
  Close,
}
use Rattle.outwriter.specs.Drains.{fails, goaway_by, has_failed, last_goaway, ordered_goaway}
use Rattle.outwriter.specs.Frames.{first_settings, goaway_frame, is_last, is_last_kind}
use Rattle.outwriter.specs.Runs.{
  AreAmong,
  IsLawful,
  due,
  due_by,
  goaways,
  has_begun,
  is_duty,
  is_goaway,
  told,
  told_by,
}
use Rattle.outwriter.specs.Steps.{Order, Step, Taken, Granted, Written, Returned, frames_of}
use Rattle.outwriter.proofs.Leads.{either-false}

-- the last frame of a list that has the earliest first
abbrev final : List Frame → Option Frame
final [] = None
final (frame ∷ frames) = option_or (final frames) (Some frame)

or-none : (o : Option Frame) → option_or o None ≡ o
or-none None = refl
or-none (Some frame) = refl

or-assoc : (a b c : Option Frame) → option_or (option_or a b) c ≡ option_or a (option_or b c)
or-assoc None b c = refl
or-assoc (Some frame) b c = refl

final-append : (front back : List Frame)
    → final (front ++ back) ≡ option_or (final back) (final front)
final-append [] back = sym (or-none (final back))
final-append (frame ∷ front) back =
    ap (λ (o : Option Frame). option_or o (Some frame)) (final-append front back)
    ∙ or-assoc (final back) (final front) (Some frame)

final-goaways : (front back : List Frame)
    → final (goaways (front ++ back)) ≡ option_or (final (goaways back)) (final (goaways front))
final-goaways front back =
    ap final (filter-append (λ (f : Frame). is_goaway f.head.kind) front back)
    ∙ final-append (goaways front) (goaways back)

-- ---- what was ordered

by-order : (order : Order) → final (goaways (due_by order)) ≡ goaway_by order
by-order (Settings settings) = refl
by-order (Ping bytes) = refl
by-order (Probe bytes) = refl
by-order (Window id n) = refl
by-order (Open id sender) = refl
by-order (Refuse id fields) = refl
by-order (Reset id code written) = refl
by-order (Goaway last reason) = refl
by-order InputEnded = refl
by-order Close = refl

due-last : (run : List Step) → final (goaways (due run)) ≡ ordered_goaway run
due-last [] = refl
due-last (Taken order ∷ run) =
    final-goaways (due run) (due_by order)
    ∙ (ap (λ (o : Option Frame). option_or o (final (goaways (due run)))) (by-order order)
    ∙ ap (option_or (goaway_by order)) (due-last run))
due-last (Granted id n ∷ run) = due-last run
due-last (Returned id items ∷ run) = due-last run
due-last (Written frame ∷ run) = due-last run

-- ---- what was written

goaway-duty : (found : FrameKind) → is_goaway found ≡ true → is_duty found ≡ true
goaway-duty kind.GoAway is = refl
goaway-duty _ is = absurd (true≢false (sym is))

begun-or-none : (frames : List Frame) → has_begun frames ≡ false → frames ≡ []
begun-or-none [] none = refl
begun-or-none (frame ∷ frames) none = absurd (true≢false none)

-- a GOAWAY isn't first
told-goaway : (run : List Step) (frame : Frame) (begun goes : Bool)
    → has_begun (frames_of run) ≡ begun → is_goaway frame.head.kind ≡ goes
    → (frames_of run ≡ [] → frame ≡ first_settings)
    → final (goaways (told_by begun frame)) ≡ (if goes then Some frame else None)
told-goaway run frame true true has is first =
    ap (λ (b : Bool). final (goaways (if b && true then frame ∷ [] else [])))
    (goaway-duty frame.head.kind is)
    ∙ ap (λ (b : Bool). final (if b then frame ∷ [] else [])) is
told-goaway run frame false true has is first =
    absurd (true≢false (sym is
    ∙ ap (λ (f : Frame). is_goaway f.head.kind) (first (begun-or-none (frames_of run) has))))
told-goaway run frame begun false has is first = by (is_duty frame.head.kind && begun)
  where
    by : (b : Bool) → final (goaways (if b then frame ∷ [] else [])) ≡ None
    by true = ap (λ (goes : Bool). final (if goes then frame ∷ [] else [])) is
    by false = refl

told-last : (run : List Step) → IsLawful run → final (goaways (told run)) ≡ last_goaway run
told-last [] lawful = refl
told-last (Taken order ∷ run) lawful = told-last run lawful
told-last (Granted id n ∷ run) lawful = told-last run lawful
told-last (Returned id items ∷ run) lawful = told-last run lawful
told-last (Written frame ∷ run) lawful =
    final-goaways (told run) (told_by (has_begun (frames_of run)) frame)
    ∙ (ap (λ (o : Option Frame). option_or o (final (goaways (told run))))
    (told-goaway run frame (has_begun (frames_of run)) (is_goaway frame.head.kind) refl
    refl lawful.1.first)
    ∙ (ap (option_or (if is_goaway frame.head.kind then Some frame else None))
    (told-last run lawful.2)
    ∙ by (is_goaway frame.head.kind)))
  where
    by : (goes : Bool)
        → option_or (if goes then Some frame else None) (last_goaway run)
        ≡ (if goes then Some frame else last_goaway run)
    by true = refl
    by false = refl

pub last-is-ordered : (run : List Step) → IsLawful run → told run ≡ due run
    → last_goaway run ≡ ordered_goaway run
last-is-ordered run lawful same =
    sym (told-last run lawful)
    ∙ (ap (λ (frames : List Frame). final (goaways frames)) same ∙ due-last run)

-- ---- no error is told

none-some : (p : Frame → Bool) (some all : List Frame) → AreAmong some all → list_any p all ≡ false
    → list_any p some ≡ false
none-some p some [] among none = ap (λ (frames : List Frame). list_any p frames) among
none-some p some (first ∷ others) (inl among) none =
    none-some p some others among (either-false (p first) (list_any p others) none).1
none-some p some (first ∷ others) (inr (rest, parts, among)) none =
    let both = either-false (p first) (list_any p others) none in
    ap (λ (frames : List Frame). list_any p frames) parts
    ∙ (ap (λ (b : Bool). b || list_any p rest) both.0 ∙ none-some p rest others among both.1)

goaways-any : (front back : List Frame)
    → list_any is_last (goaways (front ++ back))
    ≡ (list_any is_last (goaways front) || list_any is_last (goaways back))
goaways-any front back =
    ap (λ (frames : List Frame). list_any is_last frames)
    (filter-append (λ (f : Frame). is_goaway f.head.kind) front back)
    ∙ list_any-append is_last (goaways front) (goaways back)

or-false : (b : Bool) → (b || false) ≡ b
or-false true = refl
or-false false = refl

fails-order : (order : Order) → list_any is_last (goaways (due_by order)) ≡ fails order
fails-order (Settings settings) = refl
fails-order (Ping bytes) = refl
fails-order (Probe bytes) = refl
fails-order (Window id n) = refl
fails-order (Open id sender) = refl
fails-order (Refuse id fields) = refl
fails-order (Reset id code written) = refl
fails-order (Goaway last reason) = or-false (is_last (goaway_frame last reason))
fails-order InputEnded = refl
fails-order Close = refl

due-none : (run : List Step) → has_failed run ≡ false → list_any is_last (goaways (due run)) ≡ false
due-none [] none = refl
due-none (Taken order ∷ run) none =
    let both = either-false (fails order) (has_failed run) none in
    goaways-any (due run) (due_by order)
    ∙ (ap (λ (b : Bool). b || list_any is_last (goaways (due_by order))) (due-none run both.1)
    ∙ (fails-order order ∙ both.0))
due-none (Granted id n ∷ run) none = due-none run none
due-none (Returned id items ∷ run) none = due-none run none
due-none (Written frame ∷ run) none = due-none run none

only-goaway : (found : FrameKind) (content : List ℕ) → is_goaway found ≡ false
    → is_last_kind found content ≡ false
only-goaway kind.GoAway content is = absurd (true≢false is)
only-goaway _ content is = refl

-- nor is a frame an error that might be written then
frame-none : (run : List Step) (frame : Frame) (begun goes : Bool)
    → has_begun (frames_of run) ≡ begun → is_goaway frame.head.kind ≡ goes
    → (frames_of run ≡ [] → frame ≡ first_settings)
    → list_any is_last (goaways (told run ++ told_by begun frame)) ≡ false → is_last frame ≡ false
frame-none run frame begun false has is first none = only-goaway frame.head.kind frame.content is
frame-none run frame false true has is first none =
    absurd (true≢false (sym is
    ∙ ap (λ (f : Frame). is_goaway f.head.kind) (first (begun-or-none (frames_of run) has))))
frame-none run frame true true has is first none =
    let both =
    either-false (list_any is_last (goaways (told run)))
    (list_any is_last (goaways (told_by true frame)))
    (sym (goaways-any (told run) (told_by true frame)) ∙ none) in
    sym (or-false (is_last frame))
    ∙ (sym (ap (λ (frames : List Frame). list_any is_last frames) told_it) ∙ both.1)
  where
    told_it : goaways (told_by true frame) ≡ frame ∷ []
    told_it =
        ap (λ (b : Bool). goaways (if b && true then frame ∷ [] else []))
        (goaway-duty frame.head.kind is)
        ∙ ap (λ (b : Bool). if b then frame ∷ [] else []) is

pub none-is-last : (run : List Step) → IsLawful run → has_failed run ≡ false
    → list_any is_last (frames_of run) ≡ false
none-is-last [] lawful none = refl
none-is-last (Taken order ∷ run) lawful none =
    none-is-last run lawful (either-false (fails order) (has_failed run) none).1
none-is-last (Granted id n ∷ run) lawful none = none-is-last run lawful none
none-is-last (Returned id items ∷ run) lawful none = none-is-last run lawful none
none-is-last (Written frame ∷ run) lawful none =
    ap (λ (b : Bool). b || list_any is_last (frames_of run))
    (frame-none run frame (has_begun (frames_of run)) (is_goaway frame.head.kind) refl
    refl lawful.1.first
    (none-some is_last _ (goaways (due run)) lawful.1.parts (due-none run none)))
    ∙ none-is-last run lawful.2 none
