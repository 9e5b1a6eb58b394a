-- What is kept follows from a run of one more frame, and the frame might be written.
use Rattle.std.proofs.Common.{
  ◌≡◌,
  ℕ,
  ◌<◌,
  ◌≤◌,
  ◌^◌,
  ◌==◌,
  inl,
  inr,
  refl,
  sym,
  ap,
  subst,
  ◌∙◌,
  Bool,
  true,
  false,
  List,
  [],
  ◌∷◌,
  ◌++◌,
  Option,
  Some,
  None,
  arith,
  append-nil,
  append_assoc,
  true≢false,
}
use Rattle.std.specs.Prelude.{filter, not, flat_map, ◌||◌, ◌&&◌, is_some, if◌then◌else◌}
use Rattle.std.specs.List.{list_any}
use Rattle.std.proofs.lemmas.List.Elements.{filter-append}
use Rattle.account.specs.Accounts.{Begins}
use Rattle.sendwindows.specs.WindowHistory.{Step as WindowStep}
use Rattle.sendwindows.specs.Windows.{Windows}
use Rattle.h2frame.specs.declared.error_code.ErrorCode.{ErrorCode}
use Rattle.h2frame.specs.declared.frame.Frame.{Frame}
use Rattle.h2frame.specs.declared.kind.FrameKind.TheVariants as kind
use Rattle.reasons.specs.declared.Reason.{Reason}
use Rattle.outwriter.specs.declared.blocks.HeaderBlock.{HeaderBlock}
use Rattle.outwriter.specs.declared.control.WriterOrder.TheVariants.{Goaway}
use Rattle.outwriter.specs.declared.due.Due.{Due}
use Rattle.outwriter.specs.States.{States, over_on}
use Rattle.outwriter.specs.Frames.{
  is_last,
  reset_frame,
  resets,
  ends,
  ends_stream,
  is_reset,
  update_on,
  update_kind,
  update_frame,
  ends_block,
  first_settings,
  settings_ack,
  ping_ack,
  ping_frame,
  goaway_frame,
}
use Rattle.outwriter.specs.Histories.{closing_of, spending_of, is_over, is_stream, was_reset}
use Rattle.outwriter.specs.RunState.{
  Mirrors,
  HasWindows,
  HasOver,
  HasDue,
  HasBlock,
  HasHead,
  HasOwed,
  HasStates,
  duties_of,
  resets_of,
}
use Rattle.outwriter.specs.Runs.{
  has_begun,
  IsAsked,
  Fragments,
  unfinished,
  due,
  told,
  told_by,
  is_goaway,
  goaways,
  without_goaway,
  AreAmong,
  MayWrite,
  Continues,
  MayFollowEnd,
  fragments,
  owed as given,
}
use Rattle.outwriter.specs.Steps.{Step, Taken, Granted, Written, Returned, frames_of}
use Rattle.outwriter.proofs.RunStateSteps.{same-block, all-behind}

-- ---- one order apart from another

pub begins-filtered : (p : Frame → Bool) (front all : List Frame) → Begins front all
    → Begins (filter p front) (filter p all)
begins-filtered p front all (rest, e) =
    (filter p rest, ap (filter p) e ∙ filter-append p front rest)

none-among : (all : List Frame) → AreAmong [] all
none-among [] = refl
none-among (first ∷ others) = inl (none-among others)

begins-among : (front rest : List Frame) → AreAmong front (front ++ rest)
begins-among [] rest = none-among rest
begins-among (first ∷ others) rest = inr (others, refl, begins-among others rest)

among-front : (front all : List Frame) → Begins front all → AreAmong front all
among-front front all (rest, e) = subst (AreAmong front) (sym e) (begins-among front rest)

pub among-last : (some all : List Frame) (frame : Frame) → AreAmong some all
    → AreAmong (some ++ frame ∷ []) (all ++ frame ∷ [])
among-last some [] frame e = inr ([], ap (λ (frames : List Frame). frames ++ frame ∷ []) e, refl)
among-last some (first ∷ others) frame (inl among) = inl (among-last some others frame among)
among-last some (first ∷ others) frame (inr (rest, e, among)) =
    inr (
      rest ++ frame ∷ [],
      ap (λ (frames : List Frame). frames ++ frame ∷ []) e,
      among-last rest others frame among,
    )

pub in-answers : (front all : List Frame) → Begins front all
    → Begins (without_goaway front) (without_goaway all)
in-answers front all begins =
    begins-filtered (λ frame. not (is_goaway frame.head.kind)) front all begins

pub in-goaways : (front all : List Frame) → Begins front all
    → AreAmong (goaways front) (goaways all)
in-goaways front all begins =
    among-front (goaways front) (goaways all)
    (begins-filtered (λ frame. is_goaway frame.head.kind) front all begins)

pub none-begun : (frames : List Frame) → has_begun frames ≡ true → frames ≡ [] → ⊥
none-begun [] begun e = cc
none-begun (frame ∷ frames) begun e = cc

-- ---- a frame that changes nothing of one kind

module _ (run : List Step) (frame : Frame) where
  pub windows-same : (w : Windows) → closing_of frame ≡ [] → spending_of frame ≡ []
      → HasWindows run w → HasWindows (Written frame ∷ run) w
  windows-same w no_closing no_spending (h, has, f) = (
    h,
    (
      h,
      has,
      sym (ap (λ (xs : List WindowStep). xs ++ (spending_of frame ++ h)) no_closing
          ∙ ap (λ (xs : List WindowStep). xs ++ h) no_spending),
    ),
    f,
  )

  or-false : (b c : Bool) → b ≡ false → (b || c) ≡ c
  or-false true c e = cc
  or-false false c e = refl

  and-false : (b c : Bool) → b ≡ false → (b && c) ≡ false
  and-false true c e = cc
  and-false false c e = refl

  pub over-same : (states : States) → ends_stream frame ≡ false → is_reset frame.head.kind ≡ false
      → HasOver run states → HasOver (Written frame ∷ run) states
  over-same states no_end no_reset has id =
      let is_no_reset : resets id frame ≡ false =
      and-false (is_reset frame.head.kind) (id == frame.head.stream) no_reset in
      let is_no_end : ends id frame ≡ false =
      and-false (ends_stream frame) (id == frame.head.stream) no_end in (
        (has id).0
            ∙ sym (ap (λ b. (b || ends id frame) || is_over id run) is_no_reset
            ∙ ap (λ b. b || is_over id run) is_no_end),
        λ not_reset.
            ap (λ b. b || list_any (resets id) (frames_of run)) is_no_reset ∙ (has id).1 not_reset,
      )

  pub due-same : (waiting : List Due) → told_by (has_begun (frames_of run)) frame ≡ []
      → HasDue run waiting → HasDue (Written frame ∷ run) waiting
  due-same waiting none h = (
    h.0
        ∙ ap (λ (xs : List Frame). xs ++ flat_map duties_of waiting)
        (sym (ap (λ (xs : List Frame). told run ++ xs) none ∙ append-nil (told run))),
    h.1,
  )

  -- nothing that is due is written
  pub tells-none : (waiting : List Due) → told_by (has_begun (frames_of run)) frame ≡ []
      → HasDue run waiting
      → Begins (told run ++ told_by (has_begun (frames_of run)) frame) (due run)
  tells-none waiting none h = (flat_map duties_of waiting, (due-same waiting none h).0)

  -- the first that is due is written
  pub due-told : (one : Due) (waiting : List Due)
      → told_by (has_begun (frames_of run)) frame ≡ duties_of one → HasDue run (one ∷ waiting)
      → HasDue (Written frame ∷ run) waiting
  due-told one waiting is h =
      let P : ℕ × ErrorCode → Type 0 = λ reset. IsAsked reset.0 reset.1 run in (
        h.0 ∙ sym (append_assoc (told run) (duties_of one) (flat_map duties_of waiting))
            ∙ ap (λ (xs : List Frame). (told run ++ xs) ++ flat_map duties_of waiting) (sym is),
        all-behind P (resets_of one) (flat_map resets_of waiting) h.1,
      )

  pub tells-first : (one : Due) (waiting : List Due)
      → told_by (has_begun (frames_of run)) frame ≡ duties_of one → HasDue run (one ∷ waiting)
      → Begins (told run ++ told_by (has_begun (frames_of run)) frame) (due run)
  tells-first one waiting is h = (flat_map duties_of waiting, (due-told one waiting is h).0)

  pub owes-same : (kept : States) → ((id : ℕ) → update_on id frame ≡ 0) → HasOwed run kept
      → HasOwed (Written frame ∷ run) kept
  owes-same kept none h id = (omega (arith, (h id).0, none id), (h id).1, (h id).2)

  -- how each stream stands
  pub stand-same : (kept : States) → ends_stream frame ≡ false → is_reset frame.head.kind ≡ false
      → ((id : ℕ) → update_on id frame ≡ 0) → HasStates run kept
      → HasStates (Written frame ∷ run) kept
  stand-same kept no_end no_reset none h = record {
    over = over-same kept no_end no_reset h.over;
    silent = h.silent;
    resets = h.resets;
    owes = owes-same kept none h.owes;
    no_stream_0 = h.no_stream_0;
  }

  zero-if : (b : Bool) (n : ℕ) → n ≡ 0 → (if b then n else 0) ≡ 0
  zero-if true n e = e
  zero-if false n e = refl

  pub no-updates : update_kind frame.head.kind frame.content ≡ 0 → (id : ℕ) → update_on id frame ≡ 0
  no-updates e id = zero-if (id == frame.head.stream) (update_kind frame.head.kind frame.content) e

  if-none : (b : Bool) → (if b then None else (let n : Option Fragments = None in n)) ≡ None
  if-none true = refl
  if-none false = refl

  pub no-block : fragments frame (unfinished run) ≡ None → unfinished (Written frame ∷ run) ≡ None
  no-block e =
      ap (λ (o : Option Fragments). if ends_block frame then None else o) e
      ∙ if-none (ends_block frame)

-- nothing was written on the stream that ends or resets it
over-part : (x : Frame) (xs : List Frame) (id : ℕ) (r n : Bool) → resets id x ≡ r → ends id x ≡ n
    → ((resets id x || ends id x) || list_any (λ f. resets id f || ends id f) xs) ≡ false
    → (list_any (λ f. resets id f || ends id f) xs ≡ false
    → (list_any (resets id) xs ≡ false) × (list_any (ends id) xs ≡ false))
    → (list_any (resets id) (x ∷ xs) ≡ false) × (list_any (ends id) (x ∷ xs) ≡ false)
over-part x xs id true n p q e rest =
    absurd (true≢false
    (sym (ap (λ b. (b || ends id x) || list_any (λ f. resets id f || ends id f) xs) p) ∙ e))
over-part x xs id false true p q e rest =
    absurd (true≢false (sym
    (ap (λ b. (b || ends id x) || list_any (λ f. resets id f || ends id f) xs) p
    ∙ ap (λ b. b || list_any (λ f. resets id f || ends id f) xs) q)
    ∙ e))
over-part x xs id false false p q e rest =
    let behind =
    rest (sym (ap (λ b. (b || ends id x) || list_any (λ f. resets id f || ends id f) xs) p
    ∙ ap (λ b. b || list_any (λ f. resets id f || ends id f) xs) q)
    ∙ e) in (
      ap (λ b. b || list_any (resets id) xs) p ∙ behind.0,
      ap (λ b. b || list_any (ends id) xs) q ∙ behind.1,
    )

over-parts : (xs : List Frame) (id : ℕ) → list_any (λ f. resets id f || ends id f) xs ≡ false
    → (list_any (resets id) xs ≡ false) × (list_any (ends id) xs ≡ false)
over-parts [] id e = (refl, refl)
over-parts (x ∷ xs) id e =
    over-part x xs id (resets id x) (ends id x) refl refl e (over-parts xs id)

pub not-over : (run : List Step) (id : ℕ) → is_over id run ≡ false
    → (list_any (resets id) (frames_of run) ≡ false) × (list_any (ends id) (frames_of run) ≡ false)
not-over run id e = over-parts (frames_of run) id e

-- a header block's stream isn't reset by another frame
pub head-same : (frame : Frame) (frames : List Frame) (block : Option HeaderBlock)
    → is_reset frame.head.kind ≡ false → HasHead frames block → HasHead (frame ∷ frames) block
head-same frame frames None e h = tt
head-same frame frames (Some block) e h =
    ap (λ b. (b && (block.id == frame.head.stream)) || list_any (resets block.id) frames) e ∙ h

-- ---- the first frame

none-written : (frames : List Frame) → has_begun frames ≡ false → frames ≡ []
none-written [] e = refl
none-written (frame ∷ frames) e = cc

none-unfinished : (run : List Step) → frames_of run ≡ [] → unfinished run ≡ None
none-unfinished [] e = refl
none-unfinished (Taken order ∷ run) e = none-unfinished run e
none-unfinished (Granted id n ∷ run) e = none-unfinished run e
none-unfinished (Returned id items ∷ run) e = none-unfinished run e
none-unfinished (Written frame ∷ run) e = cc

pub first-written : (run : List Step) (begun gone : Bool) (w : Windows) (waiting : List Due)
    (block : Option HeaderBlock) (owed : States)
    (frame : Frame) → frame ≡ first_settings → begun ≡ false → gone ≡ false
    → Mirrors run begun gone w waiting block owed
    → MayWrite run frame × Mirrors (Written frame ∷ run) true gone w waiting block owed
first-written run begun gone w waiting block owed frame is not_begun not_gone m =
    let none : frames_of run ≡ [] = none-written (frames_of run) (m.begins ∙ not_begun) in
    let no_update = no-updates run first_settings refl in
    let nothing : unfinished run ≡ None = none-unfinished run none in
    let no_duty : told_by (has_begun (frames_of run)) first_settings ≡ [] =
    ap (λ b. told_by b first_settings) (m.begins ∙ not_begun) in
    subst (λ (f : Frame).
    MayWrite run f × Mirrors (Written f ∷ run) true gone w waiting block owed) (sym is) (
      record {
        first = λ e. refl;
        windows = λ e. cc;
        content = λ e. cc;
        answers = in-answers _ (due run) (tells-none run first_settings waiting no_duty m.answers);
        parts = in-goaways _ (due run) (tells-none run first_settings waiting no_duty m.answers);
        asked = λ e. cc;
        after_reset = λ there was. cc;
        block =
            subst (λ (o : Option Fragments). Continues o first_settings) (sym nothing) (λ e. cc);
        not_reset = ap (list_any (resets 0)) none;
        not_ended = λ e. absurd (true≢false (sym e ∙ ap (list_any (ends 0)) none));
        goes_on = m.goes ∙ not_gone;
        owes = λ id. omega (arith, no_update id);
        update = λ e. cc;
      },
      record {
        begins = refl;
        goes = m.goes;
        windows_follow = windows-same run first_settings w refl refl m.windows_follow;
        answers = due-same run first_settings waiting no_duty m.answers;
        goes_on =
            same-block run (Written first_settings ∷ run) block
            (no-block run first_settings refl ∙ sym nothing) m.goes_on;
        not_reset = head-same first_settings (frames_of run) block refl m.not_reset;
        stand = stand-same run first_settings owed refl refl no_update m.stand;
      },
    )

-- ---- a frame of the connection, or of a stream that it doesn't end, between header blocks

-- what a frame shows that changes no window, ends no stream and is of no header block
pub record IsPlain (frame : Frame) : Type 0 where
  pub no_data : frame.head.kind ≡ kind.Data → ⊥
  pub no_continuation : frame.head.kind ≡ kind.Continuation → ⊥
  pub no_fragment : (begun : Option Fragments) → fragments frame begun ≡ None
  pub no_closing : closing_of frame ≡ []
  pub no_spending : spending_of frame ≡ []
  pub no_end : ends_stream frame ≡ false
  pub no_reset : is_reset frame.head.kind ≡ false

pub plain-written : (run : List Step) (begun gone after : Bool) (w : Windows)
    (waiting left : List Due) (block : Option HeaderBlock)
    (owed less : States) (frame : Frame) → begun ≡ true → gone ≡ false
    → block ≡ None → IsPlain frame
    → Begins (told run ++ told_by (has_begun (frames_of run)) frame) (due run)
    → HasDue (Written frame ∷ run) left
    → list_any (resets frame.head.stream) (frames_of run) ≡ false
    → (list_any (ends frame.head.stream) (frames_of run) ≡ true → MayFollowEnd frame.head.kind)
    → (is_stream frame.head.stream ≡ true → was_reset frame.head.stream run ≡ true → ⊥)
    → ((id : ℕ) → update_on id frame ≤ given id run) → HasStates (Written frame ∷ run) less
    → (frame.head.kind ≡ kind.WindowUpdate
    → (n : ℕ) × (0 < n) × (n < 2 ^ 31) × (frame ≡ update_frame frame.head.stream n))
    → is_last frame ≡ after
    → Mirrors run begun gone w waiting block owed
    → MayWrite run frame × Mirrors (Written frame ∷ run) begun after w left block less
plain-written run begun gone after w waiting left block owed less frame is_begun not_gone no_block
    plain tells dues not_reset not_ended unreset within stand whole last m =
    let nothing : unfinished run ≡ None = subst (HasBlock run) no_block m.goes_on in (
      record {
        first = λ e. absurd (none-begun (frames_of run) (m.begins ∙ is_begun) e);
        windows = λ e. absurd (plain.no_data e);
        content = λ e. absurd (plain.no_data e);
        answers = in-answers _ (due run) tells;
        parts = in-goaways _ (due run) tells;
        asked = λ e. no-asked frame plain.no_reset e;
        after_reset = λ there was. absurd (unreset there was);
        block =
            subst (λ (o : Option Fragments). Continues o frame) (sym nothing) plain.no_continuation;
        not_reset = not_reset;
        not_ended = not_ended;
        goes_on = m.goes ∙ not_gone;
        owes = within;
        update = whole;
      },
      record {
        begins = sym is_begun;
        goes =
            ap (λ b. b || list_any is_last (frames_of run)) last
            ∙ ap (λ b. after || b) (m.goes ∙ not_gone) ∙ or-nothing after;
        windows_follow =
            windows-same run frame w plain.no_closing plain.no_spending m.windows_follow;
        answers = dues;
        goes_on =
            same-block run (Written frame ∷ run) block
            (no-block run frame (plain.no_fragment (unfinished run)) ∙ sym nothing) m.goes_on;
        not_reset = head-same frame (frames_of run) block plain.no_reset m.not_reset;
        stand = stand;
      },
    )
  where
    no-asked : (f : Frame) → is_reset f.head.kind ≡ false → f.head.kind ≡ kind.RstStream
        → (code : ErrorCode) × IsAsked f.head.stream code run × (f ≡ reset_frame f.head.stream code)
    no-asked f none e = absurd (true≢false (sym (ap is_reset e) ∙ none))

    or-nothing : (b : Bool) → (b || false) ≡ b
    or-nothing true = refl
    or-nothing false = refl

-- ---- acknowledgements, and GOAWAY

pub ack-plain : IsPlain settings_ack
ack-plain = record {
  no_data = λ e. cc;
  no_continuation = λ e. cc;
  no_fragment = λ begun. refl;
  no_closing = refl;
  no_spending = refl;
  no_end = refl;
  no_reset = refl;
}

pub ping-ack-plain : (bytes : List ℕ) → IsPlain (ping_ack bytes)
ping-ack-plain bytes = record {
  no_data = λ e. cc;
  no_continuation = λ e. cc;
  no_fragment = λ begun. refl;
  no_closing = refl;
  no_spending = refl;
  no_end = refl;
  no_reset = refl;
}

pub ping-plain : (bytes : List ℕ) → IsPlain (ping_frame bytes)
ping-plain bytes = record {
  no_data = λ e. cc;
  no_continuation = λ e. cc;
  no_fragment = λ begun. refl;
  no_closing = refl;
  no_spending = refl;
  no_end = refl;
  no_reset = refl;
}

pub goaway-plain : (last : ℕ) (reason : Reason) → IsPlain (goaway_frame last reason)
goaway-plain last reason = record {
  no_data = λ e. cc;
  no_continuation = λ e. cc;
  no_fragment = λ begun. refl;
  no_closing = refl;
  no_spending = refl;
  no_end = refl;
  no_reset = refl;
}

pub none-over : (o : Option Bool) → o ≡ None → is_some o ≡ false
none-over None e = refl
none-over (Some b) e = cc

-- nothing ends or resets stream 0
connection-on : (run : List Step) (states : States) → HasOver run states → over_on states 0 ≡ None
    → (list_any (resets 0) (frames_of run) ≡ false) × (list_any (ends 0) (frames_of run) ≡ false)
connection-on run states has none =
    not-over run 0 (sym (has 0).0 ∙ none-over (over_on states 0) none)

no-stream : (id : ℕ) → id ≡ 0 → is_stream id ≡ true → ⊥
no-stream id e there = true≢false (sym there ∙ ap is_stream e)

-- a frame of the connection that is due
pub due-written : (run : List Step) (begun gone after : Bool) (w : Windows) (one : Due)
    (waiting : List Due) (block : Option HeaderBlock)
    (owed : States) (made frame : Frame) → made ≡ frame → begun ≡ true → gone ≡ false → block ≡ None
    → IsPlain frame → frame.head.stream ≡ 0
    → update_kind frame.head.kind frame.content ≡ 0 → told_by true frame ≡ duties_of one
    → (frame.head.kind ≡ kind.WindowUpdate → ⊥) → is_last frame ≡ after
    → Mirrors run begun gone w (one ∷ waiting) block owed
    → MayWrite run made × Mirrors (Written made ∷ run) begun after w waiting block owed
due-written run begun gone after w one waiting block owed made frame is is_begun not_gone no_block
    plain on_0 no_update tells no_credit last m =
    let still = connection-on run owed m.stand.over m.stand.no_stream_0 in
    let none = no-updates run frame no_update in
    let is_told : told_by (has_begun (frames_of run)) frame ≡ duties_of one =
    ap (λ b. told_by b frame) (m.begins ∙ is_begun) ∙ tells in
    subst (λ (f : Frame).
    MayWrite run f × Mirrors (Written f ∷ run) begun after w waiting block owed) (sym is)
    (plain-written run begun gone after w (one ∷ waiting) waiting block owed owed frame is_begun
    not_gone no_block plain
    (tells-first run frame one waiting is_told m.answers)
    (due-told run frame one waiting is_told m.answers)
    (ap (λ id. list_any (resets id) (frames_of run)) on_0 ∙ still.0)
    (λ e.
    absurd (true≢false (sym e ∙ ap (λ id. list_any (ends id) (frames_of run)) on_0 ∙ still.1)))
    (λ there was. no-stream frame.head.stream on_0 there)
    (λ k. omega (arith, none k))
    (stand-same run frame owed plain.no_end plain.no_reset none m.stand)
    (λ e. absurd (no_credit e)) last m)

-- ---- the last word of a dead core

-- between header blocks, a GOAWAY may be written that is asked for now
pub may-part : (run : List Step) (begun gone : Bool) (w : Windows) (waiting : List Due)
    (block : Option HeaderBlock) (owed : States)
    (last : ℕ) (reason : Reason) → begun ≡ true → gone ≡ false → block ≡ None
    → Mirrors run begun gone w waiting block owed
    → MayWrite (Taken (Goaway last reason) ∷ run) (goaway_frame last reason)
may-part run begun gone w waiting block owed last reason is_begun not_gone no_block m =
    let frame : Frame = goaway_frame last reason in
    let nothing : unfinished run ≡ None = subst (HasBlock run) no_block m.goes_on in
    let still = connection-on run owed m.stand.over m.stand.no_stream_0 in
    let none = no-updates run frame refl in
    let tells : told_by (has_begun (frames_of run)) frame ≡ frame ∷ [] =
    ap (λ b. told_by b frame) (m.begins ∙ is_begun) in
    let before : Begins (told run) (due run) = (flat_map duties_of waiting, m.answers.0) in record {
      first = λ e. absurd (none-begun (frames_of run) (m.begins ∙ is_begun) e);
      windows = λ e. cc;
      content = λ e. cc;
      answers =
          subst (λ (more : List Frame).
          Begins (without_goaway (told run ++ more))
          (without_goaway (due run ++ frame ∷ []))) (sym tells)
          (same-answers (told run) (due run) frame refl (in-answers (told run) (due run) before));
      parts =
          subst (λ (more : List Frame).
          AreAmong (goaways (told run ++ more)) (goaways (due run ++ frame ∷ []))) (sym tells)
          (more-goaways (told run) (due run) frame refl (in-goaways (told run) (due run) before));
      asked = λ e. cc;
      after_reset = λ there was. cc;
      block = subst (λ (o : Option Fragments). Continues o frame) (sym nothing) (λ e. cc);
      not_reset = still.0;
      not_ended = λ e. absurd (true≢false (sym e ∙ still.1));
      goes_on = m.goes ∙ not_gone;
      owes = λ id. omega (arith, none id);
      update = λ e. cc;
    }
  where
    same-answers : (front all : List Frame) (frame : Frame) → is_goaway frame.head.kind ≡ true
        → Begins (without_goaway front) (without_goaway all)
        → Begins (without_goaway (front ++ frame ∷ [])) (without_goaway (all ++ frame ∷ []))
    same-answers front all frame is begins =
        subst (λ (f : List Frame). Begins f (without_goaway (all ++ frame ∷ [])))
        (sym (dropped front frame is))
        (subst (λ (f : List Frame). Begins (without_goaway front) f)
        (sym (dropped all frame is)) begins)
      where
        dropped : (frames : List Frame) (frame : Frame) → is_goaway frame.head.kind ≡ true
            → without_goaway (frames ++ frame ∷ []) ≡ without_goaway frames
        dropped frames frame is =
            filter-append (λ f. not (is_goaway f.head.kind)) frames (frame ∷ [])
            ∙ ap (λ b. without_goaway frames ++ (if not b then frame ∷ [] else [])) is
            ∙ append-nil (without_goaway frames)

    more-goaways : (front all : List Frame) (frame : Frame) → is_goaway frame.head.kind ≡ true
        → AreAmong (goaways front) (goaways all)
        → AreAmong (goaways (front ++ frame ∷ [])) (goaways (all ++ frame ∷ []))
    more-goaways front all frame is among =
        subst (λ (f : List Frame). AreAmong f (goaways (all ++ frame ∷ [])))
        (sym (kept front frame is))
        (subst (λ (f : List Frame). AreAmong (goaways front ++ frame ∷ []) f)
        (sym (kept all frame is)) (among-last (goaways front) (goaways all) frame among))
      where
        kept : (frames : List Frame) (frame : Frame) → is_goaway frame.head.kind ≡ true
            → goaways (frames ++ frame ∷ []) ≡ goaways frames ++ frame ∷ []
        kept frames frame is =
            filter-append (λ f. is_goaway f.head.kind) frames (frame ∷ [])
            ∙ ap (λ b. goaways frames ++ (if b then frame ∷ [] else [])) is
