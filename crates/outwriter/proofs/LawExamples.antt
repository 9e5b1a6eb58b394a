-- The law of runs on examples: a run that is lawful, and for each rule a frame that isn't.
use Rattle.std.proofs.Common.{
  ◌≡◌,
  ℕ,
  ◌<◌,
  ◌≤◌,
  ◌⊎◌,
  inl,
  inr,
  refl,
  sym,
  ap,
  subst,
  Bool,
  true,
  false,
  List,
  [],
  ◌∷◌,
  ◌==◌,
  Option,
  length,
  arith,
  ◌∙◌,
  true≢false,
}
use Rattle.std.specs.Prelude.{if◌then◌else◌, is_some}
use Rattle.std.specs.Int.{from_be_bytes, w32}
use Rattle.std.proofs.lemmas.Bool.{eqb-true}
use Rattle.std.proofs.lemmas.List.Elements.{All-cons, All-nil}
use Rattle.account.specs.Accounts.{Begins}
use Rattle.sendwindows.specs.WindowHistory.{CanResize, Opening, Resizing, room_after}
use Rattle.sendwindows.specs.WindowHistory.{Step as WindowStep}
use Rattle.h2frame.specs.declared.error_code.ErrorCode.{ErrorCode}
use Rattle.h2frame.specs.declared.error_code.ErrorCode.TheVariants.{Cancel, InternalError, NoError}
use Rattle.h2frame.specs.declared.fault.FrameFault.{FrameFault}
use Rattle.h2frame.specs.declared.frame.Frame.{Frame}
use Rattle.h2frame.specs.declared.kind.FrameKind.{FrameKind}
use Rattle.h2frame.specs.declared.settings.PeerSetting.TheVariants.{TableSize, WindowSize}
use Rattle.h2frame.specs.Faults.{increment_of}
use Rattle.h2frame.specs.Flags.{end_stream}
use Rattle.h2frame.specs.declared.kind.FrameKind.TheVariants as kind
use Rattle.reasons.specs.declared.Reason.TheVariants.{Code}
use Rattle.outwriter.specs.declared.control.WriterOrder.TheVariants as order
use Rattle.outwriter.specs.Frames.{
  frame_with,
  update_kind,
  update_on,
  first_settings,
  settings_ack,
  ping_ack,
  reset_frame,
  goaway_frame,
  update_frame,
  data_frame,
  headers_frame,
  continuation_frame,
  is_data,
}
use Rattle.outwriter.specs.Histories.{HasHistory, Takes}
use Rattle.outwriter.specs.Parts.{Mark, Tells}
use Rattle.outwriter.specs.Runs.{
  MayWrite,
  MayFollowEnd,
  MayFollowReset,
  IsLawful,
  IsAsked,
  AreAmong,
  owed,
}
use Rattle.outwriter.specs.Steps.{Step, Taken, Granted, Written}
use Rattle.outwriter.specs.Examples.{crediting}
use Rattle.outwriter.specs.RunState.{IsAnswered}
use Rattle.hpack_codec.specs.Table.{Table}
use Rattle.outwriter.proofs.FrameSteps.{no-updates}
use Rattle.outwriter.proofs.EndSteps.{told-amount}
use Rattle.outwriter.proofs.SoundFrames.{
  sound-settings,
  sound-reset,
  sound-update,
  sound-data,
  sound-headers,
  sound-continuation,
}

-- SETTINGS were written
abbrev begun : List Step
begun = Written first_settings ∷ []

-- ---- frames that may not be written

-- anything but SETTINGS comes first
pub late-settings : ¬ MayWrite [] settings_ack
late-settings m = true≢false (ap (λ (frame : Frame). frame.head.length == 0) (m.first refl))

-- DATA on a stream that isn't open has no window
pub closed-stream : ¬ MayWrite begun (data_frame 1 (7 ∷ []))
closed-stream m =
    let fits = (m.windows refl).1 (omega arith) in
    let none : fits.0 ≡ [] =
    subst (λ (earlier : List WindowStep). fits.0 ≡ earlier) fits.1.1 fits.1.2 in
    let room : 1 ≤ room_after [] 1 =
    subst (λ (history : List WindowStep). 1 ≤ room_after history 1) none fits.2 in
    omega (arith, room)

-- nor may it have more bytes than a window has left, here of 1
abbrev narrow : List Step
narrow = Taken (order.Settings (WindowSize 1 ∷ [])) ∷ begun

narrowed : (next : List WindowStep) → Takes begun [] (order.Settings (WindowSize 1 ∷ [])) next
    → next ≡ Resizing 1 ∷ []
narrowed next (inl set) = set.1
narrowed next (inr unset) =
    absurd (unset.0 (All-cons (CanResize []) 1 [] (omega arith, λ id some. tt)
    (All-nil (CanResize []))))

pub past-the-window : ¬ MayWrite (Taken (order.Open 1 tt) ∷ narrow) (data_frame 1 (7 ∷ 8 ∷ []))
past-the-window m =
    let fits = (m.windows refl).1 (omega arith) in
    let set = fits.1.1 in
    let none : set.0 ≡ [] =
    subst (λ (earlier : List WindowStep). set.0 ≡ earlier) set.1.1 set.1.2 in
    let sized : fits.1.0 ≡ Resizing 1 ∷ [] =
    narrowed fits.1.0 (subst (λ (h : List WindowStep).
    Takes begun h (order.Settings (WindowSize 1 ∷ [])) fits.1.0) none set.2) in
    let all : fits.0 ≡ Opening 1 ∷ Resizing 1 ∷ [] =
    subst (λ (h : List WindowStep). Takes narrow h (order.Open 1 tt) fits.0) sized fits.1.2 in
    let room : 2 ≤ room_after (Opening 1 ∷ Resizing 1 ∷ []) 1 =
    subst (λ (history : List WindowStep). 2 ≤ room_after history 1) all fits.2 in
    omega (arith, room)

-- nor more than 16,384
pub too-long : (before : List Step) (id : ℕ) (bytes : List ℕ) → 16384 < length bytes
    → ¬ MayWrite before (data_frame id bytes)
too-long before id bytes long m = omega (arith, long, (m.windows refl).0)

-- DATA without bytes doesn't end its stream
pub empty-data : (before : List Step) → ¬ MayWrite before (data_frame 1 [])
empty-data before m = by (m.content refl)
  where
    by : (0 < 0) ⊎ (false ≡ true) → ⊥
    by (inl some) = omega (arith, some)
    by (inr ends) = true≢false (sym ends)

-- SETTINGS come again
pub settings-again : ¬ MayWrite begun first_settings
settings-again m = by m.answers
  where
    by : Begins (first_settings ∷ []) [] → ⊥
    by (rest, e) = cc

-- a PING is answered before the SETTINGS that were taken before it are acknowledged
pub out-of-order :
    ¬ MayWrite (Taken (order.Ping (1 ∷ [])) ∷ Taken (order.Settings []) ∷ begun) (ping_ack (1 ∷ []))
out-of-order m = by m.answers
  where
    first : Frame → List Frame → Frame
    first none [] = none
    first none (frame ∷ frames) = frame

    by : Begins (ping_ack (1 ∷ []) ∷ []) (settings_ack ∷ ping_ack (1 ∷ []) ∷ []) → ⊥
    by (rest, e) =
        true≢false (ap (λ (frames : List Frame). (first settings_ack frames).head.length == 0) e)

-- nothing asked for GOAWAY
pub unasked-goaway : ¬ MayWrite begun (goaway_frame 7 (Code Cancel))
unasked-goaway m = by m.parts
  where
    by : goaway_frame 7 (Code Cancel) ∷ [] ≡ [] → ⊥
    by e = cc

-- GOAWAY of a later control was written
abbrev swapped : List Frame
swapped = goaway_frame 7 (Code NoError) ∷ goaway_frame 3 (Code NoError) ∷ []

pub goaways-out-of-order :
    ¬ MayWrite (Written (goaway_frame 7 (Code NoError)) ∷ Taken (order.Goaway 7 (Code NoError))
    ∷ Taken (order.Goaway 3 (Code NoError)) ∷ begun) (goaway_frame 3 (Code NoError))
goaways-out-of-order m = by m.parts
  where
    last_of : List Frame → ℕ
    last_of [] = 0
    last_of (frame ∷ frames) = from_be_bytes w32 frame.content

    later : AreAmong swapped (goaway_frame 7 (Code NoError) ∷ []) → ⊥
    later (inl e) = cc
    later (inr (rest, e, none)) =
        let one : 2 ≡ 1 =
        ap (λ (frames : List Frame). length frames) e
        ∙ ap (λ (frames : List Frame). length (goaway_frame 7 (Code NoError) ∷ frames)) none in
        omega (arith, one)

    by : AreAmong swapped (goaway_frame 3 (Code NoError) ∷ goaway_frame 7 (Code NoError) ∷ []) → ⊥
    by (inl among) = later among
    by (inr (rest, e, among)) = true≢false (ap (λ (frames : List Frame). last_of frames == 7) e)

-- nor for a reset, or only for one that isn't to be written
pub unasked-reset : ¬ MayWrite (Taken (order.Reset 3 Cancel false) ∷ begun) (reset_frame 3 Cancel)
unasked-reset m = by (m.asked refl).1
  where
    by : (⊥ × (false ≡ false)) ⊎ ⊥ → ⊥
    by (inl h) = h.0
    by (inr h) = h

-- or one with another error
pub reset-with-another-error :
    ¬ MayWrite (Taken (order.Reset 3 Cancel true) ∷ begun) (reset_frame 3 InternalError)
reset-with-another-error m = by (m.asked refl).0 (m.asked refl).1 (m.asked refl).2
  where
    by : (code : ErrorCode) → IsAsked 3 code (Taken (order.Reset 3 Cancel true) ∷ begun)
        → reset_frame 3 InternalError ≡ reset_frame 3 code → ⊥
    by code (inl asked) e =
        true≢false (ap (λ (frame : Frame). from_be_bytes w32 frame.content == 2)
        (e ∙ ap (λ (c : ErrorCode). reset_frame 3 c) asked.0.1))
    by code (inr none) e = none

-- the peer's reset is answered by one
pub answered-reset :
    ¬ MayWrite (Taken (order.Reset 3 Cancel true) ∷ Taken (order.Reset 3 Cancel false) ∷ begun)
    (reset_frame 3 Cancel)
answered-reset m = by (m.asked refl).1
  where
    by : {A : Type 0} → (A × (true ≡ false)) ⊎ ((⊥ × (false ≡ false)) ⊎ ⊥) → ⊥
    by (inl h) = true≢false h.1
    by (inr (inl h)) = h.0
    by (inr (inr h)) = h

-- a header block is unfinished
pub inside-a-block :
    ¬ MayWrite (Written (headers_frame 5 false false (1 ∷ [])) ∷ begun) (data_frame 5 (7 ∷ []))
inside-a-block m = true≢false (ap is_data m.block.0)

-- none is
pub no-block : ¬ MayWrite begun (continuation_frame 5 true (1 ∷ []))
no-block m = m.block refl

-- a stream that was reset
pub after-a-reset :
    ¬ MayWrite (Written (reset_frame 3 Cancel) ∷ Taken (order.Reset 3 Cancel true) ∷ begun)
    (update_frame 3 4)
after-a-reset m = true≢false m.not_reset

-- one of which a Reset was taken, though no RST_STREAM is to be written
abbrev dropped : List Step
dropped = Taken (order.Reset 3 Cancel false) ∷ Granted 3 4 ∷ Taken (order.Open 3 tt) ∷ begun

abbrev follows-reset : FrameKind → Bool
follows-reset kind.RstStream = true
follows-reset kind.Continuation = true
follows-reset _ = false

may-not-follow : (found : FrameKind) → follows-reset found ≡ false → MayFollowReset found → ⊥
may-not-follow found none (inl e) = true≢false (sym (ap follows-reset e) ∙ none)
may-not-follow found none (inr e) = true≢false (sym (ap follows-reset e) ∙ none)

pub credit-after-a-taken-reset : ¬ MayWrite dropped (update_frame 3 4)
credit-after-a-taken-reset m = may-not-follow kind.WindowUpdate refl (m.after_reset refl refl)

pub data-after-a-taken-reset : ¬ MayWrite dropped (data_frame 3 (7 ∷ []))
data-after-a-taken-reset m = may-not-follow kind.Data refl (m.after_reset refl refl)

pub trailers-after-a-taken-reset : ¬ MayWrite dropped (headers_frame 3 true true (130 ∷ []))
trailers-after-a-taken-reset m = may-not-follow kind.Headers refl (m.after_reset refl refl)

-- and one that has ended
pub after-the-end :
    ¬ MayWrite (Written (headers_frame 1 true true (130 ∷ [])) ∷ begun)
    (headers_frame 1 true true (130 ∷ []))
after-the-end m = by (m.not_ended refl)
  where
    may_follow : FrameKind → Bool
    may_follow kind.WindowUpdate = true
    may_follow kind.Continuation = true
    may_follow _ = false

    by : MayFollowEnd kind.Headers → ⊥
    by (inl e) = true≢false (sym (ap may_follow e))
    by (inr e) = true≢false (sym (ap may_follow e))

-- a GOAWAY with an error was the last frame
pub after-the-last :
    ¬ MayWrite (Written (goaway_frame 7 (Code Cancel))
    ∷ Taken (order.Goaway 7 (Code Cancel)) ∷ begun) settings_ack
after-the-last m = true≢false m.goes_on

-- more credit than was granted
pub ungranted : ¬ MayWrite (Granted 1 3 ∷ Taken (order.Open 1 tt) ∷ begun) (update_frame 1 4)
ungranted m = omega (arith, m.owes 1)

-- more than is owed: what was granted before the stream was opened is not, nor what is past 2^31 -
-- 1 at once, nor what was told
pub unowed-before-an-open :
    ¬ MayWrite (Taken (order.Open 1 tt) ∷ Granted 1 4 ∷ begun) (update_frame 1 4)
unowed-before-an-open m = omega (arith, m.owes 1)

pub more-than-is-owed : ¬ MayWrite crediting (update_frame 1 7)
more-than-is-owed m = omega (arith, m.owes 1)

pub told-twice : ¬ MayWrite (Written (update_frame 0 9) ∷ crediting) (update_frame 0 9)
told-twice m = omega (arith, m.owes 0)

-- on a stream that was reset nothing is owed
pub unowed-after-a-reset : ¬ MayWrite dropped (update_frame 3 4)
unowed-after-a-reset m = omega (arith, m.owes 3)

-- and nobody may rest, as long as something is owed
pub still-owed : ¬ IsAnswered crediting
still-owed (inl last) = true≢false (sym last)
still-owed (inr answered) = omega (arith, answered.2 1)

-- and none
pub no-credit : ¬ MayWrite begun (update_frame 1 0)
no-credit m =
    let told = m.update refl in
    let amount : 0 ≡ told.0 =
    ap (λ (frame : Frame). increment_of frame.content) told.3 ∙ told-amount told.0 told.2 in
    omega (arith, amount, told.1)

-- ---- frames that are not sound

-- the head has another length than the content
pub other-length : (before : List Step)
    → ¬ IsLawful (Written (record {
      head =
          record { kind = kind.Data; flags = record { bits = end_stream }; stream = 1; length = 0 };
      content = 7 ∷ [];
    }) ∷ before)
other-length before l = true≢false (ap (λ n. n == 0) l.0.writable.whole)

-- DATA on stream 0
pub data-on-stream-0 : (before : List Step) → ¬ IsLawful (Written (data_frame 0 (7 ∷ [])) ∷ before)
data-on-stream-0 before l =
    true≢false (ap (λ (fault : Option FrameFault). is_some fault) l.0.faultless)

-- END_STREAM on CONTINUATION
pub end-on-continuation : (before : List Step)
    → ¬ IsLawful (Written (frame_with kind.Continuation end_stream 5 (131 ∷ [])) ∷ before)
end-on-continuation before l = true≢false (ap (λ n. n == 0) l.0.flags)

-- ---- a header block that tells nothing

-- it leaves a greater table than SETTINGS allow
pub table-over-the-limit : (table : Table) (marks : List (ℕ × Mark)) → 100 < table.limit
    → ¬ Tells (Written (headers_frame 1 true true (130 ∷ []))
    ∷ Taken (order.Settings (TableSize 100 ∷ [])) ∷ begun) table marks
table-over-the-limit table marks over tells =
    let limited : table.limit ≤ 100 = tells.3.2 in
    omega (arith, limited, over)

-- ---- a lawful run

-- no credit is told
calm : (before : List Step) (frame : Frame) → update_kind frame.head.kind frame.content ≡ 0
    → (id : ℕ) → update_on id frame ≤ owed id before
calm before frame none id = omega (arith, no-updates before frame none id)

-- a call is opened, and answered by headers, a message and trailers
abbrev opened : List Step
opened = Taken (order.Open 1 tt) ∷ begun

abbrev headed : List Step
headed = Written (headers_frame 1 false true (130 ∷ [])) ∷ opened

abbrev sent : List Step
sent = Written (data_frame 1 (8 ∷ 9 ∷ [])) ∷ headed

first-may : MayWrite [] first_settings
first-may = record {
  first = λ e. refl;
  windows = λ e. cc;
  content = λ e. cc;
  answers = ([], refl);
  parts = refl;
  asked = λ e. cc;
  after_reset = λ there was. cc;
  block = λ e. cc;
  not_reset = refl;
  not_ended = λ e. cc;
  goes_on = refl;
  owes = calm [] first_settings refl;
  update = λ e. cc;
}

head-may : MayWrite opened (headers_frame 1 false true (130 ∷ []))
head-may = record {
  first = λ e. cc;
  windows = λ e. cc;
  content = λ e. cc;
  answers = ([], refl);
  parts = refl;
  asked = λ e. cc;
  after_reset = λ there was. cc;
  block = λ e. cc;
  not_reset = refl;
  not_ended = λ e. cc;
  goes_on = refl;
  owes = calm opened (headers_frame 1 false true (130 ∷ [])) refl;
  update = λ e. cc;
}

has-window : HasHistory headed (Opening 1 ∷ [])
has-window = (Opening 1 ∷ [], ([], ([], refl, refl), refl), refl)

data-may : MayWrite headed (data_frame 1 (8 ∷ 9 ∷ []))
data-may = record {
  first = λ e. cc;
  windows = λ e. (omega arith, λ some. (Opening 1 ∷ [], has-window, omega arith));
  content = λ e. inl (omega arith);
  answers = ([], refl);
  parts = refl;
  asked = λ e. cc;
  after_reset = λ there was. cc;
  block = λ e. cc;
  not_reset = refl;
  not_ended = λ e. cc;
  goes_on = refl;
  owes = calm headed (data_frame 1 (8 ∷ 9 ∷ [])) refl;
  update = λ e. cc;
}

end-may : MayWrite sent (headers_frame 1 true true (130 ∷ []))
end-may = record {
  first = λ e. cc;
  windows = λ e. cc;
  content = λ e. cc;
  answers = ([], refl);
  parts = refl;
  asked = λ e. cc;
  after_reset = λ there was. cc;
  block = λ e. cc;
  not_reset = refl;
  not_ended = λ e. cc;
  goes_on = refl;
  owes = calm sent (headers_frame 1 true true (130 ∷ [])) refl;
  update = λ e. cc;
}

pub one-call : IsLawful (Written (headers_frame 1 true true (130 ∷ [])) ∷ sent)
one-call = (
  sound-headers 1 true true (130 ∷ []) (omega arith) (omega arith) (omega arith),
  end-may,
  (
    sound-data 1 (8 ∷ 9 ∷ []) (omega arith) (omega arith) (omega arith),
    data-may,
    (
      sound-headers 1 false true (130 ∷ []) (omega arith) (omega arith) (omega arith),
      head-may,
      (sound-settings, first-may, tt),
    ),
  ),
)

-- ---- another: a Reset comes inside of a header block, of which the rest is written, and then
-- RST_STREAM

abbrev half : List Step
half = Written (headers_frame 5 false false (130 ∷ [])) ∷ Taken (order.Open 5 tt) ∷ begun

abbrev cut : List Step
cut = Taken (order.Reset 5 Cancel true) ∷ half

abbrev rest : List Step
rest = Written (continuation_frame 5 true (131 ∷ [])) ∷ cut

half-may : MayWrite (Taken (order.Open 5 tt) ∷ begun) (headers_frame 5 false false (130 ∷ []))
half-may = record {
  first = λ e. cc;
  windows = λ e. cc;
  content = λ e. cc;
  answers = ([], refl);
  parts = refl;
  asked = λ e. cc;
  after_reset = λ there was. cc;
  block = λ e. cc;
  not_reset = refl;
  not_ended = λ e. cc;
  goes_on = refl;
  owes = calm (Taken (order.Open 5 tt) ∷ begun) (headers_frame 5 false false (130 ∷ [])) refl;
  update = λ e. cc;
}

rest-may : MayWrite cut (continuation_frame 5 true (131 ∷ []))
rest-may = record {
  first = λ e. cc;
  windows = λ e. cc;
  content = λ e. cc;
  answers = ([], refl);
  parts = refl;
  asked = λ e. cc;
  after_reset = λ there was. inr refl;
  block = (refl, refl);
  not_reset = refl;
  not_ended = λ e. cc;
  goes_on = refl;
  owes = calm cut (continuation_frame 5 true (131 ∷ [])) refl;
  update = λ e. cc;
}

reset-may : MayWrite rest (reset_frame 5 Cancel)
reset-may = record {
  first = λ e. cc;
  windows = λ e. cc;
  content = λ e. cc;
  answers = ([], refl);
  parts = refl;
  asked = λ e. (Cancel, inl ((refl, refl), refl), refl);
  after_reset = λ there was. inl refl;
  block = λ e. cc;
  not_reset = refl;
  not_ended = λ e. cc;
  goes_on = refl;
  owes = calm rest (reset_frame 5 Cancel) refl;
  update = λ e. cc;
}

pub one-reset : IsLawful (Written (reset_frame 5 Cancel) ∷ rest)
one-reset = (
  sound-reset 5 Cancel (omega arith) (omega arith),
  reset-may,
  (
    sound-continuation 5 true (131 ∷ []) (omega arith) (omega arith) (omega arith),
    rest-may,
    (
      sound-headers 5 false false (130 ∷ []) (omega arith) (omega arith) (omega arith),
      half-may,
      (sound-settings, first-may, tt),
    ),
  ),
)

-- ---- a third: credit is granted on the connection and on a call's stream, and told as it is owed

abbrev granted-once : List Step
granted-once = Granted 1 6 ∷ Granted 0 9 ∷ Granted 1 4 ∷ Taken (order.Open 1 tt) ∷ begun

owed-once : (id : ℕ) → update_on id (update_frame 1 4) ≤ owed id granted-once
owed-once id = by (id == 1) refl
  where
    by : (b : Bool) → (id == 1) ≡ b → update_on id (update_frame 1 4) ≤ owed id granted-once
    by true p =
        let P : ℕ → Type 0 = λ k. update_on k (update_frame 1 4) ≤ owed k granted-once in
        subst P (sym (eqb-true id 1 p)) (omega arith)
    by false p =
        let none : update_on id (update_frame 1 4) ≡ 0 = ap (λ b. if b then 4 else 0) p in
        omega (arith, none)

credit-may : MayWrite granted-once (update_frame 1 4)
credit-may = record {
  first = λ e. cc;
  windows = λ e. cc;
  content = λ e. cc;
  answers = ([], refl);
  parts = refl;
  asked = λ e. cc;
  after_reset = λ there was. cc;
  block = λ e. cc;
  not_reset = refl;
  not_ended = λ e. cc;
  goes_on = refl;
  owes = owed-once;
  update = λ e. (4, omega arith, omega arith, refl);
}

pub one-credit : IsLawful crediting
one-credit = (
  sound-update 1 4 (omega arith) (omega arith) (omega arith),
  credit-may,
  (sound-settings, first-may, tt),
)
