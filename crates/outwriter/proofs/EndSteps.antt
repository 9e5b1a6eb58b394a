-- A frame that ends a stream or resets it.
use Rattle.std.proofs.Common.{
  ◌≡◌,
  ◌⊎◌,
  ℕ,
  ◌-◌,
  ◌<◌,
  ◌≤◌,
  ◌==◌,
  inl,
  inr,
  refl,
  sym,
  ap,
  subst,
  ◌∙◌,
  Bool,
  true,
  false,
  List,
  [],
  ◌∷◌,
  ◌++◌,
  Option,
  Some,
  None,
  length,
  arith,
  true≢false,
}
use Rattle.std.specs.Prelude.{
  IfSome,
  MatchOption,
  flat_map,
  take,
  drop,
  ◌%◌,
  ◌^◌,
  ◌||◌,
  ◌&&◌,
  is_some,
  not,
  if◌then◌else◌,
}
use Rattle.std.specs.List.{list_any}
use Rattle.std.specs.Int.{bytes_high_first}
use Rattle.std.proofs.lemmas.Nat.{from_be_bytes-to_be_bytes_4}
use Rattle.std.proofs.lemmas.Bool.{eqb-true, eq-eqb, ne_eqb}
use Rattle.h2frame.specs.Faults.{increment_of}
use Rattle.hpack_codec.proofs.Bits.{small_mod}
use Rattle.std.proofs.lemmas.List.Elements.{All-head}
use Rattle.sendwindows.specs.WindowHistory.{Follows, Closing, room_after}
use Rattle.sendwindows.specs.WindowHistory.{Step as WindowStep}
use Rattle.sendwindows.specs.Windows.{Windows}
use Rattle.h2frame.specs.declared.error_code.ErrorCode.{ErrorCode}
use Rattle.h2frame.specs.declared.frame.Frame.{Frame}
use Rattle.outwriter.specs.declared.blocks.HeaderBlock.{HeaderBlock}
use Rattle.outwriter.specs.declared.control.WriterOrder.TheVariants as order
use Rattle.outwriter.specs.declared.due.Due.{Due}
use Rattle.outwriter.specs.declared.due.Due.TheVariants as due_kind
use Rattle.outwriter.specs.Blocks.{frame_of, rest_of, is_short}
use Rattle.outwriter.specs.States.{
  States,
  SameEnds,
  SameOwed,
  SetsEnd,
  is_reset,
  over_on,
  owed_on,
  TakesAll,
}
use Rattle.outwriter.specs.Frames.{
  resets,
  ends,
  update_on,
  reset_frame,
  data_frame,
  update_frame,
  headers_frame,
  continuation_frame,
  ends_stream,
  ends_block,
}
use Rattle.outwriter.specs.Histories.{
  is_over,
  is_stream,
  closing_of,
  spending_of,
  resets_stream,
  was_reset,
}
use Rattle.outwriter.specs.declared.outbound.Outbound.{Outbound}
use Rattle.outwriter.specs.RunState.{
  BeginsBlock,
  IsBetween,
  MirrorsOf,
  Mirrors,
  resets_of,
  HasWindows,
  HasOver,
  HasDue,
  HasBlock,
  HasHead,
  HasResets,
  HasStates,
  spent,
  closing,
  Keeps,
  Ends,
}
use Rattle.outwriter.specs.Runs.{
  due,
  IsAsked,
  Fragments,
  Continues,
  MayWrite,
  fragments,
  unfinished,
  is_opened,
  may_owe,
  owed as given,
}
use Rattle.outwriter.specs.Steps.{Step, Taken, Granted, Written, Returned, frames_of}
use Rattle.outwriter.proofs.Others.{or-true}
use Rattle.outwriter.proofs.RunStateSteps.{same-block, over-kept, owed-kept, stand-but-open}
use Rattle.outwriter.proofs.FrameSteps.{
  in-answers,
  in-goaways,
  not-over,
  none-over,
  none-begun,
  no-updates,
  tells-first,
  due-told,
  no-block,
  over-same,
  stand-same,
  due-same,
  tells-none,
  owes-same,
  windows-same,
  head-same,
  plain-written,
  IsPlain,
}

-- the windows go on by what a frame closes and spends
pub windows-more : (run : List Step) (frame : Frame) (w windows : Windows) (more : List WindowStep)
    → ((history : List WindowStep)
    → closing_of frame ++ (spending_of frame ++ history) ≡ more ++ history)
    → ((history : List WindowStep) → Follows history w → Follows (more ++ history) windows)
    → HasWindows run w → HasWindows (Written frame ∷ run) windows
windows-more run frame w windows more e follows (h, has, f) =
    (more ++ h, (h, has, sym (e h)), follows h f)

not-some : (o : Option Bool) → o ≡ None → o ≡ Some true → ⊥
not-some None e f = cc
not-some (Some b) e f = cc

was-false : (b : Bool) (o : Option Bool) → o ≡ Some b → (o ≡ Some true → ⊥) → b ≡ false
was-false true o e isnt = absurd (isnt e)
was-false false o e isnt = refl

-- the end of the stream is written by this frame
over-more : (run : List Step) (frame : Frame) (old new : States) (id : ℕ) (reset : Bool)
    → ((k : ℕ) → (resets k frame || ends k frame) ≡ (k == id))
    → ((k : ℕ) → reset ≡ false → resets k frame ≡ false)
    → ((k : ℕ) → (k == id) ≡ false → resets k frame ≡ false)
    → SetsEnd old id reset new → over_on old id ≡ None → HasOver run old
    → HasOver (Written frame ∷ run) new
over-more run frame old new id reset each only other sets none has k = by (k == id) refl
  where
    by : (b : Bool) → (k == id) ≡ b
        → (is_some (over_on new k) ≡ ((resets k frame || ends k frame) || is_over k run))
        × ((over_on new k ≡ Some true → ⊥)
        → (resets k frame || list_any (resets k) (frames_of run)) ≡ false)
    by true p =
        let here : over_on new k ≡ Some reset =
        sets.0 k ∙ ap (λ b. if b then Some reset else over_on old k) p in
        let P : ℕ → Type 0 = λ n. over_on old n ≡ None in
        let none_k : over_on old k ≡ None = subst P (sym (eqb-true k id p)) none in (
          ap is_some here ∙ sym (ap (λ b. b || is_over k run) (each k ∙ p)),
          λ not_reset.
              ap (λ b. b || list_any (resets k) (frames_of run))
              (only k (was-false reset (over_on new k) here not_reset))
              ∙ (has k).1 (not-some (over_on old k) none_k),
        )
    by false p =
        let same : over_on new k ≡ over_on old k =
        sets.0 k ∙ ap (λ b. if b then Some reset else over_on old k) p in (
          ap is_some same ∙ (has k).0 ∙ sym (ap (λ b. b || is_over k run) (each k ∙ p)),
          λ not_reset.
              ap (λ b. b || list_any (resets k) (frames_of run)) (other k p)
              ∙ (has k).1 (λ e. not_reset (same ∙ e)),
        )

-- how each stream stands, where what is owed is the same
ended-stand : (run : List Step) (frame : Frame) (old new : States) (id : ℕ) (reset : Bool)
    → ((k : ℕ) → (resets k frame || ends k frame) ≡ (k == id))
    → ((k : ℕ) → reset ≡ false → resets k frame ≡ false)
    → ((k : ℕ) → (k == id) ≡ false → resets k frame ≡ false) → ((k : ℕ) → update_on k frame ≡ 0)
    → (reset ≡ true → is_reset old id ≡ true)
    → 0 < id → SetsEnd old id reset new → SameOwed old new → over_on old id ≡ None
    → HasStates run old → HasStates (Written frame ∷ run) new
ended-stand run frame old new id reset each only other updates was there sets same none h = record {
  over = over-more run frame old new id reset each only other sets none h.over;
  silent = λ k e. (same.0 k).2 ∙ silent k e (k == id) refl;
  resets = λ k number. (same.0 k).2 ∙ h.resets k number;
  owes = owed-kept (Written frame ∷ run) old new same (owes-same run frame old updates h.owes);
  no_stream_0 =
      sets.0 0
      ∙ ap (λ b. if b then Some reset else over_on old 0)
      (ne_eqb 0 id (λ e. omega (arith, e, there)))
      ∙ h.no_stream_0;
}
  where
    by-reset : (b : Bool) → Some b ≡ Some true → b ≡ true
    by-reset true e = refl
    by-reset false e = cc

    silent : (k : ℕ) → over_on new k ≡ Some true → (b : Bool) → (k == id) ≡ b
        → is_reset old k ≡ true
    silent k e true p =
        ap (λ n. is_reset old n) (eqb-true k id p)
        ∙ was (by-reset reset
        (sym (sets.0 k ∙ ap (λ b. if b then Some reset else over_on old k) p) ∙ e))
    silent k e false p =
        h.silent k (sym (sets.0 k ∙ ap (λ b. if b then Some reset else over_on old k) p) ∙ e)

-- a stream was reset where its RST_STREAM was asked for
asked-reset : (run : List Step) (id : ℕ) (code : ErrorCode) → IsAsked id code run
    → was_reset id run ≡ true
asked-reset [] id code asked = absurd asked
asked-reset (Granted stream n ∷ run) id code asked = asked-reset run id code asked
asked-reset (Returned stream items ∷ run) id code asked = asked-reset run id code asked
asked-reset (Written frame ∷ run) id code asked = asked-reset run id code asked
asked-reset (Taken one ∷ run) id code (inr before) =
    or-true (resets_stream id one) (was_reset id run) (asked-reset run id code before)
asked-reset (Taken (order.Reset stream found true) ∷ run) id code (inl asked) =
    ap (λ b. b || was_reset id run) (eq-eqb id stream asked.0.0)
asked-reset (Taken (order.Reset stream found false) ∷ run) id code (inl asked) = absurd asked.0
asked-reset (Taken (order.Settings settings) ∷ run) id code (inl asked) = absurd asked.0
asked-reset (Taken (order.Ping bytes) ∷ run) id code (inl asked) = absurd asked.0
asked-reset (Taken (order.Probe bytes) ∷ run) id code (inl asked) = absurd asked.0
asked-reset (Taken (order.Window stream n) ∷ run) id code (inl asked) = absurd asked.0
asked-reset (Taken (order.Open stream sender) ∷ run) id code (inl asked) = absurd asked.0
asked-reset (Taken (order.Refuse stream fields) ∷ run) id code (inl asked) = absurd asked.0
asked-reset (Taken (order.Goaway last found) ∷ run) id code (inl asked) = absurd asked.0
asked-reset (Taken order.InputEnded ∷ run) id code (inl asked) = absurd asked.0
asked-reset (Taken order.Close ∷ run) id code (inl asked) = absurd asked.0

-- and wasn't, where that isn't kept
pub unreset : (run : List Step) (id : ℕ) (owed : States) → HasResets run owed
    → is_reset owed id ≡ false → is_stream id ≡ true → was_reset id run ≡ true → ⊥
unreset run id owed resets none there was = true≢false (sym was ∙ sym (resets id there) ∙ none)

or-none : (b : Bool) → (b || false) ≡ b
or-none true = refl
or-none false = refl

pub reset-written : (run : List Step) (begun gone : Bool) (w windows : Windows) (waiting : List Due)
    (block : Option HeaderBlock)
    (owed less : States) (id : ℕ) (code : ErrorCode) (made : Frame) → made ≡ reset_frame id code
    → begun ≡ true → gone ≡ false → block ≡ None
    → 0 < id → is_stream id ≡ true → over_on owed id ≡ None
    → ((history : List WindowStep) → Follows history w → Follows (Closing id ∷ history) windows)
    → SetsEnd owed id true less → SameOwed owed less
    → Mirrors run begun gone w (due_kind.Reset id code ∷ waiting) block owed
    → MayWrite run made × Mirrors (Written made ∷ run) begun gone windows waiting block less
reset-written run begun gone w windows waiting block owed less id code made is is_begun not_gone
    no_block there number is_open follows sets same m =
    let Asked : ℕ × ErrorCode → Type 0 = λ reset. IsAsked reset.0 reset.1 run in
    let nothing : unfinished run ≡ None = subst (HasBlock run) no_block m.goes_on in
    let still = not-over run id (sym (m.stand.over id).0 ∙ none-over (over_on owed id) is_open) in
    let none = no-updates run (reset_frame id code) refl in
    let asked = All-head Asked (id, code) (flat_map resets_of waiting) m.answers.1 in
    subst (λ (f : Frame).
    MayWrite run f × Mirrors (Written f ∷ run) begun gone windows waiting block less) (sym is) (
      record {
        first = λ e. absurd (none-begun (frames_of run) (m.begins ∙ is_begun) e);
        windows = λ e. cc;
        content = λ e. cc;
        answers =
            in-answers _ (due run)
            (tells-first run (reset_frame id code) (due_kind.Reset id code) waiting refl m.answers);
        parts =
            in-goaways _ (due run)
            (tells-first run (reset_frame id code) (due_kind.Reset id code) waiting refl m.answers);
        asked = λ e. (code, asked, refl);
        after_reset = λ is_one was. inl refl;
        block =
            subst (λ (o : Option Fragments). Continues o (reset_frame id code))
            (sym nothing) (λ e. cc);
        not_reset = still.0;
        not_ended = λ e. absurd (true≢false (sym e ∙ still.1));
        goes_on = m.goes ∙ not_gone;
        owes = λ k. omega (arith, none k);
        update = λ e. cc;
      },
      record {
        begins = sym is_begun;
        goes = m.goes;
        windows_follow =
            windows-more run (reset_frame id code) w windows (Closing id ∷ []) (λ h. refl)
            follows m.windows_follow;
        answers =
            due-told run (reset_frame id code) (due_kind.Reset id code) waiting refl m.answers;
        goes_on =
            same-block run (Written (reset_frame id code) ∷ run) block
            (no-block run (reset_frame id code) refl ∙ sym nothing) m.goes_on;
        not_reset = subst (HasHead (reset_frame id code ∷ frames_of run)) (sym no_block) tt;
        stand =
            ended-stand run (reset_frame id code) owed less id true (λ k. or-none (k == id))
            (λ k e. cc) (λ k e. e) none
            (λ e. m.stand.resets id number ∙ asked-reset run id code asked) there sets
            same is_open m.stand;
      },
    )

-- ---- header blocks (RFC 9113, section 6.2)

head-ends : (id : ℕ) (ends_it whole : Bool) (fragment : List ℕ)
    → ends_stream (headers_frame id ends_it whole fragment) ≡ ends_it
head-ends id true true fragment = refl
head-ends id true false fragment = refl
head-ends id false true fragment = refl
head-ends id false false fragment = refl

head-whole : (id : ℕ) (ends_it whole : Bool) (fragment : List ℕ)
    → ends_block (headers_frame id ends_it whole fragment) ≡ whole
head-whole id true true fragment = refl
head-whole id true false fragment = refl
head-whole id false true fragment = refl
head-whole id false false fragment = refl

more-whole : (id : ℕ) (whole : Bool) (fragment : List ℕ)
    → ends_block (continuation_frame id whole fragment) ≡ whole
more-whole id true fragment = refl
more-whole id false fragment = refl

closes : (id : ℕ) (ends_it whole : Bool) (fragment : List ℕ) (history : List WindowStep)
    → closing_of (headers_frame id ends_it whole fragment)
    ++ (spending_of (headers_frame id ends_it whole fragment) ++ history)
    ≡ closing id ends_it ++ history
closes id true true fragment history = refl
closes id true false fragment history = refl
closes id false true fragment history = refl
closes id false false fragment history = refl

kept-block : (run : List Step) (id : ℕ) (left : Option HeaderBlock) (written : Fragments)
    → written.stream ≡ id → unfinished run ≡ Some written
    → MatchOption left ⊥ (λ block. (block.begun ≡ true) × (block.id ≡ id)) → HasBlock run left
kept-block run id None written on e keeps = absurd keeps
kept-block run id (Some block) written on e (begun, is_id) =
    subst (λ (o : Option Fragments).
    (block.begun ≡ true) × IfSome o (λ f. f.stream ≡ block.id) × (o ≡ None → ⊥)) (sym e)
    (begun, on ∙ sym is_id, λ none. cc)

pub headed-block : (run : List Step) (id : ℕ) (ends_it whole : Bool) (fragment : List ℕ)
    (left : Option HeaderBlock)
    → Keeps id whole left
    → HasBlock (Written (headers_frame id ends_it whole fragment) ∷ run) left
headed-block run id ends_it true fragment left keeps =
    subst (HasBlock (Written (headers_frame id ends_it true fragment) ∷ run)) (sym keeps) (ap
    (λ b. if b then None else fragments (headers_frame id ends_it true fragment) (unfinished run))
    (head-whole id ends_it true fragment))
headed-block run id ends_it false fragment left keeps =
    kept-block (Written (headers_frame id ends_it false fragment) ∷ run) id left
    (record {
      stream = id;
      bytes = fragment;
      ends_it = ends_stream (headers_frame id ends_it false fragment);
    }) refl
    (ap
    (λ b. if b then None else fragments (headers_frame id ends_it false fragment) (unfinished run))
    (head-whole id ends_it false fragment)) keeps

headed-stand : (run : List Step) (id : ℕ) (ends_it whole : Bool) (fragment : List ℕ)
    (old new : States)
    → Ends old id ends_it new → SameOwed old new → 0 < id
    → over_on old id ≡ None → HasStates run old
    → HasStates (Written (headers_frame id ends_it whole fragment) ∷ run) new
headed-stand run id true whole fragment old new sets same there none h =
    ended-stand run (headers_frame id true whole fragment) old new id false
    (λ k. ap (λ b. b && (k == id)) (head-ends id true whole fragment)) (λ k e. refl) (λ k e. refl)
    (no-updates run (headers_frame id true whole fragment) refl) (λ e. absurd (true≢false (sym e)))
    there sets same none h
headed-stand run id false whole fragment old new is same there none h =
    subst (HasStates (Written (headers_frame id false whole fragment) ∷ run)) (sym is)
    (stand-but-open (Written (headers_frame id false whole fragment) ∷ run) old new.opened
    (stand-same run (headers_frame id false whole fragment) old (head-ends id false whole fragment)
    refl (no-updates run (headers_frame id false whole fragment) refl) h))

headed-head : (run : List Step) (id : ℕ) (ends_it whole : Bool) (fragment : List ℕ)
    (left : Option HeaderBlock)
    → Keeps id whole left
    → list_any (resets id) (frames_of run) ≡ false
    → HasHead (headers_frame id ends_it whole fragment ∷ frames_of run) left
headed-head run id ends_it true fragment left keeps still =
    subst (HasHead (headers_frame id ends_it true fragment ∷ frames_of run)) (sym keeps) tt
headed-head run id ends_it false fragment None keeps still = absurd keeps
headed-head run id ends_it false fragment (Some block) keeps still =
    ap (λ k. list_any (resets k) (frames_of run)) keeps.1 ∙ still

-- what is kept behind a block's frame
pub keeps-rest : (block : HeaderBlock) → Keeps block.id (is_short block) (rest_of block)
keeps-rest block = by (is_short block)
  where
    by : (b : Bool)
        → Keeps block.id b (if b then None
        else Some (record {
          id = block.id;
          ends = block.ends;
          begun = true;
          rest = drop 16384 block.rest;
        }))
    by true = refl
    by false = (refl, refl)

-- HEADERS, for which what is due is as it was, or lost what obliges to nothing
pub headers-written : (run : List Step) (begun gone : Bool) (w windows : Windows)
    (waiting left : List Due)
    (block rest : Option HeaderBlock) (owed less : States) (id : ℕ) (ends_it whole : Bool)
    (fragment : List ℕ) (made : Frame)
    → made ≡ headers_frame id ends_it whole fragment → begun ≡ true → gone ≡ false → block ≡ None
    → 0 < id → over_on owed id ≡ None → is_reset owed id ≡ false
    → ((history : List WindowStep) → Follows history w
    → Follows (closing id ends_it ++ history) windows)
    → Ends owed id ends_it less → SameOwed owed less → Keeps id whole rest → HasDue run left
    → Mirrors run begun gone w waiting block owed
    → MayWrite run made × Mirrors (Written made ∷ run) begun gone windows left rest less
headers-written run begun gone w windows waiting left block rest owed less id ends_it whole fragment
    made is is_begun not_gone no_block there is_open not_reset follows sets same keeps dues m =
    let nothing : unfinished run ≡ None = subst (HasBlock run) no_block m.goes_on in
    let still = not-over run id (sym (m.stand.over id).0 ∙ none-over (over_on owed id) is_open) in
    let none = no-updates run (headers_frame id ends_it whole fragment) refl in
    subst (λ (f : Frame).
    MayWrite run f × Mirrors (Written f ∷ run) begun gone windows left rest less) (sym is) (
      record {
        first = λ e. absurd (none-begun (frames_of run) (m.begins ∙ is_begun) e);
        windows = λ e. cc;
        content = λ e. cc;
        answers =
            in-answers _ (due run)
            (tells-none run (headers_frame id ends_it whole fragment) left refl dues);
        parts =
            in-goaways _ (due run)
            (tells-none run (headers_frame id ends_it whole fragment) left refl dues);
        asked = λ e. cc;
        after_reset = λ is_one was.
            absurd (unreset run id owed m.stand.resets not_reset is_one was);
        block =
            subst (λ (o : Option Fragments). Continues o (headers_frame id ends_it whole fragment))
            (sym nothing) (λ e. cc);
        not_reset = still.0;
        not_ended = λ e. absurd (true≢false (sym e ∙ still.1));
        goes_on = m.goes ∙ not_gone;
        owes = λ k. omega (arith, none k);
        update = λ e. cc;
      },
      record {
        begins = sym is_begun;
        goes = m.goes;
        windows_follow =
            windows-more run (headers_frame id ends_it whole fragment) w windows
            (closing id ends_it) (closes id ends_it whole fragment) follows m.windows_follow;
        answers = due-same run (headers_frame id ends_it whole fragment) left refl dues;
        goes_on = headed-block run id ends_it whole fragment rest keeps;
        not_reset = headed-head run id ends_it whole fragment rest keeps still.0;
        stand =
            headed-stand run id ends_it whole fragment owed less sets same there is_open m.stand;
      },
    )

-- ---- the rest of a header block (RFC 9113, section 6.10)

goes-on : (o : Option Fragments) (id : ℕ) (whole : Bool) (fragment : List ℕ)
    → IfSome o (λ written. written.stream ≡ id) → (o ≡ None → ⊥)
    → Continues o (continuation_frame id whole fragment)
goes-on None id whole fragment on some = absurd (some refl)
goes-on (Some written) id whole fragment on some = (refl, sym on)

continued-fragments : (o : Option Fragments) (id : ℕ) (fragment : List ℕ)
    → IfSome o (λ written. written.stream ≡ id) → (o ≡ None → ⊥)
    → (written : Fragments) × (written.stream ≡ id)
    × (fragments (continuation_frame id false fragment) o ≡ Some written)
continued-fragments None id fragment on some = absurd (some refl)
continued-fragments (Some written) id fragment on some = (
  record { stream = written.stream; bytes = written.bytes ++ fragment; ends_it = written.ends_it },
  on,
  refl,
)

continued-block : (run : List Step) (id : ℕ) (whole : Bool) (fragment : List ℕ)
    (left : Option HeaderBlock)
    → Keeps id whole left
    → IfSome (unfinished run) (λ written. written.stream ≡ id) → (unfinished run ≡ None → ⊥)
    → HasBlock (Written (continuation_frame id whole fragment) ∷ run) left
continued-block run id true fragment left keeps on some =
    subst (HasBlock (Written (continuation_frame id true fragment) ∷ run)) (sym keeps) refl
continued-block run id false fragment left keeps on some =
    let all = continued-fragments (unfinished run) id fragment on some in
    kept-block (Written (continuation_frame id false fragment) ∷ run) id left
    all.0 all.1 all.2 keeps

continued-head : (run : List Step) (id : ℕ) (whole : Bool) (fragment : List ℕ)
    (left : Option HeaderBlock)
    → Keeps id whole left
    → list_any (resets id) (frames_of run) ≡ false
    → HasHead (continuation_frame id whole fragment ∷ frames_of run) left
continued-head run id true fragment left keeps still =
    subst (HasHead (continuation_frame id true fragment ∷ frames_of run)) (sym keeps) tt
continued-head run id false fragment None keeps still = absurd keeps
continued-head run id false fragment (Some block) keeps still =
    ap (λ k. list_any (resets k) (frames_of run)) keeps.1 ∙ still

pub continuation-written : (run : List Step) (begun gone : Bool) (w : Windows) (waiting : List Due)
    (block : HeaderBlock) (rest : Option HeaderBlock) (owed : States) (made : Frame)
    → made ≡ frame_of block → rest ≡ rest_of block → begun ≡ true → gone ≡ false
    → Mirrors run begun gone w waiting (Some block) owed
    → MayWrite run made × Mirrors (Written made ∷ run) begun gone w waiting rest owed
continuation-written run begun gone w waiting block rest owed made is is_rest is_begun not_gone m =
    let frame_is : made ≡ continuation_frame block.id (is_short block) (take 16384 block.rest) =
    is
    ∙ ap (λ b.
    if b then continuation_frame block.id (is_short block) (take 16384 block.rest)
    else headers_frame block.id block.ends (is_short block) (take 16384 block.rest)) m.goes_on.0 in
    let keeps : Keeps block.id (is_short block) rest =
    subst (Keeps block.id (is_short block)) (sym is_rest) (keeps-rest block) in
    let none =
    no-updates run (continuation_frame block.id (is_short block) (take 16384 block.rest)) refl in
    subst (λ (f : Frame). MayWrite run f × Mirrors (Written f ∷ run) begun gone w waiting rest owed)
    (sym frame_is) (
      record {
        first = λ e. absurd (none-begun (frames_of run) (m.begins ∙ is_begun) e);
        windows = λ e. cc;
        content = λ e. cc;
        answers =
            in-answers _ (due run) (tells-none run (continuation_frame block.id
            (is_short block) (take 16384 block.rest)) waiting refl m.answers);
        parts =
            in-goaways _ (due run) (tells-none run (continuation_frame block.id
            (is_short block) (take 16384 block.rest)) waiting refl m.answers);
        asked = λ e. cc;
        after_reset = λ is_one was. inr refl;
        block =
            goes-on (unfinished run) block.id (is_short block) (take 16384 block.rest)
            m.goes_on.1 m.goes_on.2;
        not_reset = m.not_reset;
        not_ended = λ e. inr refl;
        goes_on = m.goes ∙ not_gone;
        owes = λ k. omega (arith, none k);
        update = λ e. cc;
      },
      record {
        begins = sym is_begun;
        goes = m.goes;
        windows_follow =
            windows-same run (continuation_frame block.id (is_short block) (take 16384 block.rest))
            w refl refl m.windows_follow;
        answers =
            due-same run (continuation_frame block.id (is_short block) (take 16384 block.rest))
            waiting refl m.answers;
        goes_on =
            continued-block run block.id (is_short block) (take 16384 block.rest) rest keeps
            m.goes_on.1 m.goes_on.2;
        not_reset =
            continued-head run block.id (is_short block) (take 16384 block.rest) rest
            keeps m.not_reset;
        stand =
            stand-same run (continuation_frame block.id (is_short block) (take 16384 block.rest))
            owed refl refl none m.stand;
      },
    )

-- ---- DATA (RFC 9113, sections 6.1 and 6.9.1)

pub data-written : (run : List Step) (begun gone : Bool) (w windows : Windows) (waiting : List Due)
    (block : Option HeaderBlock) (owed : States) (id : ℕ) (bytes : List ℕ) (made : Frame)
    → made ≡ data_frame id bytes → begun ≡ true → gone ≡ false → block ≡ None
    → over_on owed id ≡ None → is_reset owed id ≡ false → 0 < length bytes → length bytes ≤ 16384
    → ((history : List WindowStep) → Follows history w → length bytes ≤ room_after history id)
    → ((history : List WindowStep) → Follows history w
    → Follows (spent id (length bytes) ++ history) windows)
    → Mirrors run begun gone w waiting block owed
    → MayWrite run made × Mirrors (Written made ∷ run) begun gone windows waiting block owed
data-written run begun gone w windows waiting block owed id bytes made is is_begun not_gone no_block
    is_open not_reset some short fits follows m =
    let nothing : unfinished run ≡ None = subst (HasBlock run) no_block m.goes_on in
    let still = not-over run id (sym (m.stand.over id).0 ∙ none-over (over_on owed id) is_open) in
    let none = no-updates run (data_frame id bytes) refl in
    subst (λ (f : Frame).
    MayWrite run f × Mirrors (Written f ∷ run) begun gone windows waiting block owed) (sym is) (
      record {
        first = λ e. absurd (none-begun (frames_of run) (m.begins ∙ is_begun) e);
        windows = λ e. (
          short,
          λ more.
              (m.windows_follow.0, m.windows_follow.1, fits m.windows_follow.0 m.windows_follow.2),
        );
        content = λ e. inl some;
        answers =
            in-answers _ (due run) (tells-none run (data_frame id bytes) waiting refl m.answers);
        parts =
            in-goaways _ (due run) (tells-none run (data_frame id bytes) waiting refl m.answers);
        asked = λ e. cc;
        after_reset = λ is_one was.
            absurd (unreset run id owed m.stand.resets not_reset is_one was);
        block =
            subst (λ (o : Option Fragments). Continues o (data_frame id bytes))
            (sym nothing) (λ e. cc);
        not_reset = still.0;
        not_ended = λ e. absurd (true≢false (sym e ∙ still.1));
        goes_on = m.goes ∙ not_gone;
        owes = λ k. omega (arith, none k);
        update = λ e. cc;
      },
      record {
        begins = sym is_begun;
        goes = m.goes;
        windows_follow =
            windows-more run (data_frame id bytes) w windows (spent id (length bytes)) (λ h. refl)
            follows m.windows_follow;
        answers = due-same run (data_frame id bytes) waiting refl m.answers;
        goes_on =
            same-block run (Written (data_frame id bytes) ∷ run) block
            (no-block run (data_frame id bytes) refl ∙ sym nothing) m.goes_on;
        not_reset = head-same (data_frame id bytes) (frames_of run) block refl m.not_reset;
        stand = stand-same run (data_frame id bytes) owed refl refl none m.stand;
      },
    )

-- ---- WINDOW_UPDATE (RFC 9113, section 6.9)

update-plain : (id n : ℕ) → IsPlain (update_frame id n)
update-plain id n = record {
  no_data = λ e. cc;
  no_continuation = λ e. cc;
  no_fragment = λ begun. refl;
  no_closing = refl;
  no_spending = refl;
  no_end = refl;
  no_reset = refl;
}

pub told-amount : (n : ℕ) → n < 2 ^ 31 → increment_of (bytes_high_first 4 n) ≡ n
told-amount n small =
    ap (λ k. k % 2 ^ 31) (from_be_bytes-to_be_bytes_4 n (omega (arith, small)))
    ∙ small_mod n (2 ^ 31) small

update-amount : (id n k : ℕ) → n < 2 ^ 31
    → update_on k (update_frame id n) ≡ (if k == id then n else 0)
update-amount id n k small = ap (λ amount. if k == id then amount else 0) (told-amount n small)

-- where credit may be owed, the stream was no more reset than the connection
no-reset : (id : ℕ) (run : List Step) → may_owe id run ≡ true
    → (id ≡ 0) ⊎ ((is_stream id ≡ true) × (was_reset id run ≡ false))
no-reset id run may =
    by (id == 0) refl (is_stream id) (is_opened id run) (was_reset id run) refl refl may
  where
    by : (zero : Bool) → (id == 0) ≡ zero → (stream opened was : Bool) → is_stream id ≡ stream
        → was_reset id run ≡ was → (zero || ((stream && opened) && not was)) ≡ true
        → (id ≡ 0) ⊎ ((is_stream id ≡ true) × (was_reset id run ≡ false))
    by true z stream opened was is still may = inl (eqb-true id 0 z)
    by false z true true false is still may = inr (is, still)
    by false z true true true is still may = absurd (true≢false (sym may))
    by false z true false was is still may = absurd (true≢false (sym may))
    by false z false opened was is still may = absurd (true≢false (sym may))

-- nor has it had an RST_STREAM
not-over-there : (run : List Step) (kept : States) (id : ℕ) → HasStates run kept
    → (id ≡ 0) ⊎ ((is_stream id ≡ true) × (was_reset id run ≡ false))
    → over_on kept id ≡ Some true → ⊥
not-over-there run kept id h (inl zero) e =
    let P : ℕ → Type 0 = λ k. over_on kept k ≡ None in
    not-some (over_on kept id) (subst P (sym zero) h.no_stream_0) e
not-over-there run kept id h (inr (is, still)) e =
    true≢false (sym (h.silent id e) ∙ h.resets id is ∙ still)

unreset-there : (run : List Step) (id : ℕ)
    → (id ≡ 0) ⊎ ((is_stream id ≡ true) × (was_reset id run ≡ false)) → is_stream id ≡ true
    → was_reset id run ≡ true → ⊥
unreset-there run id (inl zero) there was = true≢false (sym there ∙ ap is_stream zero)
unreset-there run id (inr (is, still)) there was = true≢false (sym was ∙ still)

-- what is owed is told, or else the same is owed as before
owed-left : (b : Bool) (n kept owed left : ℕ) → kept ≡ owed → (b ≡ true → kept ≡ n)
    → left ≡ (if b then 0 else kept) → left ≡ owed - (if b then n else 0)
owed-left true n kept owed left same is e =
    let all : kept ≡ n = is refl in
    omega (arith, same, all, e)
owed-left false n kept owed left same is e = omega (arith, same, e)

owed-told : (b : Bool) (n kept owed : ℕ) → kept ≡ owed → (b ≡ true → kept ≡ n)
    → (if b then n else 0) ≤ owed
owed-told true n kept owed same is = let all : kept ≡ n = is refl in omega (arith, same, all)
owed-told false n kept owed same is = omega arith

pub update-written : (run : List Step) (begun gone : Bool) (w : Windows) (waiting : List Due)
    (block : Option HeaderBlock) (owed less : States) (taken : ℕ × ℕ) (made : Frame)
    → made ≡ update_frame taken.0 taken.1 → begun ≡ true → gone ≡ false → block ≡ None
    → TakesAll owed (Some taken) less → SameEnds owed less
    → Mirrors run begun gone w waiting block owed
    → MayWrite run made × Mirrors (Written made ∷ run) begun gone w waiting block less
update-written run begun gone w waiting block owed less taken made is is_begun not_gone
    no_block takes ends m =
    let small : taken.1 < 2 ^ 31 = omega (arith, takes.1) in
    let here : (k : ℕ) → (k == taken.0) ≡ true → owed_on owed k ≡ taken.1 =
    λ k e.
    let P : ℕ → Type 0 = λ j. owed_on owed j ≡ taken.1 in
    subst P (sym (eqb-true k taken.0 e)) takes.3 in
    let amount = λ (k : ℕ). update-amount taken.0 taken.1 k small in
    let free = no-reset taken.0 run (sym (m.stand.owes taken.0).1 ∙ takes.2) in
    subst (λ (f : Frame).
    MayWrite run f × Mirrors (Written f ∷ run) begun gone w waiting block less) (sym is)
    (plain-written run begun gone gone w waiting waiting block owed less
    (update_frame taken.0 taken.1) is_begun not_gone no_block (update-plain taken.0 taken.1)
    (tells-none run (update_frame taken.0 taken.1) waiting refl m.answers)
    (due-same run (update_frame taken.0 taken.1) waiting refl m.answers)
    ((m.stand.over taken.0).1 (not-over-there run owed taken.0 m.stand free))
    (λ e. inl refl)
    (unreset-there run taken.0 free)
    (λ k.
    subst (λ n. n ≤ given k run) (sym (amount k))
    (owed-told (k == taken.0) taken.1 (owed_on owed k) (given k run) (m.stand.owes k).0 (here k)))
    (record {
      over =
          over-kept (Written (update_frame taken.0 taken.1) ∷ run) owed less (λ k. (ends k).0)
          (over-same run (update_frame taken.0 taken.1) owed refl refl m.stand.over);
      silent = λ k e. (takes.5 k).2 ∙ m.stand.silent k (sym (ends k).0 ∙ e);
      resets = λ k there. (takes.5 k).2 ∙ m.stand.resets k there;
      owes = λ k. (
        subst (λ n. owed_on less k ≡ given k run - n) (sym (amount k)) (owed-left
            (k == taken.0) taken.1 (owed_on owed k) (given k run) (owed_on less k)
            (m.stand.owes k).0 (here k) (takes.4 k)),
        (takes.5 k).1 ∙ (m.stand.owes k).1,
        λ e. (m.stand.owes k).2 (sym (takes.5 k).0 ∙ e),
      );
      no_stream_0 = (ends 0).0 ∙ m.stand.no_stream_0;
    })
    (λ e. (taken.1, takes.0, small, refl))
    (sym not_gone) m)

-- a header block begins, whatever was due with what is due now
abbrev pub Heads : Frame → Outbound → Outbound → Type 0
Heads frame old new =
    (run : List Step) (before : List Due)
    → Mirrors run old.begun old.gone old.states.windows before old.block old.states
    → HasDue run old.due.items → MayWrite run frame × MirrorsOf (Written frame ∷ run) new

-- HEADERS of a block that begins, on a stream whose end is noted where the block ends it
pub block-heads : (old mid new : Outbound) (id : ℕ) (ends_it : Bool) (bytes : List ℕ)
    (frame : Frame)
    → IsBetween old → 0 < id → over_on old.states id ≡ None → is_reset old.states id ≡ false
    → mid ≡ record old { encoder = mid.encoder; states = mid.states }
    → Ends old.states id ends_it mid.states → SameOwed old.states mid.states
    → ((history : List WindowStep) → Follows history old.states.windows
    → Follows (closing id ends_it ++ history) mid.states.windows)
    → BeginsBlock id ends_it bytes frame mid new → Heads frame old new
block-heads old mid new id ends_it bytes frame between there not_over not_reset mid_is ended owed
    moves begins run before m dues =
    let block : HeaderBlock = record { id = id; ends = ends_it; begun = false; rest = bytes } in
    let is : new ≡ record old
    { encoder = mid.encoder; states = mid.states; block = rest_of block } =
    begins.1 ∙ ap (λ (o : Outbound). record o { block = rest_of block }) mid_is in
    subst (λ (o : Outbound). MayWrite run frame × MirrorsOf (Written frame ∷ run) o) (sym is)
    (headers-written run old.begun old.gone old.states.windows mid.states.windows before
    old.due.items old.block (rest_of block) old.states mid.states id ends_it (is_short block)
    (take 16384 bytes) frame
    begins.0 between.begun between.going between.no_block there not_over not_reset moves ended owed
    (keeps-rest block) dues m)
