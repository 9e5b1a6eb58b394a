-- What a frame that is none of an open stream leads to, and what was due and isn't written.
use Rattle.std.proofs.Common.{
  ◌≡◌,
  ℕ,
  ◌==◌,
  inl,
  inr,
  refl,
  sym,
  ap,
  subst,
  ◌∙◌,
  Bool,
  true,
  false,
  List,
  [],
  ◌∷◌,
  ◌++◌,
  Option,
  Some,
  None,
  arith,
  append_assoc,
  true≢false,
}
use Rattle.std.specs.Prelude.{All, get_or, is_some, if◌then◌else◌}
use Rattle.std.proofs.lemmas.Bool.{eqb-true}
use Rattle.account.specs.declared.call.OutItem.{OutItem}
use Rattle.h2frame.specs.declared.frame.Frame.{Frame}
use Rattle.outwriter.specs.declared.due.Due.{Due}
use Rattle.outwriter.specs.declared.due.Due.TheVariants as due_kind
use Rattle.outwriter.specs.declared.outbound.Outbound.{Outbound}
use Rattle.outwriter.specs.Calls.{is_fresh, is_served, IsRefused}
use Rattle.outwriter.specs.States.{SameEnds, is_heard, knows, over_on}
use Rattle.outwriter.specs.Parts.{Mark, Fields, End, Reset, marks_on, on_stream}
use Rattle.outwriter.specs.OpenStreams.{OpenStreams, SameHands, shown}
use Rattle.outwriter.specs.CallState.{
  IsEnded,
  MayBeDue,
  Serves,
  has_reason,
  IsPlain,
  IsReset,
  IsRefusal,
  Rests,
}
use Rattle.outwriter.specs.RunState.{SameButOpen}
use Rattle.outwriter.specs.Steps.{Step, Written}
use Rattle.outwriter.specs.ToldByNow.{SpellsOf, block_marks}
use Rattle.outwriter.proofs.Others.{Later, later-none, later-written}
use Rattle.outwriter.proofs.TellSteps.{rests-tells}
use Rattle.outwriter.proofs.StateWindows.{hears-again}
use Rattle.outwriter.proofs.ServeSteps.{
  append-nil,
  All-later,
  more-here,
  more-elsewhere,
  marks-append,
  none-some,
  some-none,
  none-shown,
  serves-changed,
}

-- of no stream anything changes
pub serves-same : (run next : List Step) (o after : Outbound) (streams left : OpenStreams)
    (calls : List (ℕ × List OutItem))
    (marks told : List (ℕ × Mark))
    → ((k : ℕ) → is_fresh k next ≡ is_fresh k run) → ((k : ℕ) → is_served k next ≡ is_served k run)
    → Later run next → SpellsOf next after told
    → (front : List Due) → o.due.items ≡ front ++ after.due.items
    → ((k : ℕ) → knows after.states k ≡ knows o.states k)
    → SameEnds o.states after.states
    → SameHands streams left → ((k : ℕ) → marks_on k told ≡ marks_on k marks)
    → Serves run o streams calls marks → Serves next after left calls told
serves-same run next o after streams left calls marks told fresh served later spells front due known
    ends hands same s =
    serves-changed run next o after streams left calls calls marks told (λ k. false) (record {
      same_fresh = fresh;
      same_served = served;
      later = later;
      spells = spells;
      fewer_due = (front, due);
      same_knows = known;
      same_heard = λ k. (ends k).1;
      same_over = λ k p. (ends k).0;
      same_shown = λ k p. hands k;
      same_marks = λ k p. same k;
      same_calls = λ k d lt p. refl;
      same_length = refl;
      numbers = λ k d lt. refl;
      closed = λ k none. none-shown (left k) (hands k ∙ ap shown none);
      exact = λ k st p e. absurd (true≢false (sym p));
      not_over = λ k st p e. absurd (true≢false (sym p));
      ended = λ k d lt p none is. absurd (true≢false (sym p));
      returned = λ k items p none is e. absurd (true≢false (sym p));
      unknown = λ k p e. absurd (true≢false (sym p));
      other = λ k p is. absurd (true≢false (sym p));
      stays = λ k p none. absurd (true≢false (sym p));
      uncalled = λ k p e. absurd (true≢false (sym p));
    }) s

-- the streams' places and what is in hand are the same
pub serves-hands : (run : List Step) (o : Outbound) (streams left : OpenStreams)
    (calls : List (ℕ × List OutItem))
    (marks : List (ℕ × Mark)) → SameHands streams left → Serves run o streams calls marks
    → Serves run o left calls marks
serves-hands run o streams left calls marks hands s =
    serves-same run run o o streams left calls marks marks (λ k. refl) (λ k. refl) (later-none run)
    s.spells [] refl (λ k. refl) (λ k. (refl, refl)) hands (λ k. refl) s

-- what a writer keeps of them changes
pub serves-but-open : (run : List Step) (o after : Outbound) (streams : OpenStreams)
    (calls : List (ℕ × List OutItem))
    (marks : List (ℕ × Mark)) → SameButOpen o after → Serves run o streams calls marks
    → Serves run after streams calls marks
serves-but-open run o after streams calls marks e s =
    subst (λ (x : Outbound). Serves run x streams calls marks) (sym e)
    (serves-same run run o (record o { states = record o.states { opened = after.states.opened } })
    streams streams calls marks marks (λ k. refl) (λ k. refl) (later-none run) s.spells [] refl
    (λ k. refl) (λ k. (refl, refl)) (λ k. refl) (λ k. refl) s)

pub serves-rests : (run : List Step) (o after : Outbound) (streams : OpenStreams)
    (calls : List (ℕ × List OutItem))
    (marks : List (ℕ × Mark)) → Rests o after → Serves run o streams calls marks
    → Serves run after streams calls marks
serves-rests run o after streams calls marks r s =
    serves-same run run o after streams streams calls marks marks (λ k. refl) (λ k. refl)
    (later-none run) (rests-tells o after r run marks s.spells) r.due.0 r.due.1
    (λ k. (r.standing k).0)
    r.over (λ k. refl) (λ k. refl) s

pub serves-plain : (run : List Step) (o after : Outbound) (streams : OpenStreams)
    (calls : List (ℕ × List OutItem))
    (marks : List (ℕ × Mark)) (frame : Frame) → ((k : ℕ) → knows after.states k ≡ knows o.states k)
    → IsPlain frame o after
    → Serves run o streams calls marks
    → Serves (Written frame ∷ run) after streams calls (marks ++ [])
serves-plain run o after streams calls marks frame known plain s =
    serves-same run (Written frame ∷ run) o after streams streams calls marks (marks ++ [])
    (λ k. refl) (λ k. refl) (later-written run frame) (plain.0 run marks s.spells)
    plain.2.0 plain.2.1 known plain.1 (λ k. refl)
    (λ k. marks-append k marks [] ∙ append-nil (marks_on k marks)) s

first-due : (run : List Step) (o : Outbound) (streams : OpenStreams)
    (front rest : List Due) (one : Due)
    → o.due.items ≡ front ++ one ∷ rest → All (MayBeDue run o streams) o.due.items
    → MayBeDue run o streams one
first-due run o streams front rest one e all =
    All-later (MayBeDue run o streams) front (one ∷ rest)
    (subst (All (MayBeDue run o streams)) e all) 0 one (omega arith)

behind : (front rest all : List Due) (one : Due) → all ≡ front ++ one ∷ rest
    → all ≡ (front ++ one ∷ []) ++ rest
behind front rest all one e = e ∙ sym (append_assoc front (one ∷ []) rest)

none-true : (o : Option Bool) → o ≡ None → o ≡ Some true → ⊥
none-true o e f = none-some true (sym e ∙ f)

reset-ends : (over after : Option Bool) (told more : List Mark) (items : List OutItem) (code : ℕ)
    → over ≡ None → after ≡ Some true → more ≡ told ++ Reset code ∷ []
    → IsEnded over told items → IsEnded after more items
reset-ends over after told more items code none is e ended =
    (inr (told, code, ended.1 (none-true over none), e), λ ne. absurd (ne is))

pub serves-reset : (run : List Step) (o after : Outbound) (streams : OpenStreams)
    (calls : List (ℕ × List OutItem))
    (marks : List (ℕ × Mark)) (frame : Frame) → ((k : ℕ) → knows after.states k ≡ knows o.states k)
    → (r : IsReset frame o after)
    → Serves run o streams calls marks
    → Serves (Written frame ∷ run) after streams calls (marks ++ on_stream r.0 (Reset r.4.0 ∷ []))
serves-reset run o after streams calls marks frame known r s =
    serves-changed run (Written frame ∷ run) o after streams streams calls calls marks
    (marks ++ on_stream id more) (λ k. k == id) (record {
      same_fresh = λ k. refl;
      same_served = λ k. refl;
      later = later-written run frame;
      spells = r.4.1 run marks s.spells;
      fewer_due = (
        r.2 ++ due_kind.Reset id r.1 ∷ [],
        behind r.2 after.due.items o.due.items (due_kind.Reset id r.1) r.3,
      );
      same_knows = known;
      same_heard = hears-again o.states after.states id may.1 r.6.1;
      same_over = λ k p. r.6.0 k ∙ ap (λ b. if b then Some true else over_on o.states k) p;
      same_shown = λ k p. refl;
      same_marks = λ k p. more-elsewhere k id marks more p;
      same_calls = λ k d lt p. refl;
      same_length = refl;
      numbers = λ k d lt. refl;
      closed = λ k none. none;
      exact = λ k st p e. absurd (none-some st (sym (none k p) ∙ e));
      not_over = λ k st p e. absurd (none-some st (sym (none k p) ∙ e));
      ended = λ k d lt p gone is.
          ended-here (get_or calls k d).0 (get_or calls k d).1 p (s.ended k d lt gone is);
      returned = λ k items p gone is e. ended-here k items p e;
      unknown = λ k p e.
          absurd (true≢false
          (sym may.1 ∙ ap (λ n. is_heard o.states n) (sym (eqb-true k id p)) ∙ e));
      other = λ k p is. ended-here k [] p (s.other k is);
      stays = λ k p closed.
          ap is_some (r.6.0 k ∙ ap (λ b. if b then Some true else over_on o.states k) p);
      uncalled = λ k p e. (
        λ still.
            absurd (some-none true
            (sym (r.6.0 k ∙ ap (λ b. if b then Some true else over_on o.states k) p) ∙ still)),
        inr (inl (
          r.4.0,
          more-at k p ∙ ap (λ (l : List Mark). l ++ more) ((s.uncalled k e).0 (was-open k p)),
        )),
      );
    }) s
  where
    id : ℕ
    id = r.0

    more : List Mark
    more = Reset r.4.0 ∷ []

    may : (streams id ≡ None) × (is_heard o.states id ≡ true)
    may = first-due run o streams r.2 after.due.items (due_kind.Reset id r.1) r.3 s.due

    none : (k : ℕ) → (k == id) ≡ true → streams k ≡ None
    none k p = subst (λ (n : ℕ). streams n ≡ None) (sym (eqb-true k id p)) may.0

    was-open : (k : ℕ) → (k == id) ≡ true → over_on o.states k ≡ None
    was-open k p = subst (λ (n : ℕ). over_on o.states n ≡ None) (sym (eqb-true k id p)) r.5

    more-at : (k : ℕ) → (k == id) ≡ true
        → marks_on k (marks ++ on_stream id more) ≡ marks_on k marks ++ more
    more-at k p =
        subst (λ (n : ℕ). marks_on n (marks ++ on_stream id more) ≡ marks_on n marks ++ more)
        (sym (eqb-true k id p)) (more-here id marks more)

    ended-here : (k : ℕ) (items : List OutItem) → (k == id) ≡ true
        → IsEnded (over_on o.states k) (marks_on k marks) items
        → IsEnded (over_on after.states k) (marks_on k (marks ++ on_stream id more)) items
    ended-here k items p ended =
        reset-ends (over_on o.states k) (over_on after.states k) (marks_on k marks)
        (marks_on k (marks ++ on_stream id more)) items r.4.0
        (was-open k p)
        (r.6.0 k ∙ ap (λ b. if b then Some true else over_on o.states k) p)
        (more-at k p)
        ended

pub serves-refusal : (run : List Step) (o after : Outbound) (streams : OpenStreams)
    (calls : List (ℕ × List OutItem))
    (marks : List (ℕ × Mark)) (frame : Frame) → ((k : ℕ) → knows after.states k ≡ knows o.states k)
    → (r : IsRefusal frame o after)
    → Serves run o streams calls marks
    → Serves (Written frame ∷ run) after streams calls (marks ++ block_marks r.0 r.1 true)
serves-refusal run o after streams calls marks frame known r s =
    serves-changed run (Written frame ∷ run) o after streams streams calls calls marks
    (marks ++ on_stream id more) (λ k. k == id) (record {
      same_fresh = λ k. refl;
      same_served = λ k. refl;
      later = later-written run frame;
      spells = r.4 run marks s.spells;
      fewer_due = (
        r.2 ++ due_kind.Refuse id r.1 ∷ [],
        behind r.2 after.due.items o.due.items (due_kind.Refuse id r.1) r.3,
      );
      same_knows = known;
      same_heard = hears-again o.states after.states id may.3 r.6.1;
      same_over = λ k p. r.6.0 k ∙ ap (λ b. if b then Some false else over_on o.states k) p;
      same_shown = λ k p. refl;
      same_marks = λ k p. more-elsewhere k id marks more p;
      same_calls = λ k d lt p. refl;
      same_length = refl;
      numbers = λ k d lt. refl;
      closed = λ k none. none;
      exact = λ k st p e. absurd (none-some st (sym (none k p) ∙ e));
      not_over = λ k st p e. absurd (none-some st (sym (none k p) ∙ e));
      ended = λ k d lt p gone is.
          absurd (true≢false (sym is
          ∙ subst (λ (n : ℕ). is_served n run ≡ false)
          (sym (eqb-true (get_or calls k d).0 id p)) may.1));
      returned = λ k items p gone is e.
          absurd (true≢false
          (sym is ∙ subst (λ (n : ℕ). is_served n run ≡ false) (sym (eqb-true k id p)) may.1));
      unknown = λ k p e.
          absurd (true≢false
          (sym may.3 ∙ ap (λ n. is_heard o.states n) (sym (eqb-true k id p)) ∙ e));
      other = λ k p is.
          absurd (true≢false
          (sym is ∙ subst (λ (n : ℕ). is_fresh n run ≡ false) (sym (eqb-true k id p)) may.0));
      stays = λ k p closed.
          ap is_some (r.6.0 k ∙ ap (λ b. if b then Some false else over_on o.states k) p);
      uncalled = λ k p e. (
        λ still.
            absurd (some-none false
            (sym (r.6.0 k ∙ ap (λ b. if b then Some false else over_on o.states k) p) ∙ still)),
        inr (inr (
          r.1,
          subst (λ (n : ℕ). IsRefused n r.1 run) (sym (eqb-true k id p)) may.4,
          more-at k p ∙ ap (λ (l : List Mark). l ++ more) ((s.uncalled k e).0 (was-open k p)),
        )),
      );
    }) s
  where
    id : ℕ
    id = r.0

    more : List Mark
    more = Fields r.1 ∷ End ∷ []

    may : (is_fresh id run ≡ false) × (is_served id run ≡ false) × (streams id ≡ None)
        × (is_heard o.states id ≡ true) × IsRefused id r.1 run × (has_reason id run ≡ true)
    may = first-due run o streams r.2 after.due.items (due_kind.Refuse id r.1) r.3 s.due

    none : (k : ℕ) → (k == id) ≡ true → streams k ≡ None
    none k p = subst (λ (n : ℕ). streams n ≡ None) (sym (eqb-true k id p)) may.2

    was-open : (k : ℕ) → (k == id) ≡ true → over_on o.states k ≡ None
    was-open k p = subst (λ (n : ℕ). over_on o.states n ≡ None) (sym (eqb-true k id p)) r.5

    more-at : (k : ℕ) → (k == id) ≡ true
        → marks_on k (marks ++ on_stream id more) ≡ marks_on k marks ++ more
    more-at k p =
        subst (λ (n : ℕ). marks_on n (marks ++ on_stream id more) ≡ marks_on n marks ++ more)
        (sym (eqb-true k id p)) (more-here id marks more)
