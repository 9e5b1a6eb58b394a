-- What a writer keeps of its calls, after an Open.
use Rattle.std.proofs.Common.{
  ◌≡◌,
  ℕ,
  suc,
  zero,
  ◌<◌,
  ◌==◌,
  inl,
  inr,
  refl,
  sym,
  ap,
  subst,
  ◌∙◌,
  ◌⊎◌,
  Bool,
  true,
  false,
  List,
  [],
  ◌∷◌,
  ◌++◌,
  Option,
  Some,
  None,
  length,
  get_or,
  arith,
  append-nil,
  true≢false,
  length-append,
}
use Rattle.std.specs.Prelude.{All, ◌&&◌, ◌||◌, not, is_some, if◌then◌else◌}
use Rattle.std.proofs.lemmas.Bool.{eqb-true, eq-eqb}
use Rattle.std.proofs.lemmas.List.{get_or_append_left}
use Rattle.std.proofs.Math.Seq.{get_or-append_seam}
use Rattle.account.specs.declared.call.OutItem.{OutItem}
use Rattle.outwriter.specs.OpenStreams.{OpenStreams, stream_at}
use Rattle.outwriter.specs.declared.control.WriterOrder.TheVariants as order
use Rattle.outwriter.specs.declared.outbound.Outbound.{Outbound}
use Rattle.outwriter.specs.declared.stream.OpenStream.{OpenStream}
use Rattle.outwriter.specs.Calls.{is_fresh, is_served}
use Rattle.outwriter.specs.Runs.{is_opened}
use Rattle.outwriter.specs.States.{is_heard, knows, over_on}
use Rattle.outwriter.specs.Histories.{is_stream, was_reset}
use Rattle.outwriter.specs.CoreChanges.{Prepares, is_new_call, becomes_open}
use Rattle.outwriter.specs.Parts.{Mark, marks_on, spelled}
use Rattle.outwriter.specs.CallState.{Serves, MayBeDue, IsEnded, IsExact, has_reason}
use Rattle.outwriter.specs.Steps.{Step, Taken}
use Rattle.outwriter.proofs.CallSteps.{all-due, not-some, was-false, was-true}
use Rattle.outwriter.proofs.EndsKept.{takes-heard}
use Rattle.outwriter.proofs.StateChanges.{unheard-knows, unheard-over}
use Rattle.outwriter.proofs.Others.{
  refused-taken,
  served-known,
  reset-taken,
  reason-taken,
  ended-later,
  uncalled-same,
}
use Rattle.outwriter.proofs.TellSteps.{taken-tells}

-- ---- lists

-- what holds of each call and of one more
each-call : (calls : List (ℕ × List OutItem)) (x : ℕ × List OutItem) (P : ℕ × List OutItem → Type 0)
    (k : ℕ) (d : ℕ × List OutItem)
    → k < length (calls ++ x ∷ [])
    → (k < length calls → P (get_or calls k d)) → (k ≡ length calls → P x)
    → P (get_or (calls ++ x ∷ []) k d)
each-call [] x P zero d within old new = new refl
each-call [] x P (suc k) d within old new = absurd (omega (arith, within))
each-call (c ∷ calls) x P zero d within old new = old (omega arith)
each-call (c ∷ calls) x P (suc k) d within old new =
    each-call calls x P k d (omega (arith, within)) (λ e. old (omega (arith, e)))
    (λ e. new (ap (λ n. suc n) e))

-- ---- tests

both : (a b : Bool) → (a && b) ≡ true → (a ≡ true) × (b ≡ true)
both true b e = (refl, e)
both false b e = absurd (true≢false (sym e))

was-not : (b : Bool) → not b ≡ true → b ≡ false
was-not true e = absurd (true≢false (sym e))
was-not false e = refl

-- ---- the run

-- with the Open of a stream
module _ (run : List Step) (id : ℕ) where
  fresh-here : (k : ℕ) → (k == id) ≡ true → is_fresh k (Taken (order.Open id tt) ∷ run) ≡ false
  fresh-here k p = ap (λ b. if b then false else is_fresh k run) p

  fresh-less : (k : ℕ) → is_fresh k run ≡ false
      → is_fresh k (Taken (order.Open id tt) ∷ run) ≡ false
  fresh-less k e = by (k == id) refl
    where
      by : (b : Bool) → (k == id) ≡ b → is_fresh k (Taken (order.Open id tt) ∷ run) ≡ false
      by true p = fresh-here k p
      by false p = ap (λ b. if b then false else is_fresh k run) p ∙ e

  served-here : (k : ℕ) → (k == id) ≡ true
      → is_served k (Taken (order.Open id tt) ∷ run) ≡ is_fresh k run
  served-here k p = ap (λ b. if b then is_fresh k run else is_served k run) p

  served-else : (k : ℕ) → (k == id) ≡ false
      → is_served k (Taken (order.Open id tt) ∷ run) ≡ is_served k run
  served-else k p = ap (λ b. if b then is_fresh k run else is_served k run) p

  unserved : (k : ℕ) → is_fresh k run ≡ false → is_served k run ≡ false
      → is_served k (Taken (order.Open id tt) ∷ run) ≡ false
  unserved k e f = by (k == id) refl
    where
      by : (b : Bool) → (k == id) ≡ b → is_served k (Taken (order.Open id tt) ∷ run) ≡ false
      by true p = served-here k p ∙ e
      by false p = served-else k p ∙ f

-- ---- all of it

module _ (run : List Step) (o new : Outbound) (streams left : OpenStreams)
    (calls : List (ℕ × List OutItem)) (marks : List (ℕ × Mark)) (id : ℕ)
    (s : Serves run o streams calls marks) (p : Prepares id (length calls) o new streams left) where
  abbrev after : List Step
  after = Taken (order.Open id tt) ∷ run

  abbrev more : List (ℕ × List OutItem)
  more = calls ++ (id, []) ∷ []

  -- what becomes open wasn't known
  was-unknown : becomes_open o id ≡ true
      → (is_stream id ≡ true) × (knows o.states id ≡ false) × (is_heard o.states id ≡ false)
  was-unknown e =
      let a = both (is_stream id) (not (is_heard o.states id)) e in
      let unheard = was-not (is_heard o.states id) a.1 in
      (a.0, unheard-knows o.states id unheard, unheard)

  -- an open stream is the new one, or it was open
  opened-by : (k : ℕ) (found : Option OpenStream) → left k ≡ found
      → ((becomes_open o id ≡ true) × (k ≡ id) × (found ≡ Some (stream_at (length calls))))
      ⊎ (streams k ≡ found)
  opened-by k found e = by (becomes_open o id && (k == id)) refl
    where
      by : (b : Bool) → (becomes_open o id && (k == id)) ≡ b
          → ((becomes_open o id ≡ true) × (k ≡ id) × (found ≡ Some (stream_at (length calls))))
          ⊎ (streams k ≡ found)
      by true q =
          let t = both (becomes_open o id) (k == id) q in
          inl (
            t.0,
            eqb-true k id t.1,
            sym e ∙ p.opens k
                ∙ ap (λ b. if b then Some (stream_at (length calls)) else streams k) q,
          )
      by false q =
          inr (sym (p.opens k
          ∙ ap (λ b. if b then Some (stream_at (length calls)) else streams k) q)
          ∙ e)

  -- what isn't open wasn't
  less-none : (k : ℕ) → left k ≡ None → streams k ≡ None
  less-none k e = by (opened-by k None e)
    where
      by : ((becomes_open o id ≡ true) × (k ≡ id) × (None ≡ Some (stream_at (length calls))))
          ⊎ (streams k ≡ None)
          → streams k ≡ None
      by (inl h) = absurd (not-some None (stream_at (length calls)) refl h.2)
      by (inr h) = h

  -- and a stream that was heard of doesn't become open
  still-none : (k : ℕ) → streams k ≡ None → is_heard o.states k ≡ true → left k ≡ None
  still-none k e known = by (left k) refl
    where
      by : (found : Option OpenStream) → left k ≡ found → found ≡ None
      by None f = refl
      by (Some stream) f = cases (opened-by k (Some stream) f)
        where
          cases :
              ((becomes_open o id ≡ true) × (k ≡ id)
              × (Some stream ≡ Some (stream_at (length calls))))
              ⊎ (streams k ≡ Some stream)
              → Some stream ≡ None
          cases (inl h) =
              absurd (true≢false
              (sym known ∙ ap (λ n. is_heard o.states n) h.1 ∙ (was-unknown h.0).2))
          cases (inr h) = absurd (not-some (streams k) stream e h)

  over : (k : ℕ) → over_on new.states k ≡ over_on o.states k
  over = p.takes.over

  knows-more : (k : ℕ) → knows o.states k ≡ true → knows new.states k ≡ true
  knows-more k e = p.takes.knows k ∙ by (is_new_call o id && (k == id))
    where
      by : (b : Bool) → (b || knows o.states k) ≡ true
      by true = refl
      by false = e

  knew : (k : ℕ) → knows new.states k ≡ false → knows o.states k ≡ false
  knew k e = by (knows o.states k) refl
    where
      by : (b : Bool) → knows o.states k ≡ b → b ≡ false
      by true f = absurd (true≢false (sym (knows-more k f) ∙ e))
      by false f = refl

  knows-here : is_stream id ≡ true → knows new.states id ≡ true
  knows-here e = by (knows o.states id) refl
    where
      by : (b : Bool) → knows o.states id ≡ b → knows new.states id ≡ true
      by true f = knows-more id f
      by false f =
          let is_new : is_new_call o id ≡ true =
          ap (λ b. b && not (knows o.states id)) e ∙ ap not f in
          p.takes.knows id ∙ ap (λ b. (b && (id == id)) || knows o.states id) is_new
          ∙ ap (λ b. b || knows o.states id) (eq-eqb id id refl)

  exact : (k : ℕ) (stream : OpenStream) → left k ≡ Some stream
      → IsExact k stream more (marks_on k marks)
  exact k stream e = by (opened-by k (Some stream) e)
    where
      some-is : (a b : OpenStream) → Some a ≡ Some b → a ≡ b
      some-is a b q = cc

      here : becomes_open o id ≡ true
          → IsExact id (stream_at (length calls)) more (marks_on id marks)
      here opens =
          let u = was-unknown opens in (
            omega (arith, length-append calls ((id, []) ∷ [])),
            λ d. let at_end = get_or-append_seam calls (id, []) [] d in (
              ap (λ (c : ℕ × List OutItem). c.0) at_end,
              append-nil (marks_on id marks) ∙ s.unknown id u.2
                  ∙ sym (ap (λ (c : ℕ × List OutItem). spelled c.1) at_end),
            ),
          )

      by : ((becomes_open o id ≡ true) × (k ≡ id) × (Some stream ≡ Some (stream_at (length calls))))
          ⊎ (streams k ≡ Some stream)
          → IsExact k stream more (marks_on k marks)
      by (inl h) =
          subst (λ (t : OpenStream). IsExact k t more (marks_on k marks))
          (sym (some-is stream (stream_at (length calls)) h.2))
          (subst (λ n. IsExact n (stream_at (length calls)) more (marks_on n marks))
          (sym h.1) (here h.0))
      by (inr h) =
          let x = s.exact k stream h in (
            omega (arith, x.0, length-append calls ((id, []) ∷ [])),
            λ d. let same = get_or_append_left calls ((id, []) ∷ []) d stream.place x.0 in (
              ap (λ (c : ℕ × List OutItem). c.0) same ∙ (x.1 d).0,
              (x.1 d).1 ∙ sym (ap (λ (c : ℕ × List OutItem). spelled c.1) same),
            ),
          )

  -- what is known of an open stream
  of-open : (P : ℕ → Type 0) → (becomes_open o id ≡ true → P id)
      → ((k : ℕ) (stream : OpenStream) → streams k ≡ Some stream → P k)
      → (k : ℕ) (stream : OpenStream) → left k ≡ Some stream → P k
  of-open P here before k stream e = by (opened-by k (Some stream) e)
    where
      by : ((becomes_open o id ≡ true) × (k ≡ id) × (Some stream ≡ Some (stream_at (length calls))))
          ⊎ (streams k ≡ Some stream)
          → P k
      by (inl h) = subst P (sym h.1) (here h.0)
      by (inr h) = before k stream h

  abbrev Ended : ℕ × List OutItem → Type 0
  Ended c = left c.0 ≡ None → is_served c.0 (Taken (order.Open id tt) ∷ run) ≡ true
      → IsEnded (over_on new.states c.0) (marks_on c.0 marks) c.1

  old-served : (k : ℕ) → is_fresh k run ≡ false
      → is_served k (Taken (order.Open id tt) ∷ run) ≡ true → is_served k run ≡ true
  old-served k e f = by (k == id) refl
    where
      by : (b : Bool) → (k == id) ≡ b → is_served k run ≡ true
      by true q = absurd (true≢false (sym f ∙ served-here run id k q ∙ e))
      by false q = sym (served-else run id k q) ∙ f

  ended : (k : ℕ) (d : ℕ × List OutItem) → k < length more → Ended (get_or more k d)
  ended k d within = each-call calls (id, []) Ended k d within
      (λ old none is.
      let before =
      s.ended k d old (less-none (get_or calls k d).0 none)
      (old-served (get_or calls k d).0 (s.opened k d old) is) in
      subst
      (λ (b : Option Bool). IsEnded b (marks_on (get_or calls k d).0 marks) (get_or calls k d).1)
      (sym (over (get_or calls k d).0)) before)
      (λ last none is.
      subst (λ (b : Option Bool). IsEnded b (marks_on id marks) []) (sym (over id))
      (s.other id (sym (served-here run id id (eq-eqb id id refl)) ∙ is)))

  opened : (k : ℕ) (d : ℕ × List OutItem) → k < length more
      → is_fresh (get_or more k d).0 after ≡ false
  opened k d within =
      each-call calls (id, [])
      (λ (c : ℕ × List OutItem). is_fresh c.0 (Taken (order.Open id tt) ∷ run) ≡ false) k d within
      (λ old. fresh-less run id (get_or calls k d).0 (s.opened k d old))
      (λ last. fresh-here run id id (eq-eqb id id refl))

  -- two calls of one stream, of which the second may be the new one
  new-apart : (i : ℕ) (d : ℕ × List OutItem) → i < length calls → (get_or calls i d).0 ≡ id
      → is_served id after ≡ false
  new-apart i d within same =
      let seen : is_fresh id run ≡ false =
      ap (λ n. is_fresh n run) (sym same) ∙ s.opened i d within in
      served-here run id id (eq-eqb id id refl) ∙ seen

  apart : (i j : ℕ) (d : ℕ × List OutItem) → i < length more → j < length more → (i ≡ j → ⊥)
      → (get_or more i d).0 ≡ (get_or more j d).0
      → is_served (get_or more i d).0 after ≡ false
  apart i j d first second differ =
      each-call calls (id, []) (λ (c : ℕ × List OutItem).
      c.0 ≡ (get_or more j d).0 → is_served c.0 (Taken (order.Open id tt) ∷ run) ≡ false) i d first
      (λ old.
      each-call calls (id, []) (λ (e : ℕ × List OutItem).
      (get_or calls i d).0 ≡ e.0
      → is_served (get_or calls i d).0 (Taken (order.Open id tt) ∷ run) ≡ false) j d second
      (λ other same.
      unserved run id (get_or calls i d).0 (s.opened i d old) (s.apart i j d old other differ same))
      (λ last same.
      ap (λ n. is_served n (Taken (order.Open id tt) ∷ run)) same ∙ new-apart i d old same))
      (λ last.
      each-call calls (id, []) (λ (e : ℕ × List OutItem).
      id ≡ e.0 → is_served id (Taken (order.Open id tt) ∷ run) ≡ false) j d second
      (λ other same. new-apart j d other (sym same))
      (λ end same. absurd (differ (last ∙ sym end))))

  -- the stream of a call whose sender was given back isn't the new one
  returned-none : (k : ℕ) → is_served k run ≡ true → streams k ≡ None → left k ≡ None
  returned-none k is e = by (left k) refl
    where
      by : (found : Option OpenStream) → left k ≡ found → found ≡ None
      by None f = refl
      by (Some stream) f = cases (opened-by k (Some stream) f)
        where
          cases :
              ((becomes_open o id ≡ true) × (k ≡ id)
              × (Some stream ≡ Some (stream_at (length calls))))
              ⊎ (streams k ≡ Some stream)
              → Some stream ≡ None
          cases (inl h) =
              let u = was-unknown h.0 in
              let knows-it : knows o.states id ≡ true =
              subst (λ n. knows o.states n ≡ true) h.1
              (served-known run o s.brought k is (ap is_stream h.1 ∙ u.0)) in
              absurd (true≢false (sym knows-it ∙ u.1))
          cases (inr h) = absurd (not-some (streams k) stream e h)

  -- a stream of which nothing was heard is open now
  opens-new : is_stream id ≡ true → is_heard o.states id ≡ false → left id ≡ None → ⊥
  opens-new there unheard closed =
      let new_one : becomes_open o id ≡ true =
      ap (λ b. b && not (is_heard o.states id)) there ∙ ap not unheard in
      not-some (left id) (stream_at (length calls)) closed
      (p.opens id
      ∙ ap (λ b. if b && (id == id) then Some (stream_at (length calls)) else streams id) new_one
      ∙ ap (λ b. if b then Some (stream_at (length calls)) else streams id) (eq-eqb id id refl))

  opens-unless : is_fresh id run ≡ true → is_stream id ≡ true → left id ≡ None → (b : Bool)
      → is_heard o.states id ≡ b → was_reset id run ≡ true
  opens-unless fresh there none true e = s.early id e fresh
  opens-unless fresh there none false e = absurd (opens-new there e none)

  -- what was heard of is the new call's, or was heard of before
  heard-by : (k : ℕ) → is_heard new.states k ≡ true
      → ((k == id) ≡ true) ⊎ (is_heard o.states k ≡ true)
  heard-by k e = by (is_new_call o id) (k == id) refl (sym (p.takes.heard k) ∙ e)
    where
      by : (a b : Bool) → (k == id) ≡ b → (((a && b) || false) || is_heard o.states k) ≡ true
          → ((k == id) ≡ true) ⊎ (is_heard o.states k ≡ true)
      by a true q f = inl q
      by true false q f = inr f
      by false false q f = inr f

  unheard : (k : ℕ) → is_heard new.states k ≡ false → is_heard o.states k ≡ false
  unheard k e =
      was-false (is_heard o.states k) (is_heard new.states k)
      (takes-heard [] (λ other. is_new_call o id && (other == id)) [] o new p.takes k) e

  -- what isn't open was heard of before
  heard-before : (k : ℕ) → is_stream k ≡ true → left k ≡ None → is_heard new.states k ≡ true
      → is_heard o.states k ≡ true
  heard-before k there none known = cases (heard-by k known) (is_heard o.states k) refl
    where
      cases : ((k == id) ≡ true) ⊎ (is_heard o.states k ≡ true) → (b : Bool)
          → is_heard o.states k ≡ b → b ≡ true
      cases h true e = refl
      cases (inr old) false e = absurd (true≢false (sym old ∙ e))
      cases (inl here) false e =
          let same : k ≡ id = eqb-true k id here in
          absurd (opens-new (ap is_stream (sym same) ∙ there)
          (ap (λ n. is_heard o.states n) (sym same) ∙ e) (subst (λ n. left n ≡ None) same none))

  reasons : (k : ℕ) → is_stream k ≡ true → left k ≡ None → is_heard new.states k ≡ true
      → (is_some (over_on new.states k) ≡ true) ⊎ (has_reason k after ≡ true)
  reasons k there none known =
      ended-later (over_on o.states k) (over_on new.states k) (has_reason k run)
      (has_reason k after) (over k) (reason-taken run (order.Open id tt) k)
      (s.reasons k there (less-none k none) (heard-before k there none known))

  early : (k : ℕ) → is_heard new.states k ≡ true → is_fresh k after ≡ true
      → was_reset k after ≡ true
  early k e f = by (heard-by k e)
    where
      by : ((k == id) ≡ true) ⊎ (is_heard o.states k ≡ true)
          → was_reset k (Taken (order.Open id tt) ∷ run) ≡ true
      by (inl here) = absurd (true≢false (sym f ∙ fresh-here run id k here))
      by (inr old) =
          reset-taken run (order.Open id tt) k (s.early k old (was-true (is_fresh k run)
          (is_fresh k (Taken (order.Open id tt) ∷ run)) (fresh-less run id k) f))

  brought : (k : ℕ) → knows new.states k ≡ (is_stream k && is_opened k after)
  brought k =
      p.takes.knows k ∙ ap (λ b. (is_new_call o id && (k == id)) || b) (s.brought k)
      ∙ by (k == id) refl
    where
      elsewhere : (a b : Bool) → ((a && false) || b) ≡ b
      elsewhere true b = refl
      elsewhere false b = refl

      here : (stream was known : Bool) → known ≡ (stream && was)
          → (((stream && not known) && true) || (stream && was)) ≡ (stream && true)
      here true was true e = sym e
      here true was false e = refl
      here false was known e = refl

      by : (b : Bool) → (k == id) ≡ b
          → ((is_new_call o id && (k == id)) || (is_stream k && is_opened k run))
          ≡ (is_stream k && ((k == id) || is_opened k run))
      by true q =
          let P : ℕ → Type 0 = λ n.
          ((is_new_call o id && true) || (is_stream n && is_opened n run))
          ≡ (is_stream n && true) in
          ap (λ b. (is_new_call o id && b) || (is_stream k && is_opened k run)) q
          ∙ subst P (sym (eqb-true k id q))
          (here (is_stream id) (is_opened id run) (knows o.states id) (s.brought id))
          ∙ sym (ap (λ b. is_stream k && (b || is_opened k run)) q)
      by false q =
          ap (λ b. (is_new_call o id && b) || (is_stream k && is_opened k run)) q
          ∙ elsewhere (is_new_call o id) (is_stream k && is_opened k run)
          ∙ sym (ap (λ b. is_stream k && (b || is_opened k run)) q)

  stays : (k : ℕ) → is_served k after ≡ true → is_stream k ≡ true → left k ≡ None
      → (b : Bool) → (k == id) ≡ b
      → (is_some (over_on new.states k) ≡ true) ⊎ (was_reset k after ≡ true)
  stays k is there none true q =
      let same : k ≡ id = eqb-true k id q in
      let fresh : is_fresh id run ≡ true =
      ap (λ n. is_fresh n run) (sym same) ∙ sym (served-here run id k q) ∙ is in
      inr (subst (λ n. was_reset n after ≡ true) (sym same) (reset-taken run (order.Open id tt) id
      (opens-unless fresh (ap is_stream (sym same) ∙ there) (subst (λ n. left n ≡ None) same none)
      (is_heard o.states id) refl)))
  stays k is there none false q =
      ended-later (over_on o.states k) (over_on new.states k) (was_reset k run) (was_reset k after)
      (over k) (reset-taken run (order.Open id tt) k)
      (s.stays k (sym (served-else run id k q) ∙ is) there (less-none k none))

  pub serves-opened :
      Serves (Taken (order.Open id tt) ∷ run) new left (calls ++ (id, []) ∷ []) marks
  serves-opened = record {
    spells =
        taken-tells [] (λ other. is_new_call o id && (other == id)) o new (order.Open id tt) p.takes
        run marks s.spells;
    exact = exact;
    not_over = λ k stream e.
        over k
        ∙ of-open (λ n. over_on o.states n ≡ None)
        (λ here. unheard-over o.states id (was-unknown here).2) s.not_over k stream e;
    known =
        of-open (λ n. knows new.states n ≡ true) (λ here. knows-here (was-unknown here).0)
        (λ n stream e. knows-more n (s.known n stream e));
    ended = ended;
    returned = λ k items is e.
        let was = old-served k (s.stale k items is) e in
        let h = s.returned k items is was in (
          returned-none k was h.0,
          subst (λ (b : Option Bool). IsEnded b (marks_on k marks) items) (sym (over k)) h.1,
        );
    stale = λ k items is. fresh-less run id k (s.stale k items is);
    apart = apart;
    opened = opened;
    due =
        subst (All (MayBeDue after new left)) (sym (p.takes.due ∙ append-nil o.due.items))
        (all-due run after o new streams left (record {
          refused = λ k e f. (fresh-less run id k e, unserved run id k e f);
          reset = λ k e f. (
            still-none k e f,
            takes-heard [] (λ other. is_new_call o id && (other == id)) [] o new p.takes k f,
          );
          asked = refused-taken run (order.Open id tt);
          reason = reason-taken run (order.Open id tt);
        }) o.due.items s.due);
    unknown = λ k e. s.unknown k (unheard k e);
    other = λ k f.
        subst (λ (b : Option Bool). IsEnded b (marks_on k marks) []) (sym (over k))
        (s.other k (was-true (is_fresh k run) (is_fresh k after) (fresh-less run id k) f));
    stays = λ k is there none. stays k is there none (k == id) refl;
    early = early;
    reasons = reasons;
    brought = brought;
    uncalled = λ k e.
        uncalled-same run after k (over_on o.states k) (over_on new.states k) (marks_on k marks)
        (marks_on k marks) (refused-taken run (order.Open id tt) k) (over k) refl
        (s.uncalled k (knew k e));
  }
