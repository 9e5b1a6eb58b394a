-- What a core keeps where a sender is asked for the item that it gave last.
use Rattle.std.proofs.Common.{
  ◌≡◌,
  ℕ,
  refl,
  sym,
  ap,
  subst,
  ◌∙◌,
  Bool,
  true,
  false,
  List,
  [],
  ◌∷◌,
  ◌++◌,
  Option,
  Some,
  None,
  length,
  get_or,
  arith,
  true≢false,
}
use Rattle.std.specs.Prelude.{◌≢◌, ◌<◌, ◌≤◌, Contains, map, set}
use Rattle.std.proofs.lemmas.List.{get_or-map, length-map}
use Rattle.std.proofs.Math.Seq.{map-set_same}
use Rattle.account.specs.declared.call.OutItem.{OutItem}
use Rattle.account.specs.declared.call.OutItem.TheVariants.{Head, Message, Trailers, Left}
use Rattle.lane.specs.Lawful.{last_of}
use Rattle.callbox.specs.OutSides.{is_left}
use Rattle.callbox.specs.declared.sender.Sender.{Sender}
use Rattle.outwriter.specs.declared.out_core.OutCore.{OutCore}
use Rattle.outwriter.specs.declared.outbound.Outbound.{Outbound}
use Rattle.outwriter.specs.declared.sending.Sending.{Sending}
use Rattle.outwriter.specs.Calls.{TellFronts}
use Rattle.outwriter.specs.CallState.{Kept}
use Rattle.outwriter.specs.Cores.{LeadsStill, calls}
use Rattle.outwriter.specs.LeftCalls.{WasLeft, WasNotLeftAt}

-- ---- the item

item-left : (one : Option OutItem) → is_left one ≡ true → one ≡ Some Left
item-left None is = absurd (true≢false (sym is))
item-left (Some (Head fields)) is = absurd (true≢false (sym is))
item-left (Some (Message bytes)) is = absurd (true≢false (sym is))
item-left (Some (Trailers fields)) is = absurd (true≢false (sym is))
item-left (Some Left) is = refl

item-other : (one : Option OutItem) → is_left one ≡ false → one ≢ Some Left
item-other one other is = true≢false (sym (ap is_left is) ∙ other)

-- ---- the senders

module _ {L In Out Shut : Type 0} (got : Out → List OutItem) where
  -- nothing more was got of the one at a place
  pub calls-same : (senders : List (ℕ × Sender L In Out Shut)) (place : ℕ)
      (entry : ℕ × Sender L In Out Shut) (new : Sender L In Out Shut)
      → entry ≡ get_or senders place entry
      → got new.rx ≡ got entry.1.rx
      → calls got (set senders place (entry.0, new)) ≡ calls got senders
  calls-same senders place entry new is same =
      map-set_same (λ (call : ℕ × Sender L In Out Shut). (call.0, got call.1.rx)) senders place
      (entry.0, new) entry
      (ap (λ (items : List OutItem). (entry.0, items)) same
      ∙ ap (λ (call : ℕ × Sender L In Out Shut). (call.0, got call.1.rx)) is)

  -- what it gave is that of its stream
  call-at : (senders : List (ℕ × Sender L In Out Shut)) (place : ℕ)
      (entry : ℕ × Sender L In Out Shut)
      → place < length senders → entry ≡ get_or senders place entry
      → Contains (calls got senders) (entry.0, got entry.1.rx)
  call-at senders place entry within is =
      let f : ℕ × Sender L In Out Shut → ℕ × List OutItem = λ call. (call.0, got call.1.rx) in (
        place,
        omega (arith, within, length-map senders f),
        get_or-map f senders place entry (entry.0, got entry.1.rx) within ∙ ap f (sym is),
      )

  -- whether that ends with the word that its call was left
  pub was-left : (senders : List (ℕ × Sender L In Out Shut)) (place : ℕ)
      (entry : ℕ × Sender L In Out Shut) (new : Sender L In Out Shut) (answer : Bool)
      → place < length senders
      → entry ≡ get_or senders place entry → got new.rx ≡ got entry.1.rx
      → answer ≡ is_left (last_of (got entry.1.rx)) → answer ≡ true
      → WasLeft entry.0 (calls got (set senders place (entry.0, new)))
  was-left senders place entry new answer within is same answers says =
      subst (λ (all : List (ℕ × List OutItem)). WasLeft entry.0 all)
      (sym (calls-same senders place entry new is same)) (
        got entry.1.rx,
        call-at senders place entry within is,
        item-left (last_of (got entry.1.rx)) (sym answers ∙ says),
      )

  pub not-left : (senders : List (ℕ × Sender L In Out Shut)) (place : ℕ)
      (entry : ℕ × Sender L In Out Shut) (new : Sender L In Out Shut) (answer : Bool)
      → entry ≡ get_or senders place entry → got new.rx ≡ got entry.1.rx
      → answer ≡ is_left (last_of (got entry.1.rx)) → answer ≡ false
      → WasNotLeftAt place (calls got (set senders place (entry.0, new)))
  not-left senders place entry new answer is same answers denies =
      subst (λ (all : List (ℕ × List OutItem)). WasNotLeftAt place all)
      (sym (calls-same senders place entry new is same)) (λ within d.
      let f : ℕ × Sender L In Out Shut → ℕ × List OutItem = λ call. (call.0, got call.1.rx) in
      let there : place < length senders = omega (arith, within, length-map senders f) in
      let at : get_or (calls got senders) place d ≡ f entry =
      get_or-map f senders place entry d there ∙ ap f (sym is) in
      subst (λ (call : ℕ × List OutItem). last_of call.1 ≢ Some Left) (sym at)
      (item-other (last_of (got entry.1.rx)) (sym answers ∙ denies)))

  -- there is none at a place behind them
  pub none-left : (senders : List (ℕ × Sender L In Out Shut)) (place : ℕ) → length senders ≤ place
      → WasNotLeftAt place (calls got senders)
  none-left senders place past within d =
      let f : ℕ × Sender L In Out Shut → ℕ × List OutItem = λ call. (call.0, got call.1.rx) in
      absurd (omega (arith, past, within, length-map senders f))

  -- ---- the core

  -- with what the senders gave it stays as it was
  pub leads-same : (old : OutCore L In Out Shut) (after : Sending L In Out Shut)
      → after.outbound ≡ old.sending.outbound
      → calls got after.senders.items ≡ calls got old.sending.senders.items
      → LeadsStill got old (record old { sending = after })
  leads-same old after bound same run l = record {
    lawful = l.lawful;
    fronts = subst (λ (all : List (ℕ × List OutItem)). TellFronts run all) (sym same) l.fronts;
    returned = l.returned;
    others = l.others;
    closed = l.closed;
    parts = l.parts;
    unsaid = l.unsaid;
    keeps = λ alive.
        subst (λ (o : Outbound). Kept run o (calls got after.senders.items)) (sym bound)
        (subst (λ (all : List (ℕ × List OutItem)). Kept run old.sending.outbound all)
        (sym same) (l.keeps alive));
  }
