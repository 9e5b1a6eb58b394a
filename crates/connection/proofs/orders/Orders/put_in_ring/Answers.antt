use Rattle.std.proofs.Common.{◌≡◌, ◌∙◌, List, [], ◌∷◌, ◌++◌, Result, Ok, Err, OnOk, ap, inl, refl}
use Rattle.connection.proofs.Backlog.{alone, both, puts-behind}
use Rattle.connection.proofs.orders.Orders.put_in_ring.Goals as goal

done : {T E P : Type 0} (result : Result T E) → ((fault : E) → result ≡ Err fault → ⊥)
    → OnOk result P → P
done (Ok placed) not on = on
done (Err fault) not on = absurd (not fault refl)

behind : {T : Type 0} {was now : List T} {one other : T} {all : List T} → all ≡ now ++ one ∷ []
    → now ≡ was → one ≡ other → all ≡ was ++ other ∷ []
behind {was = was} {one = one} placed same is =
    placed ∙ (ap (λ (xs : List _). xs ++ one ∷ []) same ∙ ap (λ (x : _). was ++ x ∷ []) is)

pub returns-in_default : goal.returns-in_default
returns-in_default g c =
    let placed = done _ c.in_default.not-Err c.put.ensures.ok in
    record {
      puts = inl (
        alone _ _ (behind placed c.tries.invariant.0 c.tries.invariant.3)
            (ap (λ later. later.items) c.tries.invariant.4) c.requires.none_left,
        c.requires.whole,
        c.tries.invariant.1 ∙ c.requires.whole,
        c.tries.invariant.2,
      );
      stops = λ was. c.tries.invariant.5 ∙ was;
    }

pub returns-then-has_stopped : goal.returns-then-has_stopped
returns-then-has_stopped g c = record {
  puts =
      puts-behind _ _ _ _ _ _ _ _ _ _ _ (both (c.in-Err.ensures.unchanged ∙ c.tries.invariant.0)
      (ap (λ later. later.items) c.tries.invariant.4))
      c.tries.invariant.1 c.tries.invariant.2 (c.into_item-order.ensures
      ∙ (c.in-Err.ensures.handed_back ∙ c.tries.invariant.3)) c.defer.ensures.puts;
  stops = λ was. c.defer.ensures.stops refl;
}
