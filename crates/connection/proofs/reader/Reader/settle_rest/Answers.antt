use Rattle.std.proofs.Common.{◌≡◌, ◌∙◌, List, [], ◌∷◌, length, refl, sym}
use Rattle.connection.proofs.HeardActs.{collects-none, collects-then}
use Rattle.connection.proofs.reader.Reader.settle_rest.Goals as goal

none-of : {A : Type 0} (xs : List A) → length xs ≡ 0 → xs ≡ []
none-of [] none = refl
none-of (x ∷ xs) none = absurd cc

pub looks-init : goal.looks-init
looks-init g c = (collects-none _ _ refl, refl)

pub looks-preserved : goal.looks-preserved
looks-preserved g c = (
  collects-then _ _ _ c.looks.invariant.0 c.settle_all.ensures.collects,
  c.settle_all.ensures.orders ∙ c.looks.invariant.1,
)

pub returns-then-unsettled-eq0 : goal.returns-then-unsettled-eq0
returns-then-unsettled-eq0 g c = record {
  collects = collects-then _ _ _ c.looks.invariant.0 c.settle_all.ensures.collects;
  none = none-of _ (sym c.unsettled.ensures ∙ c.if-unsettled-eq0.true);
  orders = c.settle_all.ensures.orders ∙ c.looks.invariant.1;
}
