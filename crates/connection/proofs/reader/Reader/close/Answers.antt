use Rattle.std.proofs.Common.{◌≡◌, ◌∙◌, List, [], ◌∷◌, ◌++◌, ap, refl}
use Rattle.outwriter.specs.declared.control.WriterOrder.TheVariants.{Close}
use Rattle.connection.specs.Puts.{put_of}
use Rattle.connection.proofs.Heard.{drops-none, drops-then}
use Rattle.connection.proofs.HeardActs.{collects-none, collects-then}
use Rattle.connection.proofs.reader.Reader.close.Goals as goal

behind : {T : Type 0} (was now all : List T) (one : T) → all ≡ now ++ one ∷ [] → now ≡ was
    → all ≡ was ++ one ∷ []
behind was now all one placed same = placed ∙ ap (λ (xs : List _). xs ++ one ∷ []) same

pub tries-init : goal.tries-init
tries-init g c = (collects-none _ _ refl, refl, drops-none _ _ refl)

pub tries-preserved : goal.tries-preserved
tries-preserved g c = (
  collects-then _ _ _ c.tries.invariant.0 c.settle_all.ensures.collects,
  c.try_close.ensures.full c.if-try_close.false
      ∙ (ap put_of c.settle_all.ensures.orders ∙ c.tries.invariant.1),
  drops-then _ _ _ c.tries.invariant.2
      (drops-then _ _ _ (drops-none _ _ c.settle_all.ensures.orders) c.try_close.ensures.drops),
)

pub returns-then-try_close : goal.returns-then-try_close
returns-then-try_close g c = record {
  collects = collects-then _ _ _ c.tries.invariant.0 c.settle_all.ensures.collects;
  put =
      behind _ _ _ Close (c.try_close.ensures.put c.if-try_close.true)
      (ap put_of c.settle_all.ensures.orders ∙ c.tries.invariant.1);
  none_left = c.try_close.ensures.none_left c.if-try_close.true;
  drops =
      drops-then _ _ _ c.tries.invariant.2
      (drops-then _ _ _ (drops-none _ _ c.settle_all.ensures.orders) c.try_close.ensures.drops);
}
