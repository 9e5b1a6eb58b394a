use Rattle.std.proofs.Common.{
  ◌≡◌,
  true,
  false,
  ◌++◌,
  [],
  ◌∷◌,
  List,
  Option,
  sym,
  ap,
  refl,
  subst,
  ◌∙◌,
}
use Rattle.account.specs.declared.call.OutItem.{OutItem}
use Rattle.account.specs.Accounts.{Begins, IsResponse}
use Rattle.account.specs.Runs.{may_follow, last_of}
use Rattle.account.specs.SerialCalls.{account_of}
use Rattle.account.proofs.SerialLemmas.{after-give, after-give_not, IsResponse-push, Begins-longer}
use Rattle.account.proofs.serial.SerialCall.give.Goals as goal

pub returns-in_ok-push-clause-account : goal.returns-in_ok-push-clause-account
returns-in_ok-push-clause-account c =
    let a = account_of c.args.self.now in
    let item = c.args.item.now in
    let last = c.last.ensures.value ∙ ap last_of c.deref.ensures.value in
    let follows : may_follow (last_of a.given) item ≡ true =
    ap (λ (o : Option OutItem). may_follow o item) (sym last)
    ∙ sym c.if-may_follow.ensures.computed in
    ap (λ (xs : List OutItem). record a { given = xs })
    (c.in_ok-push.ensures.items ∙ ap (λ (x : OutItem). a.given ++ x ∷ []) c.in_ok-copy.ensures)
    ∙ sym (after-give a item follows)

pub returns-in_ok-push-clause-consistent : goal.returns-in_ok-push-clause-consistent
returns-in_ok-push-clause-consistent c =
    let old = c.args.self.now in
    let given = old.given.items in
    let item = c.args.item.now in
    let last = c.last.ensures.value ∙ ap last_of c.deref.ensures.value in
    let follows : may_follow (last_of given) item ≡ true =
    ap (λ (o : Option OutItem). may_follow o item) (sym last)
    ∙ sym c.if-may_follow.ensures.computed in
    let framed = c.if-may_follow.ensures.framed refl in
    let longer =
    c.in_ok-push.ensures.items ∙ ap (λ (x : OutItem). given ++ x ∷ []) c.in_ok-copy.ensures in
    record {
      whole = c.requires.whole;
      each = c.requires.each;
      told = c.requires.told;
      sent =
          subst (λ (xs : List OutItem). Begins old.sent.items xs) (sym longer)
          (Begins-longer old.sent.items given item c.requires.sent);
      given =
          subst IsResponse (sym longer)
          (IsResponse-push given item c.requires.given follows framed);
    }

pub returns-else-may_follow-clause-account : goal.returns-else-may_follow-clause-account
returns-else-may_follow-clause-account c =
    let a = account_of c.args.self.now in
    let item = c.args.item.now in
    let last = c.last.ensures.value ∙ ap last_of c.deref.ensures.value in
    let not : may_follow (last_of a.given) item ≡ false =
    ap (λ (o : Option OutItem). may_follow o item) (sym last)
    ∙ sym c.if-may_follow.ensures.computed in
    sym (after-give_not a item not)
