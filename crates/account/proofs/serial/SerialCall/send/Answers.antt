use Rattle.std.proofs.Common.{
  ◌≡◌,
  ◌++◌,
  [],
  ◌∷◌,
  ℕ,
  get_or,
  arith,
  List,
  None,
  Some,
  length,
  sym,
  ap,
  subst,
  ◌∙◌,
  rules,
}
use Rattle.std.specs.Prelude.{slice_get}
use Rattle.std.proofs.lemmas.Option.{slice_get_past}
use Rattle.account.specs.declared.call.OutItem.{OutItem}
use Rattle.account.specs.Accounts.{Begins}
use Rattle.account.specs.SerialCalls.{account_of}
use Rattle.account.proofs.SerialLemmas.{read_at, after-send, after-send_none, Begins-push}
use Rattle.account.proofs.serial.SerialCall.send.Goals as goal
use Rattle.account.proofs.serial.SerialCall.send.Goals.{In_ok-push}

-- the item that is sent is the next of those that were given
is_next : (c : In_ok-push)
    → slice_get c.args.self.now.given.items (length c.args.self.now.sent.items)
    ≡ Some c.in-Some.item.now
is_next c =
    let given = c.args.self.now.given.items in
    let item = c.in-Some.item.now in
    let found = c.in-Some.ensures.lookup in
    let whole : c.deref.result.now ≡ given = search rules in
    let len : c.len.result ≡ length c.args.self.now.sent.items = search rules in
    let here : item ≡ get_or given (length c.args.self.now.sent.items) item =
    found.1 ∙ ap (λ (xs : List OutItem). get_or xs c.len.result item) whole
    ∙ ap (λ (n : ℕ). get_or given n item) len in
    read_at given (length c.args.self.now.sent.items) item
    (omega (arith, found.3.0, ap length whole, len)) here

pub returns-in_ok-push-clause-account : goal.returns-in_ok-push-clause-account
returns-in_ok-push-clause-account c =
    let a = account_of c.args.self.now in
    let item = c.in-Some.item.now in
    let here = is_next c in
    ap (λ (xs : List OutItem). record a { sent = xs })
    (c.in_ok-push.ensures.items ∙ ap (λ (x : OutItem). a.sent ++ x ∷ []) c.in_ok-copy.ensures)
    ∙ sym (after-send a item here)

pub returns-in_ok-push-clause-consistent : goal.returns-in_ok-push-clause-consistent
returns-in_ok-push-clause-consistent c =
    let old = c.args.self.now in
    let item = c.in-Some.item.now in
    let here = is_next c in
    let longer =
    c.in_ok-push.ensures.items
    ∙ ap (λ (x : OutItem). old.sent.items ++ x ∷ []) c.in_ok-copy.ensures in
    record {
      whole = c.requires.whole;
      each = c.requires.each;
      told = c.requires.told;
      sent =
          subst (λ (xs : List OutItem). Begins xs old.given.items) (sym longer)
          (Begins-push old.sent.items old.given.items item c.requires.sent here);
      given = c.requires.given;
    }

pub returns-in_default-clause-account : goal.returns-in_default-clause-account
returns-in_default-clause-account c =
    let a = account_of c.args.self.now in
    let none : slice_get a.given (length a.sent) ≡ None =
    (let whole : c.deref.result.now ≡ a.given = search rules in
    let len : c.len.result ≡ length a.sent = search rules in
    slice_get_past a.given (length a.sent)
    (omega (arith, c.in_default.ensures.lookup.3, ap length whole, len))) in
    sym (after-send_none a none)
