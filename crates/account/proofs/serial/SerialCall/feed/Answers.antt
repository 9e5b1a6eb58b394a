use Rattle.std.proofs.Common.{
  ◌≡◌,
  true,
  false,
  ◌++◌,
  List,
  ℕ,
  sym,
  ap,
  subst,
  ◌∙◌,
  append_assoc,
  rules,
}
use Rattle.std.specs.Prelude.{is_some}
use Rattle.lpm.specs.Messages.{frames}
use Rattle.account.specs.Accounts.{MayTell}
use Rattle.account.specs.SerialCalls.{account_of}
use Rattle.account.proofs.SerialLemmas.{
  after-feed,
  after-feed_shut,
  MayTell-longer,
  none_unless,
  some_then,
}
use Rattle.account.proofs.serial.SerialCall.feed.Goals as goal

pub returns-then-is_some-clause-account : goal.returns-then-is_some-clause-account
returns-then-is_some-clause-account c =
    let some : is_some c.args.self.now.shut ≡ true = search rules in
    sym (after-feed_shut (account_of c.args.self.now) c.args.bytes.now
    (some_then c.args.self.now.shut some))

pub returns-in-Ok-clause-account : goal.returns-in-Ok-clause-account
returns-in-Ok-clause-account c =
    let old = account_of c.args.self.now in
    let unshut : is_some c.args.self.now.shut ≡ false = search rules in
    let longer =
    c.in_ok-extend_from_slice.ensures.items
    ∙ ap (λ (b : List ℕ). old.fed ++ b) c.as_slice.ensures in
    ap (λ (fed : List ℕ). record old { fed = fed }) longer
    ∙ sym (after-feed old c.args.bytes.now (none_unless c.args.self.now.shut unshut))

pub returns-in-Ok-clause-consistent : goal.returns-in-Ok-clause-consistent
returns-in-Ok-clause-consistent c =
    let old = c.args.self.now in
    let bytes = c.args.bytes.now in
    let unshut : is_some old.shut ≡ false = search rules in
    let longer =
    c.in_ok-extend_from_slice.ensures.items
    ∙ ap (λ (b : List ℕ). old.fed.items ++ b) c.as_slice.ensures in
    let same : c.in_ok-clone.field-0 ≡ bytes = search rules in
    let waits = c.in-Ok.ensures.ok ∙ ap (λ (b : List ℕ). old.splitter ++ b) same in
    record {
      whole =
          longer ∙ ap (λ (b : List ℕ). b ++ bytes) c.requires.whole
          ∙ append_assoc (frames old.taken.items) old.splitter bytes
          ∙ ap (λ (b : List ℕ). frames old.taken.items ++ b) (sym waits);
      each = c.requires.each;
      told =
          subst (λ (fed : List ℕ). MayTell old.told fed old.shut old.taken.items) (sym longer)
          (MayTell-longer old.told old.fed.items bytes old.shut old.taken.items
          (none_unless old.shut unshut) c.requires.told);
      sent = c.requires.sent;
      given = c.requires.given;
    }
