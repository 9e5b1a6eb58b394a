use Rattle.std.proofs.Common.{List, ℕ, map, IsTrue, append_assoc, option_copied, Bor}
use Rattle.callhead.specs.BinValues.{AreBytes}
use Rattle.callhead.specs.RequestFields.{is_text_value}
use Rattle.callhead.proofs.RequestLemmas.{is_head, all_now}
use Rattle.callhead.proofs.request.request_fields.Goals as goal

pub returns-clause-head : goal.returns-clause-head
returns-clause-head c = λ head asks.
    let initial = map (λ (value : Bor (List ℕ)). value.now) c.args.initial.now in
    let trailing = map (λ (value : Bor (List ℕ)). value.now) c.args.trailing.now in
    let texts =
    all_now (λ value. IsTrue (is_text_value value)) c.args.initial.now c.requires.initial in
    let bytes = all_now AreBytes c.args.trailing.now c.in_ok-push_trailing.ensures.bytes in
    let is =
    is_head c.args.path.now (option_copied c.args.timeout) initial trailing head c.requires.path
    c.requires.timeout texts bytes asks in
    rw (
      c.in_ok-push_trailing.ensures.fields,
      c.in_ok-push_initial.ensures,
      c.in_ok-push_timeout.ensures,
      c.in_ok-fields.ensures,
    ) (simp append_assoc is)
