use Rattle.std.proofs.Common.{◌≡◌, Some, sym, subst, refl}
use Rattle.callhead.specs.Statuses.{IsStatusCode}
use Rattle.callhead.proofs.StatusLemmas.{empty_text}
use Rattle.callhead.proofs.status.read_status.Goals as goal
use Rattle.callhead.proofs.status.read_status.Goals.{
  in-Some-first_value+in_ok-text-in-Some-first_value,
  in-None,
}

pub returns-in_default-read_code-clause-none : goal.returns-in_default-read_code-clause-none
returns-in_default-read_code-clause-none c = λ code text tells.
    let found = tells.found in
    let first = c.in-Some.ensures in
    let same : tells.number ≡ c.in-Some.number.now = cc in
    let read : c.read_code.result ≡ Some code =
    (c.read_code.ensures code).1 (subst (λ number. IsStatusCode number code) same tells.code_is) in
    let none = c.in_default-read_code.is in
    absurd (cc)

pub returns-clause-some : goal.returns-clause-some
returns-clause-some c = record {
  number = c.in-Some.number.now;
  found = sym c.in-Some.ensures;
  code_is = (c.read_code.ensures c.in-Some-read_code.code).0 c.in-Some-read_code.is;
  text_is = elim c.match-first_value-2.branch [
    | in-Some-first_value+in_ok-text-in-Some-first_value w ↦
        rw (w.text-is, w.in_ok-text-in-Some-first_value.ensures, ← w.in-Some-first_value.ensures)
        refl
    | in-None w ↦ rw (w.text-is, w.new-text.ensures.bytes, ← w.in-None.ensures) (sym empty_text)
  ];
}
