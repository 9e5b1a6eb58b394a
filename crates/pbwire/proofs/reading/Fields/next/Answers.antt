use Rattle.std.proofs.Common.{List, ℕ, Some, Err, ap, subst}
use Rattle.pbwire.specs.declared.fault.WireFault.{WireFault}
use Rattle.pbwire.specs.Fields.{field_of, StartsWithField, FaultAt}
use Rattle.pbwire.proofs.FieldsRead.{
  field_from,
  fault_from,
  some_from,
  one_field,
  one_fault,
  field_or_fault,
  field_shortens,
}
use Rattle.pbwire.proofs.reading.Fields.next.Goals as goal

pub returns-in-Ok-clause-field : goal.returns-in-Ok-clause-field
returns-in-Ok-clause-field c =
    let found =
    field_from c.self.inside.unread.now (field_of c.in-Ok.item) c.in-Ok.rest.now
    (some_from _ c.if-is_empty.ensures) c.in-Ok.ensures in
    subst (λ (t : List ℕ). StartsWithField t (field_of c.in-Ok.item) c.in-Ok.rest.now)
    c.self.view_is found

pub returns-in-Ok-clause-every_field : goal.returns-in-Ok-clause-every_field
returns-in-Ok-clause-every_field c field rest there =
    one_field c.args.self.now (field_of c.in-Ok.item) field c.in-Ok.rest.now rest
    (returns-in-Ok-clause-field c) there

pub returns-in-Ok-clause-every_fault : goal.returns-in-Ok-clause-every_fault
returns-in-Ok-clause-every_fault c fault there =
    absurd (field_or_fault c.args.self.now (field_of c.in-Ok.item) c.in-Ok.rest.now fault
    (returns-in-Ok-clause-field c) there)

pub returns-in-Ok-clause-shorter : goal.returns-in-Ok-clause-shorter
returns-in-Ok-clause-shorter c =
    field_shortens c.args.self.now (field_of c.in-Ok.item) c.in-Ok.rest.now
    (returns-in-Ok-clause-field c)

pub returns-in-Err-clause-fault : goal.returns-in-Err-clause-fault
returns-in-Err-clause-fault c =
    let found =
    fault_from c.self.inside.unread.now c.in-Err.fault (some_from _ c.if-is_empty.ensures)
    c.in-Err.ensures in
    subst (λ (t : List ℕ). FaultAt t c.in-Err.fault) c.self.view_is found

pub returns-in-Err-clause-every_field : goal.returns-in-Err-clause-every_field
returns-in-Err-clause-every_field c field rest there =
    absurd
    (field_or_fault c.args.self.now field rest c.in-Err.fault there (returns-in-Err-clause-fault c))

pub returns-in-Err-clause-every_fault : goal.returns-in-Err-clause-every_fault
returns-in-Err-clause-every_fault c fault there =
    ap (λ (d : WireFault). Some (Err d))
    (one_fault c.args.self.now c.in-Err.fault fault (returns-in-Err-clause-fault c) there)
