use Rattle.std.proofs.Common.{◌≡◌, ◌∙◌, Some, ap, refl, sym}
use Rattle.outwriter.specs.declared.control.WriterOrder.TheVariants as control
use Rattle.writerloop.specs.Sent.{core_keys, keys}
use Rattle.writerloop.proofs.CallSteps.{adds-from, aligned-more, lane-there}
use Rattle.writerloop.proofs.OpeningSteps.{got-none, same-opening, same-sender, same-sending}
use Rattle.writerloop.proofs.opening.begin.Goals as goal

pub returns-in-Done-clause-aligned : goal.returns-in-Done-clause-aligned
returns-in-Done-clause-aligned g c =
    let is : c.args.opening.sending.value.sender ≡ Some c.in-Some.sender = cc in
    aligned-more c.args.id c.args.opening.sending.value c.in-Some.sender
    c.args.sends.now.calls.items c.push_reserved.new.self.calls.items
    c.args.frames.now.core.sending.senders.items _ c.requires.aligned
    (adds-from c.args.id c.args.opening.sending.value _ c.args.sends.now.calls.items
    c.reserve.new.self.calls.items c.push_reserved.new.self.calls.items c.reserve.ensures.calls
    (ap (λ sending. sending.number) c.deref_mut.ensures.value) c.push_reserved.ensures.adds)
    c.in-Done.ensures.brings (lane-there c.args.opening.sending.value c.in-Some.sender is)

pub returns-in-Done-clause-wrote : goal.returns-in-Done-clause-wrote
returns-in-Done-clause-wrote g c =
    let is : c.args.opening.sending.value.sender ≡ Some c.in-Some.sender = cc in
    c.in-Done.ensures.wrote
    (got-none c.args.opening.sending.value.sender c.in-Some.sender c.args.opening.fresh is)

pub returns-in-Done-clause-adds : goal.returns-in-Done-clause-adds
returns-in-Done-clause-adds g c =
    adds-from c.args.id c.args.opening.sending.value _ c.args.sends.now.calls.items
    c.reserve.new.self.calls.items c.push_reserved.new.self.calls.items c.reserve.ensures.calls
    (ap (λ sending. sending.number) c.deref_mut.ensures.value) c.push_reserved.ensures.adds

pub returns-in-Done-clause-brings : goal.returns-in-Done-clause-brings
returns-in-Done-clause-brings g c = (c.in-Some.sender, c.in-Done.ensures.brings)

pub returns-in-Open-clause-still : goal.returns-in-Open-clause-still
returns-in-Open-clause-still g c =
    let is : c.args.opening.sending.value.sender ≡ Some c.in-Some.sender = cc in
    c.in-HandedBack.ensures.wrote
    (got-none c.args.opening.sending.value.sender c.in-Some.sender c.args.opening.fresh is)

pub returns-in-Open-clause-aligned : goal.returns-in-Open-clause-aligned
returns-in-Open-clause-aligned g c =
    ap (λ calls. keys calls) c.reserve.ensures.calls
    ∙ (c.requires.aligned ∙ sym (ap (λ core. core_keys core) c.in-HandedBack.ensures.brings))

pub returns-in-Open-clause-back : goal.returns-in-Open-clause-back
returns-in-Open-clause-back g c =
    let is : c.args.opening.sending.value.sender ≡ Some c.in-Some.sender = cc in
    let again =
    same-sender c.args.id _ c.in-Some.sender c.in-Open.again
    (sym c.in-Open.is ∙ c.in-HandedBack.ensures.whose) in
    ap (λ opening. control.Open c.args.id opening)
    (sym (same-opening c.args.opening _ _
    (same-sending c.args.opening.sending.value _ (sym
    (ap (λ sending. sending.number) c.deref_mut-in-HandedBack.ensures.value
    ∙ ap (λ sending. sending.number) c.deref_mut.ensures.value))
    (is ∙ ap (λ sender. Some sender) (sym again)))))
