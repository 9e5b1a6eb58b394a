use Rattle.std.proofs.Common.{rules, ◌≡◌, true, length, slice_index_or, subst, refl}
use Rattle.std.proofs.lemmas.List.{get_or_read_under}
use Rattle.std.proofs.lemmas.List.Elements.{AllWithin-more}
use Rattle.wire.specs.Reactions.{Judges}
use Rattle.wire.proofs.seen_frames.SeenFrames.is_lawful.Goals as goal

pub loop-reaction-preserved : goal.loop-reaction-preserved
loop-reaction-preserved c =
    AllWithin-more (λ asked. Judges c.args.self.now asked true) c.args.lawful.now.all.items 0
    c.loop-reaction.reaction-index
    c.loop-reaction.invariant (λ d.
    let held : Judges c.args.self.now c.reaction-item.result true =
    rw c.if-not-branch.false at c.in_ok-holds.ensures in
    let items = c.as_slice-reaction-items.result.now in
    let read : c.reaction-item.result ≡ slice_index_or items c.loop-reaction.reaction-index d =
    get_or_read_under items c.loop-reaction.reaction-index (length items) c.reaction-item.result d
    c.reaction-item.is c.loop-reaction-test.true refl in
    let it : c.reaction-item.result ≡ slice_index_or c.args.lawful.now.all.items
    c.loop-reaction.reaction-index d =
    rw c.as_slice-reaction-items.ensures.value at read in
    subst (λ asked. Judges c.args.self.now asked true) it held)
