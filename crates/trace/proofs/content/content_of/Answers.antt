use Rattle.std.proofs.Common.{Bool, subst}
use Rattle.trace.specs.Contents.{HasPadding}
use Rattle.trace.proofs.Contents.{is_content}
use Rattle.trace.proofs.content.content_of.Goals as goal

pub returns : goal.returns
returns c =
    let payload = c.args.payload.now in
    let padding = c.in_ok-padding.padding in
    let rest = c.in_ok-padding.rest.now in
    let last = c.in_ok-content.ensures in
    let padded =
    subst (λ (b : Bool). HasPadding b payload padding rest) c.is_padded.ensures
    c.in_ok-padding.ensures.some in
    is_content c.args.head.now payload rest c.in_ok-behind.behind.now c.in_ok-content.content.now
    last.0 padding padded c.in_ok-behind.ensures.some last.1 last.2
