use Rattle.std.proofs.Common.{arith}
use Rattle.std.proofs.lemmas.Result.{err_from_is_err_and}
use Rattle.h2frame.proofs.Steps.{
  frame_step,
  memory_step,
  connection_step,
  stream_step,
  tested,
  filled,
}
use Rattle.h2frame.proofs.reader.take_frame.Goals as goal
use Rattle.h2frame.proofs.reader.take_frame.Goals.{then-of_stream, else-of_stream}

pub returns-then-lacks_increment : goal.returns-then-lacks_increment
returns-then-lacks_increment c =
    let lacks =
    tested c.args.span.now c.args.buffer.now.items c.as_slice.result.now c.content_of.result.now _ _
    c.as_slice.ensures c.content_of.ensures.value c.lacks_increment.ensures
    c.if-lacks_increment.true in
    elim c.if-of_stream.branch [
      | then-of_stream w ↦ rw (w.buffer-is, w.advance.ensures.items)
          (stream_step c.args.span.now c.args.buffer.now.items c.requires.spelled lacks
          (omega (arith, w.if-of_stream.true)))
      | else-of_stream w ↦ rw w.buffer-is
          (connection_step c.args.span.now c.args.buffer.now.items c.requires.spelled lacks
          (omega (arith, w.if-of_stream.false)))
    ]

pub returns-in_err-content : goal.returns-in_err-content
returns-in_err-content c =
    let p = err_from_is_err_and c.from_residual.result c.from_residual.ensures.1 in
    let has =
    tested c.args.span.now c.args.buffer.now.items c.as_slice.result.now c.content_of.result.now _ _
    c.as_slice.ensures c.content_of.ensures.value c.lacks_increment.ensures
    c.if-lacks_increment.false in
    rw (p.1, p.2, c.in_err-content.ensures.err) (memory_step c.args.span.now c.args.buffer.now.items
    c.requires.spelled has (filled c.args.span.now c.args.buffer.now.items c.as_slice.result.now
    c.content_of.result.now c.as_slice.ensures c.content_of.ensures.value c.content_of.ensures.len
    c.in_err-content.ensures.some))

pub returns : goal.returns
returns c =
    let has =
    tested c.args.span.now c.args.buffer.now.items c.as_slice.result.now c.content_of.result.now _ _
    c.as_slice.ensures c.content_of.ensures.value c.lacks_increment.ensures
    c.if-lacks_increment.false in
    rw (c.in_ok-content.ensures.content, c.in_ok-content.ensures.rest)
    (frame_step c.args.span.now c.args.buffer.now.items c.requires.spelled has)
