-- The fragments of a header block (RFC 9113, section 4.3).
use Rattle.std.specs.Prelude.{
  Bool,
  true,
  nat_le,
  length,
  take,
  drop,
  Option,
  Some,
  None,
  if◌then◌else◌,
}
use Rattle.h2frame.specs.declared.frame.Frame.{Frame}
use Rattle.outwriter.specs.declared.blocks.HeaderBlock.{HeaderBlock}
use Rattle.outwriter.specs.Frames.{headers_frame, continuation_frame}

-- the rest of the block fits into one frame
abbrev pub is_short : HeaderBlock → Bool
is_short block = nat_le (length block.rest) 16384

-- the next frame of a block: HEADERS first, then CONTINUATION, the last of them with END_HEADERS
abbrev pub frame_of : HeaderBlock → Frame
frame_of block =
    if block.begun then continuation_frame block.id (is_short block) (take 16384 block.rest)
    else headers_frame block.id block.ends (is_short block) (take 16384 block.rest)

-- the block after that frame
abbrev pub rest_of : HeaderBlock → Option HeaderBlock
rest_of block =
    if is_short block then None
    else Some (record {
      id = block.id;
      ends = block.ends;
      begun = true;
      rest = drop 16384 block.rest;
    })
