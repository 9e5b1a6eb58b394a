use Rattle.std.proofs.Common.{length, take, ap, ◌∙◌, arith}
use Rattle.std.proofs.lemmas.List.{length-take}
use Rattle.lpm.specs.Fronts.{extent_of}
use Rattle.lpm.proofs.Joins.{within_appended}
use Rattle.lpm.proofs.joined.JoinedBytes.append.Goals as goal

pub invariant_of-self : goal.invariant_of-self
invariant_of-self c =
    let bytes = c.reserve.new.self.bytes in
    let piece = c.as_slice.result.now in
    record {
      within =
          within_appended bytes.items (take c.min-count.result piece)
          c.extend_from_slice.new.self.items _ c.args.len
          (ap extent_of c.reserve.ensures ∙ c.requires.extent)
          (omega (
            arith,
            length-take c.min-count.result piece,
            bytes.ok.0,
            ap length c.reserve.ensures,
            c.requires.unfinished,
          ))
          c.extend_from_slice.ensures.items;
    }
