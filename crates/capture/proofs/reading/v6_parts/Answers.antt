use Rattle.std.proofs.Common.{◌-◌, arith, drop, length, rules, sym}
use Rattle.std.proofs.lemmas.List.{length-drop, take_all}
use Rattle.capture.proofs.reading.v6_parts.Goals as goal

pub returns-clause-some : goal.returns-clause-some
returns-clause-some c =
    let packet = c.args.packet.now in
    record {
      version = search rules;
      size = omega arith;
      payload_length = omega arith;
      next_header = search rules;
      source = search rules;
      destination = search rules;
      content =
          sym (take_all (length packet - 40) (drop 40 packet)
          (omega (arith, length-drop 40 packet)));
    }
