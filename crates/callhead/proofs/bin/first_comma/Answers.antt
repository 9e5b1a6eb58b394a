use Rattle.std.proofs.Common.{◌<◌, ◌^◌, length, arith}
use Rattle.callhead.proofs.PartLemmas.{comma_none, comma_without, comma_there, comma_fits}
use Rattle.callhead.proofs.bin.first_comma.Goals as goal

pub returns-clause-none : goal.returns-clause-none
returns-clause-none c =
    comma_none c.args.text.now c.position_of_comma.result c.position_of_comma.ensures

pub returns-clause-without : goal.returns-clause-without
returns-clause-without c =
    comma_without c.args.text.now c.position_of_comma.result c.position_of_comma.ensures

pub returns-clause-there : goal.returns-clause-there
returns-clause-there c =
    comma_there c.args.text.now c.position_of_comma.result c.position_of_comma.ensures

pub returns-clause-fits : goal.returns-clause-fits
returns-clause-fits c =
    let small : length c.args.text.now < 2 ^ 64 = omega arith in
    comma_fits c.args.text.now c.position_of_comma.result c.position_of_comma.ensures small
