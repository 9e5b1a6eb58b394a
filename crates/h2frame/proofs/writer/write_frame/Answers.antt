use Rattle.std.proofs.Common.{sym, arith}
use Rattle.h2frame.proofs.Existence.{written}
use Rattle.h2frame.proofs.writer.write_frame.Goals as goal

pub returns-clause-read_back : goal.returns-clause-read_back
returns-clause-read_back c =
    written c.args.frame.now (record {
      kind = c.requires.kind;
      stream = c.requires.stream;
      length = omega (arith, c.in_default.ensures.short);
    }) c.requires.whole c.requires.not_padded c.requires.no_priority
    (sym c.in_default.ensures.fault)
