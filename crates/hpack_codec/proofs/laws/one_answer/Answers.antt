use Rattle.hpack_codec.proofs.NoFault.{block_one, only_fields, only_memory}
use Rattle.hpack_codec.proofs.OneBlock.{fault_one}
use Rattle.hpack_codec.proofs.laws.one_answer.Goals as goal

pub returns-clause-block : goal.returns-clause-block
returns-clause-block c = block_one

pub returns-clause-reading : goal.returns-clause-reading
returns-clause-reading c = λ kept next other block fields others reads also.
    only_fields kept next other block fields others also reads

pub returns-clause-fault : goal.returns-clause-fault
returns-clause-fault c = λ kept block fault other live also first is.
    fault_one fault other kept block first is live also

pub returns-clause-never_both : goal.returns-clause-never_both
returns-clause-never_both c = λ kept next block fields fault live reads first.
    live (only_memory fault kept next block fields reads first)
