use Rattle.results.proofs.known_failure.read_known.Goals as goal

pub returns-clause-entries : goal.returns-clause-entries
returns-clause-entries c =
    rw (c.as_slice.ensures.value, c.in_ok-all_lines.ensures) at c.read_lines.ensures.entries

pub returns-clause-refused : goal.returns-clause-refused
returns-clause-refused c =
    rw (c.as_slice.ensures.value, c.in_ok-all_lines.ensures) at c.read_lines.ensures.refused
