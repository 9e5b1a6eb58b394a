use Rattle.device_rows.proofs.drained.drain_at.Given as goal

abbrev pub ghosts-drain_over-A-Ledger : goal.ghosts-drain_over-A-Ledger
ghosts-drain_over-A-Ledger g a = record { name = a.blanks.0.name; parts = a.blanks.0.parts }

abbrev pub ghosts-drain_over-B-Ledger : goal.ghosts-drain_over-B-Ledger
ghosts-drain_over-B-Ledger g a = record { name = a.blanks.1.name; parts = a.blanks.1.parts }

abbrev pub ghosts-drain_over-C-Ledger : goal.ghosts-drain_over-C-Ledger
ghosts-drain_over-C-Ledger g a = record { name = a.blanks.2.name; parts = a.blanks.2.parts }
