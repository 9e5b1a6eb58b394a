use Rattle.device_rows.proofs.serve.Given as goal

abbrev pub ghosts-serve_over-A-Ledger : goal.ghosts-serve_over-A-Ledger
ghosts-serve_over-A-Ledger g a = record { name = a.blanks.0.name; parts = a.blanks.0.parts }

abbrev pub ghosts-serve_over-B-Ledger : goal.ghosts-serve_over-B-Ledger
ghosts-serve_over-B-Ledger g a = record { name = a.blanks.1.name; parts = a.blanks.1.parts }

abbrev pub ghosts-serve_over-C-Ledger : goal.ghosts-serve_over-C-Ledger
ghosts-serve_over-C-Ledger g a = record { name = a.blanks.2.name; parts = a.blanks.2.parts }
