use Rattle.connection.proofs.serve.serve_undrained.Given as goal

abbrev pub ghosts-serve_ledgers-A-Ledger : goal.ghosts-serve_ledgers-A-Ledger
ghosts-serve_ledgers-A-Ledger g a = record { name = a.blanks.0.name; parts = a.blanks.0.parts }

abbrev pub ghosts-serve_ledgers-B-Ledger : goal.ghosts-serve_ledgers-B-Ledger
ghosts-serve_ledgers-B-Ledger g a = record { name = a.blanks.1.name; parts = a.blanks.1.parts }

abbrev pub ghosts-serve_ledgers-C-Ledger : goal.ghosts-serve_ledgers-C-Ledger
ghosts-serve_ledgers-C-Ledger g a = record { name = a.blanks.2.name; parts = a.blanks.2.parts }
