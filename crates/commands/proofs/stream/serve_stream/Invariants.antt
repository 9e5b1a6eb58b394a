use Rattle.commands.proofs.stream.serve_stream.Given as goal

abbrev pub ghosts-serve_until-A-Ledger : goal.ghosts-serve_until-A-Ledger
ghosts-serve_until-A-Ledger g a = record { name = a.blanks.0.name; parts = a.blanks.0.parts }

abbrev pub ghosts-serve_until-B-Ledger : goal.ghosts-serve_until-B-Ledger
ghosts-serve_until-B-Ledger g a = record { name = a.blanks.1.name; parts = a.blanks.1.parts }

abbrev pub ghosts-serve_until-C-Ledger : goal.ghosts-serve_until-C-Ledger
ghosts-serve_until-C-Ledger g a = record { name = a.blanks.2.name; parts = a.blanks.2.parts }
