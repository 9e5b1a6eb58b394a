use Rattle.results.specs.Choices.{IsPlace}
use Rattle.results.proofs.PlaceLemmas.{HasPlaces}
use Rattle.results.proofs.choice.chosen.Given as goal

abbrev pub invariant-loop-place : goal.invariant-loop-place
invariant-loop-place l = HasPlaces (IsPlace l.entries l.choice) l.place l.places.items
