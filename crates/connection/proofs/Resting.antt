-- The senders that a writer had at its end, one after another.
use Rattle.std.proofs.Common.{List, ◌∷◌, arith, refl, suc}
use Rattle.std.specs.Prelude.{Contains}
use Rattle.std.proofs.lemmas.List.Sorted.{Contains-permutation, IsPermutation-sym}
use Rattle.callparts.specs.declared.order.ReturningCall.{ReturningCall}
use Rattle.callparts.specs.declared.register.Naming.{Ghosts as Naming}
use Rattle.readerloop.specs.Calls.{HasReturned, SentItems, carried_in}
use Rattle.writerloop.specs.declared.senders.Senders.{Senders}
use Rattle.writerloop.specs.Rest.{HandsOver, rest_calls, rest_numbers}
use Rattle.writerloop.specs.Sent.{got_of, numbered}
use Rattle.connection.specs.Rest.{CarriesRest}

first-in : {A : Type 0} (x : A) (xs : List A) → Contains (x ∷ xs) x
first-in x xs = (0, omega arith, refl)

in-rest : {A : Type 0} (x first : A) (xs : List A) → Contains xs x → Contains (first ∷ xs) x
in-rest x first xs there = (suc there.0, omega (arith, there.1), there.2)

module _ {J : Type 0} {book : Naming J} where
  -- the others are among those that there were
  pub carries-less : (sent : List SentItems) (old new : Senders J book)
      (returning : ReturningCall J book)
      → HandsOver old new returning → CarriesRest sent old → CarriesRest sent new
  carries-less sent old new returning hands carries other id number call =
      carries other id
      (Contains-permutation (numbered hands.id returning.sending.value ∷ rest_numbers new)
      (rest_numbers old) (numbered id other.sending.value) (IsPermutation-sym _ _ hands.number)
      (in-rest (numbered id other.sending.value) (numbered hands.id returning.sending.value)
      (rest_numbers new) number))
      (Contains-permutation ((hands.id, got_of returning.sending.value.sender) ∷ rest_calls new)
      (rest_calls old) (id, got_of other.sending.value.sender) (IsPermutation-sym _ _ hands.call)
      (in-rest (id, got_of other.sending.value.sender)
      (hands.id, got_of returning.sending.value.sender) (rest_calls new) call))

  -- that which is handed over is
  pub carries-first : (sent : List SentItems) (old new : Senders J book)
      (returning : ReturningCall J book)
      → HandsOver old new returning → CarriesRest sent old
      → HasReturned (carried_in sent) returning.sending.value
  carries-first sent old new returning hands carries =
      carries returning hands.id
      (Contains-permutation (numbered hands.id returning.sending.value ∷ rest_numbers new)
      (rest_numbers old) (numbered hands.id returning.sending.value)
      (IsPermutation-sym _ _ hands.number)
      (first-in (numbered hands.id returning.sending.value) (rest_numbers new)))
      (Contains-permutation ((hands.id, got_of returning.sending.value.sender) ∷ rest_calls new)
      (rest_calls old) (hands.id, got_of returning.sending.value.sender)
      (IsPermutation-sym _ _ hands.call)
      (first-in (hands.id, got_of returning.sending.value.sender) (rest_calls new)))
