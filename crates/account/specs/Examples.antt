-- Worked examples of the definitions.
use Rattle.std.specs.Prelude.{◌≡◌, List, [], ◌∷◌, Some, None, refl}
use Rattle.lpm.specs.Messages.{announced}
use Rattle.lpm.specs.Reading.{
  front_of_message,
  front_of_length,
  front_of,
  reading_within,
  reading_of,
}
use Rattle.account.specs.declared.call.CallEvent.{CallEvent}
use Rattle.account.specs.declared.call.CallEvent.TheVariants as event
use Rattle.account.specs.declared.call.OutItem.TheVariants.{Head, Message, Trailers, Left}
use Rattle.account.specs.declared.call.Shut.TheVariants as shut
use Rattle.account.specs.declared.call.RequestEnd.TheVariants as told
use Rattle.account.specs.Accounts.{IsResponse}
use Rattle.account.specs.Runs.{after, run}

-- a message in two pieces, an end, and what comes too late
abbrev pub late : List CallEvent
late =
    event.Feed (0 ∷ 0 ∷ 0 ∷ 0 ∷ 1 ∷ []) ∷ event.Take ∷ event.Feed (65 ∷ []) ∷ event.Take
    ∷ event.Shut shut.End ∷ event.Feed (66 ∷ []) ∷ event.Take ∷ event.Take ∷ []

pub run-late : run late
    ≡ record {
      fed = 0 ∷ 0 ∷ 0 ∷ 0 ∷ 1 ∷ 65 ∷ [];
      shut = Some shut.End;
      taken = (65 ∷ []) ∷ [];
      told = Some told.End;
      given = [];
      sent = [];
    }
unfolding after announced front_of_message front_of_length front_of reading_within reading_of
run-late = refl

-- a message before a head isn't given, nor is anything after trailers
abbrev pub out_of_place : List CallEvent
out_of_place =
    event.Give (Message (0 ∷ 0 ∷ 0 ∷ 0 ∷ 0 ∷ [])) ∷ event.Give (Trailers []) ∷ event.Give (Head [])
    ∷ event.Send ∷ event.Send ∷ []

pub run-out_of_place : run out_of_place
    ≡ record {
      fed = [];
      shut = None;
      taken = [];
      told = None;
      given = Trailers [] ∷ [];
      sent = Trailers [] ∷ [];
    }
unfolding after announced front_of_message front_of_length front_of
run-out_of_place = refl

-- nothing is given once the call was left
abbrev pub left : List CallEvent
left = event.Give (Head []) ∷ event.Give Left ∷ event.Give (Trailers []) ∷ event.Send ∷ []

pub run-left : run left
    ≡ record {
      fed = [];
      shut = None;
      taken = [];
      told = None;
      given = Head [] ∷ Left ∷ [];
      sent = Head [] ∷ [];
    }
unfolding after announced front_of_message front_of_length front_of
run-left = refl

-- trailers alone are an answer
pub trailers_alone : IsResponse (Trailers [] ∷ [])
trailers_alone = refl
