-- What the giving end of a call shows.
use Rattle.std.specs.Prelude.{ℕ, Bool, true, false, List, [], Option, None, Some, length}
use Rattle.lane.specs.declared.lane.Lane.{Ghosts}
use Rattle.account.specs.declared.call.OutItem.{OutItem}
use Rattle.callbox.specs.declared.giver.Giver.{Giver}
use Rattle.callbox.specs.declared.giver.GivenShut.{GivenShut}
use Rattle.callrun.specs.Giving.{IsFull}
use Rattle.callrun.specs.declared.response.Response.{Response}
use Rattle.callrun.specs.declared.response.Response.TheVariants.{Open, Left, Shut, Gone}

-- whether more may be given, what was given, and the status of the trailers among it
pub record ResponseView : Type 0 where
  pub is_live : Bool
  pub given : List OutItem
  pub code : Option ℕ

abbrev pub if_placed : Bool → ℕ → Option ℕ
if_placed true code = Some code
if_placed false code = None

module _ {G S : Type 0} where
  abbrev pub is_gone : Response G S → Bool
  is_gone (Open giver) = false
  is_gone (Left giver) = false
  is_gone (Shut end code) = false
  is_gone Gone = true

  -- more may be given
  abbrev pub is_open : Response G S → Bool
  is_open (Open giver) = true
  is_open (Left giver) = false
  is_open (Shut end code) = false
  is_open Gone = false

  -- nothing more is given, and no trailers were
  abbrev pub is_left : Response G S → Bool
  is_left (Open giver) = false
  is_left (Left giver) = true
  is_left (Shut end code) = false
  is_left Gone = false

  -- the trailers were given, or their place was taken
  abbrev pub is_shut : Response G S → Bool
  is_shut (Open giver) = false
  is_shut (Left giver) = false
  is_shut (Shut end code) = true
  is_shut Gone = false

  -- nothing more is given
  abbrev pub left : Response G S → Response G S
  left (Open giver) = Left giver
  left (Left giver) = Left giver
  left (Shut end code) = Shut end code
  left Gone = Gone

  abbrev pub shown : (G → List OutItem) → (S → List OutItem) → (S → Bool)
      → Response G S → ResponseView
  shown of_open of_shut was_placed (Open giver) =
      record { is_live = true; given = of_open giver; code = None }
  shown of_open of_shut was_placed (Left giver) =
      record { is_live = false; given = of_open giver; code = None }
  shown of_open of_shut was_placed (Shut end code) =
      record { is_live = false; given = of_shut end; code = if_placed (was_placed end) code }
  shown of_open of_shut was_placed Gone = record { is_live = false; given = []; code = None }

  -- what a giving end shows, such as its lane
  abbrev pub name_by : {X : Type 0} → (G → X) → (S → X) → Response G S → Option X
  name_by of_open of_shut (Open giver) = Some (of_open giver)
  name_by of_open of_shut (Left giver) = Some (of_open giver)
  name_by of_open of_shut (Shut end code) = Some (of_shut end)
  name_by of_open of_shut Gone = None

  -- more may be given, by an end with this property
  abbrev pub IsOpenTo : (G → Type 0) → Response G S → Type 0
  IsOpenTo P (Open giver) = P giver
  IsOpenTo P (Left giver) = ⊥
  IsOpenTo P (Shut end code) = ⊥
  IsOpenTo P Gone = ⊥

module _ {L In Out Shut : Type 0} {lane : Ghosts L OutItem In Out Shut} where
  -- what was given over the lane, and the status of the trailers, if they had their place
  abbrev pub given_over : Response (Giver L In Out Shut lane) (GivenShut L In Out Shut lane)
      → ResponseView
  given_over response =
      shown (λ g. lane.put_in g.tx) (λ s. lane.put_shut s.shut)
      (λ s. lane.was_placed s.shut) response

  -- the lane of a giving end
  abbrev pub lane_of : Response (Giver L In Out Shut lane) (GivenShut L In Out Shut lane)
      → Option lane.Name
  lane_of response = name_by (λ g. lane.in_name g.tx) (λ s. lane.shut_name s.shut) response

  -- more may be given, but the lane has no room
  abbrev pub HasNoRoom : Response (Giver L In Out Shut lane) (GivenShut L In Out Shut lane) → Type 0
  HasNoRoom response =
      IsOpenTo (λ g.
      IsFull (lane.room_of (lane.in_name g.tx)) (length (lane.put_in g.tx))
      (lane.seen_taken g.tx)) response
