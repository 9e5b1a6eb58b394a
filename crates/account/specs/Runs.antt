-- The account that a list of events makes.
use Rattle.std.specs.Prelude.{
  ℕ,
  ◌-◌,
  Bool,
  true,
  false,
  List,
  [],
  ◌∷◌,
  ◌++◌,
  length,
  Option,
  Some,
  None,
  slice_get,
  fold,
  if◌then◌else◌,
  is_none,
}
use Rattle.lpm.specs.declared.fault.LpmFault.{LpmFault}
use Rattle.lpm.specs.declared.fault.LpmFault.TheVariants.{CutAtEnd}
use Rattle.lpm.specs.Reading.{is_frame, messages_of, rest_of, fault_of}
use Rattle.account.specs.declared.call.Account.{Account}
use Rattle.account.specs.declared.call.CallEvent.{CallEvent}
use Rattle.account.specs.declared.call.CallEvent.TheVariants as event
use Rattle.account.specs.declared.call.OutItem.{OutItem}
use Rattle.account.specs.declared.call.OutItem.TheVariants.{Head, Message, Trailers, Left}
use Rattle.account.specs.declared.call.Shut.{Shut}
use Rattle.account.specs.declared.call.Shut.TheVariants as shut
use Rattle.account.specs.declared.call.RequestEnd.{RequestEnd}
use Rattle.account.specs.declared.call.RequestEnd.TheVariants as told

-- a call that was opened, and to which nothing happened yet
abbrev pub opened : Account
opened = record { fed = []; shut = None; taken = []; told = None; given = []; sent = [] }

-- what there is to be told after the last message: the fault of the bytes, or how the half was shut
abbrev pub telling : Option LpmFault → List ℕ → Option Shut → Option RequestEnd
telling (Some fault) rest closed = Some (told.Fault fault)
telling None rest None = None
telling None rest (Some (shut.Reset code)) = Some (told.Reset code)
telling None [] (Some shut.End) = Some told.End
telling None (byte ∷ rest) (Some shut.End) = Some (told.Fault CutAtEnd)

-- the next message that the fed bytes spell, if there is one, and else what there is to be told
abbrev pub after_next : Account → Option (List ℕ) → Account
after_next a (Some message) = record a { taken = a.taken ++ message ∷ [] }
after_next a None = record a { told = telling (fault_of a.fed) (rest_of a.fed) a.shut }

abbrev pub after_take : Account → Option RequestEnd → Account
after_take a (Some told) = a
after_take a None = after_next a (slice_get (messages_of a.fed) (length a.taken))

-- whether an item may be given after the last one
abbrev pub may_follow : Option OutItem → OutItem → Bool
may_follow None (Head fields) = true
may_follow None (Message bytes) = false
may_follow None (Trailers fields) = true
may_follow None Left = true
may_follow (Some (Trailers last)) item = false
may_follow (Some Left) item = false
may_follow (Some (Head last)) (Head fields) = false
may_follow (Some (Head last)) (Message bytes) = is_frame bytes
may_follow (Some (Head last)) (Trailers fields) = true
may_follow (Some (Head last)) Left = true
may_follow (Some (Message last)) (Head fields) = false
may_follow (Some (Message last)) (Message bytes) = is_frame bytes
may_follow (Some (Message last)) (Trailers fields) = true
may_follow (Some (Message last)) Left = true

abbrev pub last_of : List OutItem → Option OutItem
last_of items = slice_get items (length items - 1)

abbrev pub after_send : Account → Option OutItem → Account
after_send a (Some item) = record a { sent = a.sent ++ item ∷ [] }
after_send a None = a

-- one event
unfoldable pub after : Account → CallEvent → Account
after a (event.Feed bytes) = if is_none a.shut then record a { fed = a.fed ++ bytes } else a
after a (event.Shut closed) = if is_none a.shut then record a { shut = Some closed } else a
after a event.Take = after_take a a.told
after a (event.Give item) =
    if may_follow (last_of a.given) item then record a { given = a.given ++ item ∷ [] } else a
after a event.Send = after_send a (slice_get a.given (length a.sent))

-- events, one after another
abbrev pub run : List CallEvent → Account
run events = fold after opened events
