-- What a poll of a call's lane finds, and what is written for it.
use Rattle.std.specs.Prelude.{◌≡◌, ◌⊎◌, Bool, true, false, List, [], ◌∷◌, ◌++◌, Option, Some, None}
use Rattle.account.specs.declared.call.OutItem.{OutItem}
use Rattle.account.specs.declared.call.OutItem.TheVariants.{Head, Message, Trailers, Left}
use Rattle.lane.specs.Lawful.{last_of}
use Rattle.lists.specs.declared.field.Field.{Field}
use Rattle.hpack_codec.specs.Codec.{Encoding, Writes}
use Rattle.outwriter.specs.declared.stream.SenderItem.{SenderItem}
use Rattle.outwriter.specs.declared.stream.SenderItem.TheVariants as polled

-- the item of which a header block is written: trailers end their stream
abbrev pub block_item : Bool → List Field → OutItem
block_item true fields = Trailers fields
block_item false fields = Head fields

-- what is still to be written of what is ahead of a sender: nothing, if its last item says that its
-- call was left
abbrev pub to_write : Option OutItem → List OutItem → List OutItem
to_write (Some Left) ahead = []
to_write (Some (Head fields)) ahead = ahead
to_write (Some (Message bytes)) ahead = ahead
to_write (Some (Trailers fields)) ahead = ahead
to_write None ahead = ahead

abbrev pub coming : {Out : Type 0} → (Out → List OutItem) → (Out → List OutItem)
    → Out → List OutItem
coming got ahead rx = to_write (last_of (got rx)) (ahead rx)

-- nothing was got, or only that the call was left
abbrev pub GotNone : {A : Type 0} → A → A → A → Type 0
GotNone before left after = (after ≡ before) ⊎ (after ≡ left)

-- A lane had given the items of `before`, and then those of `after`. A poll found nothing, or that
-- the call was left, and nothing is to be written; or one more item: a message, or fields, whose
-- block an encoder that kept `from` wrote, and now keeps `to`.
abbrev pub Polls : List OutItem → List OutItem → List OutItem → Option Encoding
    → Option Encoding → SenderItem → Type 0
Polls before after coming from to polled.Nothing =
    GotNone before (before ++ Left ∷ []) after × (coming ≡ []) × (to ≡ from)
Polls before after coming from to (polled.Message bytes) =
    (after ≡ before ++ Message bytes ∷ []) × (to ≡ from)
Polls before after coming from to (polled.Block bytes ends) =
    (fields : List Field) × (after ≡ before ++ block_item ends fields ∷ [])
    × Writes from fields bytes to
