-- The items of a whole response: gRPC over HTTP/2, "Responses".
use Rattle.std.specs.Prelude.{
  ◌==◌,
  ◌&&◌,
  not,
  Bool,
  true,
  false,
  if◌then◌else◌,
  List,
  [],
  ◌∷◌,
  ◌++◌,
  map,
}
use Rattle.lists.specs.declared.field.Field.{Field}
use Rattle.lpm.specs.Messages.{frame}
use Rattle.account.specs.declared.call.OutItem.{OutItem}
use Rattle.account.specs.declared.call.OutItem.TheVariants.{Head, Message, Trailers}
use Rattle.callhead.specs.declared.head.CallHead.{CallHead}
use Rattle.callhead.specs.StatusFields.{response_fields, status_fields}
use Rattle.grpc_status.specs.StatusCode.{status_number}
use Rattle.handlers.specs.declared.reply.Reply.{Reply}
use Rattle.handlers.specs.declared.status.Status.{Status}
use Rattle.handlers.specs.Replies.{reply_bytes}

-- Response-Headers, with what the call's head wants echoed
abbrev pub head_item : CallHead → OutItem
head_item head = Head (response_fields head.echo_initial)

-- a reply with its prefix
abbrev pub reply_item : Reply → OutItem
reply_item reply = Message (frame (reply_bytes reply))

abbrev pub trailing_fields : CallHead → Status → List Field
trailing_fields head status =
    status_fields (status_number status.code) status.text head.echo_trailing

-- Response-Headers, the replies, and Trailers
abbrev pub full_response : CallHead → List Reply → Status → List OutItem
full_response head replies status =
    head_item head ∷ (map reply_item replies ++ Trailers (trailing_fields head status) ∷ [])

-- Trailers-Only: one block
abbrev pub short_response : CallHead → Status → List OutItem
short_response head status = Trailers (response_fields [] ++ trailing_fields head status) ∷ []

abbrev pub is_none : {A : Type 0} → List A → Bool
is_none [] = true
is_none (x ∷ xs) = false

-- One block answers a call that didn't go well and has no reply, unless the call's head wants
-- something echoed first.
abbrev pub is_short : CallHead → List Reply → Status → Bool
is_short head replies status =
    is_none replies && (is_none head.echo_initial && not (status_number status.code == 0))

abbrev pub response : CallHead → List Reply → Status → List OutItem
response head replies status =
    if is_short head replies status then short_response head status
    else full_response head replies status
