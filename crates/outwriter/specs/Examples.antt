-- Worked examples of the definitions, computed.
use Rattle.std.proofs.Common.{inl}
use Rattle.std.specs.Prelude.{◌≡◌, false, true, refl, List, [], ◌∷◌, ◌++◌, Some, None}
use Rattle.account.specs.declared.call.OutItem.TheVariants.{Head, Message, Trailers}
use Rattle.sendwindows.specs.WindowHistory.{Spending, Closing}
use Rattle.h2frame.specs.declared.error_code.ErrorCode.TheVariants.{Cancel, NoError}
use Rattle.h2frame.specs.declared.kind.FrameKind.TheVariants as kind
use Rattle.h2frame.specs.Spelling.{spelled as spelling}
use Rattle.hpack_codec.specs.Codec.{first_encoding}
use Rattle.hpack_codec.specs.Table.{empty_table}
use Rattle.lists.specs.declared.field.Field.{Field}
use Rattle.reasons.specs.declared.Reason.TheVariants.{Code}
use Rattle.outwriter.specs.declared.control.WriterOrder.TheVariants.{Settings, Ping, Goaway}
use Rattle.outwriter.specs.declared.control.WriterOrder.TheVariants as order
use Rattle.h2frame.specs.declared.settings.PeerSetting.TheVariants.{TableSize, WindowSize}
use Rattle.outwriter.specs.Calls.{is_called_off}
use Rattle.outwriter.specs.Credit.{granted, updated}
use Rattle.outwriter.specs.Frames.{
  frame_with,
  first_settings,
  settings_ack,
  ping_ack,
  reset_frame,
  goaway_frame,
  update_frame,
  data_frame,
  headers_frame,
  continuation_frame,
  is_last,
}
use Rattle.outwriter.specs.Histories.{
  window_sizes,
  table_sizes,
  spending_of,
  closing_of,
  is_over,
  opens,
}
use Rattle.outwriter.specs.Parts.{
  Byte,
  Fields,
  End,
  Reset,
  spelled,
  plain_marks,
  completed,
  marks_on,
  on_stream,
}
use Rattle.outwriter.specs.Runs.{IsAsked, due, told, told_by, unfinished, owed}
use Rattle.outwriter.specs.Steps.{Step, Taken, Granted, Written}
use Rattle.outwriter.specs.TableLimits.{least_begun, least_table, limited_by}

-- SETTINGS of 12 bytes: 3 is 64, and 6 is 16,384
pub first_bytes : spelling first_settings
    ≡ 0 ∷ 0 ∷ 12 ∷ 4 ∷ 0 ∷ 0 ∷ 0 ∷ 0 ∷ 0 ∷ 0 ∷ 3 ∷ 0 ∷ 0 ∷ 0 ∷ 64 ∷ 0 ∷ 6 ∷ 0 ∷ 0 ∷ 64 ∷ 0 ∷ []
first_bytes = refl

pub ack_bytes : spelling settings_ack ≡ 0 ∷ 0 ∷ 0 ∷ 4 ∷ 1 ∷ 0 ∷ 0 ∷ 0 ∷ 0 ∷ []
ack_bytes = refl

-- a reset of stream 3 with the error 8
pub reset_bytes : spelling (reset_frame 3 Cancel)
    ≡ 0 ∷ 0 ∷ 4 ∷ 3 ∷ 0 ∷ 0 ∷ 0 ∷ 0 ∷ 3 ∷ 0 ∷ 0 ∷ 0 ∷ 8 ∷ []
reset_bytes = refl

-- SETTINGS and a PING are taken, and the first of them is acknowledged
abbrev pub acknowledging : List Step
acknowledging =
    Written settings_ack ∷ Taken (Ping (1 ∷ 2 ∷ 3 ∷ 4 ∷ 5 ∷ 6 ∷ 7 ∷ 8 ∷ []))
    ∷ Taken (Settings (TableSize 9 ∷ WindowSize 5 ∷ [])) ∷ Written first_settings ∷ []

pub both_are_due : due acknowledging
    ≡ settings_ack ∷ ping_ack (1 ∷ 2 ∷ 3 ∷ 4 ∷ 5 ∷ 6 ∷ 7 ∷ 8 ∷ []) ∷ []
both_are_due = refl

pub one_is_told : told acknowledging ≡ settings_ack ∷ []
one_is_told = refl

-- a GOAWAY is due by its control, and a reset is asked for by one that is to be written
abbrev pub leaving : List Step
leaving =
    Written (goaway_frame 7 (Code Cancel)) ∷ Taken (order.Reset 3 Cancel true)
    ∷ Taken (Goaway 7 (Code Cancel)) ∷ Written first_settings ∷ []

pub goaway_is_told : told leaving ≡ due leaving
goaway_is_told = refl

pub reset_is_asked : IsAsked 3 Cancel leaving
reset_is_asked = inl ((refl, refl), refl)

-- No control asks for the first SETTINGS. Further ones, an ACK with a payload and a PUSH_PROMISE
-- would have to be due, and no control makes them so; nor a PING without ACK, but for a Probe of
-- its bytes.
pub first_unasked : told_by false first_settings ≡ []
first_unasked = refl

pub settings_again : told_by true first_settings ≡ first_settings ∷ []
settings_again = refl

pub long_ack : told_by true (frame_with kind.Settings 1 0 (0 ∷ []))
    ≡ frame_with kind.Settings 1 0 (0 ∷ []) ∷ []
long_ack = refl

pub ping_without_ack : told_by true (frame_with kind.Ping 0 0 (1 ∷ []))
    ≡ frame_with kind.Ping 0 0 (1 ∷ []) ∷ []
ping_without_ack = refl

pub promise : told_by true (frame_with kind.PushPromise 4 1 [])
    ≡ frame_with kind.PushPromise 4 1 [] ∷ []
promise = refl

-- a Refuse calls a stream off, unless the stream was opened before
pub refused_first : is_called_off 5 (Taken (order.Open 5 tt) ∷ Taken (order.Refuse 5 []) ∷ [])
    ≡ true
refused_first = refl

pub opened_first : is_called_off 5 (Taken (order.Refuse 5 []) ∷ Taken (order.Open 5 tt) ∷ [])
    ≡ false
opened_first = refl

pub sizes_of_windows : window_sizes (TableSize 9 ∷ WindowSize 5 ∷ WindowSize 7 ∷ []) ≡ 5 ∷ 7 ∷ []
sizes_of_windows = refl

-- the least of the limits that SETTINGS set for the header table counts
pub limits_of_tables : table_sizes (TableSize 9 ∷ WindowSize 5 ∷ TableSize 7 ∷ TableSize 8 ∷ [])
    ≡ 9 ∷ 7 ∷ 8 ∷ []
limits_of_tables = refl

pub least_counts : limited_by (Some first_encoding) (9 ∷ 7 ∷ 8 ∷ [])
    ≡ Some (record { table = empty_table; least = 7 })
least_counts = refl

-- DATA is spent, and END_STREAM on a header block closes the stream's window
pub data_is_spent : spending_of (data_frame 1 (7 ∷ 7 ∷ 7 ∷ [])) ≡ Spending 1 3 ∷ []
data_is_spent = refl

pub trailers_close : closing_of (headers_frame 1 true true (130 ∷ [])) ≡ Closing 1 ∷ []
trailers_close = refl

pub head_leaves_open : closing_of (headers_frame 1 false true (130 ∷ [])) ≡ []
head_leaves_open = refl

-- an Open of a stream that was reset before opens no window
pub new_stream_opens : opens (Written first_settings ∷ []) [] 3 ≡ true
new_stream_opens = refl

pub reset_stream_opens_none :
    opens (Taken (order.Reset 3 Cancel false) ∷ Written first_settings ∷ []) (Closing 3 ∷ []) 3
    ≡ false
reset_stream_opens_none = refl

-- a header block in two fragments is unfinished after the first, and whole with the second
abbrev pub half_a_block : List Step
half_a_block = Written (headers_frame 5 true false (1 ∷ 2 ∷ [])) ∷ Written first_settings ∷ []

pub begun : unfinished half_a_block
    ≡ Some (record { stream = 5; bytes = 1 ∷ 2 ∷ []; ends_it = true })
begun = refl

pub whole : completed half_a_block (continuation_frame 5 true (3 ∷ []))
    ≡ Some (record { stream = 5; bytes = 1 ∷ 2 ∷ 3 ∷ []; ends_it = true })
whole = refl

pub none_left : unfinished (Written (continuation_frame 5 true (3 ∷ [])) ∷ half_a_block) ≡ None
none_left = refl

-- SETTINGS that come between the frames of a block set the limit of the next block's table, and not
-- of its own
pub least_by_now :
    least_table (Taken (Settings (TableSize 9 ∷ TableSize 7 ∷ TableSize 8 ∷ [])) ∷ half_a_block)
    ≡ 7
least_by_now = refl

pub least_of_the_block :
    least_begun (Taken (Settings (TableSize 9 ∷ TableSize 7 ∷ TableSize 8 ∷ [])) ∷ half_a_block)
    ≡ 4096
least_of_the_block = refl

-- its stream is over as soon as END_STREAM is written
pub over : is_over 5 half_a_block ≡ true
over = refl

-- ten bytes were granted on stream 1, which is open, and four of them were written as credit
abbrev pub crediting : List Step
crediting =
    Written (update_frame 1 4) ∷ Granted 1 6 ∷ Granted 0 9 ∷ Granted 1 4 ∷ Taken (order.Open 1 tt)
    ∷ Written first_settings ∷ []

pub ten_granted : granted 1 crediting ≡ 10
ten_granted = refl

pub four_updated : updated 1 crediting ≡ 4
four_updated = refl

-- a stream's grants aren't the connection's, nor the other way round
pub nine_granted : granted 0 crediting ≡ 9
nine_granted = refl

pub none_updated : updated 0 crediting ≡ 0
none_updated = refl

-- so six are owed on the stream, and on the connection all that was granted
pub six_owed : owed 1 crediting ≡ 6
six_owed = refl

pub nine_owed : owed 0 crediting ≡ 9
nine_owed = refl

-- nothing is owed on a stream that wasn't opened, or was reset
pub none_owed_unopened : owed 3 (Granted 3 4 ∷ crediting) ≡ 0
none_owed_unopened = refl

pub none_owed_reset : owed 1 (Granted 1 5 ∷ Taken (order.Reset 1 Cancel false) ∷ crediting) ≡ 0
none_owed_reset = refl

-- at most 2^31 - 1 are owed at once
pub most_owed : owed 0 (Granted 0 2147483647 ∷ crediting) ≡ 2147483647
most_owed = refl

-- a GOAWAY without an error isn't the last frame
pub last_with_an_error : is_last (goaway_frame 7 (Code Cancel)) ≡ true
last_with_an_error = refl

pub not_last : is_last (goaway_frame 7 (Code NoError)) ≡ false
not_last = refl

-- a message in two DATA frames has the bytes that the item spells
abbrev pub a_field : Field
a_field = record { name = 1 ∷ []; value = 2 ∷ [] }

pub items_spell : spelled (Head (a_field ∷ []) ∷ Message (8 ∷ 9 ∷ []) ∷ Trailers [] ∷ [])
    ≡ Fields (a_field ∷ []) ∷ Byte 8 ∷ Byte 9 ∷ Fields [] ∷ End ∷ []
items_spell = refl

pub data_tells : plain_marks (data_frame 1 (8 ∷ [])) ++ plain_marks (data_frame 1 (9 ∷ []))
    ≡ spelled (Message (8 ∷ 9 ∷ []) ∷ [])
data_tells = refl

pub reset_tells : plain_marks (reset_frame 1 Cancel) ≡ Reset 8 ∷ []
reset_tells = refl

pub credit_tells_nothing : plain_marks (update_frame 1 4) ≡ []
credit_tells_nothing = refl

pub one_stream_of_two :
    marks_on 3 (on_stream 1 (Byte 8 ∷ [])
    ++ (on_stream 3 (Byte 9 ∷ End ∷ []) ++ on_stream 1 (End ∷ [])))
    ≡ Byte 9 ∷ End ∷ []
one_stream_of_two = refl
