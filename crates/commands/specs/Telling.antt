-- How far the messages of a call, of which these bytes came, were printed.
use Rattle.std.specs.Prelude.{◌≡◌, ℕ, List, ◌++◌, length, All, MatchOption}
use Rattle.lpm.specs.Messages.{frames, IsMessage, Spells, IsFaultyAfter}
use Rattle.commands.specs.Report.{message_lines}
use Rattle.commands.specs.declared.body.MessagePrinter.{MessagePrinter}

-- these messages were printed, each by its line, and what is left waits
pub record HasToldThose (messages : List (List ℕ)) (bytes : List ℕ)
    (telling : MessagePrinter) : Type 0 where
  pub each : All IsMessage messages
  pub whole : bytes ≡ frames messages ++ telling.splitter
  pub text : telling.text.items ≡ message_lines 0 messages
  pub count : telling.count ≡ length messages

-- some messages were printed
abbrev pub HasTold : List ℕ → MessagePrinter → Type 0
HasTold bytes telling = (messages : List (List ℕ)) × HasToldThose messages bytes telling

-- all whole messages were printed, and the fault is the one after them
abbrev pub HasToldAll : List ℕ → MessagePrinter → Type 0
HasToldAll bytes telling = (messages : List (List ℕ)) × HasToldThose messages bytes telling
    × MatchOption telling.fault (Spells bytes messages telling.splitter)
    (IsFaultyAfter bytes messages)
