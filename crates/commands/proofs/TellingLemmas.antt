-- What the bytes of a call read as, of which all messages were told.
use Rattle.std.proofs.Common.{
  ◌≡◌,
  ◌∙◌,
  ℕ,
  ◌+◌,
  ◌<◌,
  List,
  [],
  ◌∷◌,
  ◌++◌,
  length,
  Option,
  Some,
  None,
  sym,
  ap,
  append_assoc,
  arith,
}
use Rattle.std.specs.Prelude.{MatchOption}
use Rattle.std.proofs.lemmas.List.{append-nil, length-append}
use Rattle.std.specs.Option.{option_or}
use Rattle.lpm.specs.Messages.{frame, Spells, IsFaultyAfter, IsCut, IsNotCut}
use Rattle.lpm.specs.Reading.{messages_of, rest_of}
use Rattle.lpm.specs.declared.fault.LpmFault.{LpmFault}
use Rattle.lpm.specs.declared.fault.LpmFault.TheVariants.{CutAtEnd}
use Rattle.lpm.proofs.Readings.{Spells-read, IsFaultyAfter-read}
use Rattle.account.proofs.SerialLemmas.{nothing_left, some_left}
use Rattle.commands.specs.Body.{fault_at_end, fault_of_rest, report_of}
use Rattle.commands.specs.Report.{ending_line, message_line, message_lines}
use Rattle.commands.specs.Telling.{HasToldAll}
use Rattle.commands.specs.declared.body.MessagePrinter.{MessagePrinter}

-- the messages that were told are those of the bytes
pub read_messages : (bytes : List ℕ) (messages : List (List ℕ))
    (fault : Option LpmFault) (rest : List ℕ)
    → MatchOption fault (Spells bytes messages rest) (IsFaultyAfter bytes messages)
    → messages_of bytes ≡ messages
read_messages bytes messages None rest spells = (Spells-read bytes messages rest spells).0
read_messages bytes messages (Some fault) rest faulty =
    (IsFaultyAfter-read bytes messages fault faulty).0

-- a fault that stands in the bytes is the fault at their end
pub faulty_end : (bytes : List ℕ) (messages : List (List ℕ)) (fault : LpmFault)
    → IsFaultyAfter bytes messages fault → Some fault ≡ fault_at_end bytes
faulty_end bytes messages fault faulty =
    ap (λ (o : Option LpmFault). option_or o (fault_of_rest (rest_of bytes)))
    (sym (IsFaultyAfter-read bytes messages fault faulty).1)

behind_messages : (bytes : List ℕ) (messages : List (List ℕ)) (rest : List ℕ)
    → Spells bytes messages rest → fault_of_rest rest ≡ fault_at_end bytes
behind_messages bytes messages rest spells =
    let read = Spells-read bytes messages rest spells in
    ap fault_of_rest (sym read.1)
    ∙ ap (λ (o : Option LpmFault). option_or o (fault_of_rest (rest_of bytes))) (sym read.2)

-- bytes that end with a message have none
pub whole_end : (bytes : List ℕ) (messages : List (List ℕ)) (rest : List ℕ)
    → Spells bytes messages rest → IsNotCut rest → None ≡ fault_at_end bytes
whole_end bytes messages rest spells ended =
    ap fault_of_rest (sym (nothing_left rest spells.unfinished ended))
    ∙ behind_messages bytes messages rest spells

-- those that end inside one are cut
pub cut_end : (bytes : List ℕ) (messages : List (List ℕ)) (rest : List ℕ)
    → Spells bytes messages rest → IsCut rest → Some CutAtEnd ≡ fault_at_end bytes
cut_end bytes messages rest spells cut =
    let some = some_left rest cut in
    ap fault_of_rest (sym some.2) ∙ behind_messages bytes messages rest spells

-- a line more
pub lines_push : (number : ℕ) (messages : List (List ℕ)) (message : List ℕ)
    → message_lines number (messages ++ message ∷ [])
    ≡ message_lines number messages ++ message_line (number + length messages) message
lines_push number [] message =
    append-nil (message_line number message) ∙ ap (λ (n : ℕ). message_line n message) (omega arith)
lines_push number (first ∷ messages) message =
    ap (λ (text : List ℕ). message_line number first ++ text)
    (lines_push (number + 1) messages message)
    ∙ (sym (append_assoc (message_line number first) (message_lines (number + 1) messages)
    (message_line (number + 1 + length messages) message))
    ∙ ap (λ (n : ℕ). message_lines number (first ∷ messages) ++ message_line n message)
    (omega arith))

-- what is left behind a message is shorter
pub shorter_behind : (old message new : List ℕ) → old ≡ frame message ++ new
    → length new < length old
unfolding frame
shorter_behind old message new front =
    omega (arith, ap length front, length-append (frame message) new)

-- the text, and then the line of one more message, are the text of all
pub text_more : (messages : List (List ℕ)) (message line text written : List ℕ) (count : ℕ)
    → text ≡ message_lines 0 messages → count ≡ length messages → line ≡ message
    → written ≡ text ++ message_line count line
    → written ≡ message_lines 0 (messages ++ message ∷ [])
text_more messages message line text written count lines counted same appended =
    let number : count ≡ 0 + length messages = omega (arith, counted) in
    appended
    ∙ (ap (λ (t : List ℕ). t ++ message_line count line) lines
    ∙ (ap (λ (n : ℕ). message_lines 0 messages ++ message_line n line) number
    ∙ (ap (λ (m : List ℕ). message_lines 0 messages ++ message_line (0 + length messages) m) same
    ∙ sym (lines_push 0 messages message))))

-- the report is whole
pub report_told : (bytes : List ℕ) (telling : MessagePrinter)
    (fault : Option LpmFault) (text : List ℕ)
    → HasToldAll bytes telling → fault ≡ fault_at_end bytes
    → text ≡ telling.text.items ++ ending_line fault → text ≡ report_of bytes
report_told bytes telling fault text told stands written =
    written
    ∙ (ap (λ (f : Option LpmFault). telling.text.items ++ ending_line f) stands
    ∙ ap (λ (lines : List ℕ). lines ++ ending_line (fault_at_end bytes)) (told.1.text
    ∙ ap (message_lines 0)
    (sym (read_messages bytes told.0 telling.fault telling.splitter told.2))))
