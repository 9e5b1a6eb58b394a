-- How the bytes of one side of a connection are cut (RFC 9113, sections 3.4 and 4.1): a client's
-- preface, and then frames, whatever faults these have.
use Rattle.std.specs.Prelude.{◌≡◌, ℕ, List, [], ◌∷◌, ◌++◌, length, Option, Some, None}
use Rattle.h2frame.specs.FrameList.{BeginsWith}
use Rattle.trace.specs.declared.item.Item.{Item}
use Rattle.trace.specs.declared.item.Item.TheVariants.{Preface, Frame, Rest}
use Rattle.trace.specs.declared.item.SideStage.{SideStage}
use Rattle.trace.specs.declared.item.SideStage.TheVariants.{BeforePreface, InFrames}

-- `PRI * HTTP/2.0`, an empty line, `SM`, an empty line: the hexadecimal digits of the standard
abbrev pub preface : List ℕ
preface =
    0x50 ∷ 0x52 ∷ 0x49 ∷ 0x20 ∷ 0x2a ∷ 0x20 ∷ 0x48 ∷ 0x54 ∷ 0x54 ∷ 0x50 ∷ 0x2f ∷ 0x32 ∷ 0x2e ∷ 0x30
    ∷ 0x0d ∷ 0x0a ∷ 0x0d ∷ 0x0a ∷ 0x53 ∷ 0x4d ∷ 0x0d ∷ 0x0a ∷ 0x0d ∷ 0x0a ∷ []

-- At this stage the text is the item: the preface, or a head and as many bytes as it says.
abbrev pub Spells : SideStage → List ℕ → Item → Type 0
Spells BeforePreface text Preface = text ≡ preface
Spells BeforePreface text (Frame head payload) = ⊥
Spells BeforePreface text (Rest bytes) = ⊥
Spells InFrames text Preface = ⊥
Spells InFrames text (Frame head payload) =
    BeginsWith text head payload × (length payload ≡ head.length)
Spells InFrames text (Rest bytes) = ⊥

-- From one stage on the bytes are the joined texts of the items, and then the rest, which is to be
-- cut from the next stage on.
abbrev pub Cut : SideStage → List ℕ → List Item → SideStage → List ℕ → Type 0
Cut stage bytes [] next rest = (next ≡ stage) × (rest ≡ bytes)
Cut stage bytes (item ∷ items) next rest =
    (text more : List ℕ) × (bytes ≡ text ++ more) × Spells stage text item
    × Cut InFrames more items next rest

-- The bytes begin with the item, and the rest is after it.
abbrev pub Takes : SideStage → List ℕ → Item → List ℕ → Type 0
Takes stage bytes item rest = (text : List ℕ) × (bytes ≡ text ++ rest) × Spells stage text item

-- The bytes begin with no whole item.
abbrev pub IsUnfinished : SideStage → List ℕ → Type 0
IsUnfinished stage bytes =
    (text more : List ℕ) (item : Item) → bytes ≡ text ++ more → Spells stage text item → ⊥

-- what is kept of one side: what comes next, and the bytes that are no whole item
pub record PendingBytes : Type 0 where
  pub stage : SideStage
  pub bytes : List ℕ

-- what is shown of bytes that aren't a whole item, if there are any
abbrev pub leftover : List ℕ → List Item
leftover [] = []
leftover (byte ∷ bytes) = Rest (byte ∷ bytes) ∷ []

abbrev pub rest_of : PendingBytes → List Item
rest_of pending = leftover pending.bytes

abbrev pub item_list : Option Item → List Item
item_list None = []
item_list (Some item) = item ∷ []
