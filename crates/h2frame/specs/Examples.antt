-- Worked examples of the definitions, computed.
use Rattle.std.specs.Prelude.{◌≡◌, [], ◌∷◌, refl, Some, None}
use Rattle.h2frame.specs.declared.fault.FrameFault.TheVariants.{
  TooLong,
  BadLength,
  WrongStream,
  ZeroIncrement,
}
use Rattle.h2frame.specs.declared.kind.FrameKind.TheVariants.{
  Data,
  Headers,
  Settings,
  WindowUpdate,
  Ping,
}
use Rattle.h2frame.specs.Faults.{head_fault, frame_fault}
use Rattle.h2frame.specs.Spelling.{head_text, spelling}

-- PING with ACK on the connection
pub ping_head :
    head_text 0 (record { kind = Ping; flags = record { bits = 1 }; stream = 0; length = 8 })
    ≡ 0 ∷ 0 ∷ 8 ∷ 6 ∷ 1 ∷ 0 ∷ 0 ∷ 0 ∷ 0 ∷ []
ping_head = refl

-- the reserved bit comes before the stream's first bit
pub reserved_head :
    head_text 1 (record { kind = Data; flags = record { bits = 0 }; stream = 5; length = 16384 })
    ≡ 0 ∷ 64 ∷ 0 ∷ 0 ∷ 0 ∷ 128 ∷ 0 ∷ 0 ∷ 5 ∷ []
reserved_head = refl

-- HEADERS with a content of one byte, after the padding's length and the priority, and before the
-- padding
pub padded_headers :
    spelling (record {
      head = record { kind = Headers; flags = record { bits = 0x2c }; stream = 1; length = 9 };
      content = 0x82 ∷ [];
    })
    (record { reserved = 0; priority = 0 ∷ 0 ∷ 0 ∷ 3 ∷ 16 ∷ []; padding = 0 ∷ 0 ∷ [] })
    ≡ 0 ∷ 0 ∷ 9 ∷ 1 ∷ 0x2c ∷ 0 ∷ 0 ∷ 0 ∷ 1 ∷ 2 ∷ 0 ∷ 0 ∷ 0 ∷ 3 ∷ 16 ∷ 0x82 ∷ 0 ∷ 0 ∷ []
padded_headers = refl

pub too_long :
    head_fault (record {
      kind = Data;
      flags = record { bits = 0 };
      stream = 0;
      length = 16385;
    }) ≡ Some TooLong
too_long = refl

-- the stream is judged before the length
pub wrong_stream :
    head_fault (record { kind = Ping; flags = record { bits = 0 }; stream = 1; length = 7 })
    ≡ Some WrongStream
wrong_stream = refl

pub bad_length :
    head_fault (record {
      kind = Settings;
      flags = record { bits = 1 };
      stream = 0;
      length = 6;
    }) ≡ Some BadLength
bad_length = refl

-- the top bit of an increment is ignored
pub zero_increment :
    frame_fault (record {
      head = record { kind = WindowUpdate; flags = record { bits = 0 }; stream = 3; length = 4 };
      content = 128 ∷ 0 ∷ 0 ∷ 0 ∷ [];
    }) ≡ Some (ZeroIncrement 3)
zero_increment = refl

pub one_increment :
    frame_fault (record {
      head = record { kind = WindowUpdate; flags = record { bits = 0 }; stream = 3; length = 4 };
      content = 0 ∷ 0 ∷ 0 ∷ 1 ∷ [];
    }) ≡ None
one_increment = refl
