-- What a frame more, and a write, do to the bytes of frames.
use Rattle.std.proofs.Common.{
  ◌≡◌,
  ◌≢◌,
  ◌≤◌,
  ◌∙◌,
  ℕ,
  Bool,
  true,
  false,
  length,
  None,
  Some,
  nat_lt,
  arith,
  List,
  [],
  ◌∷◌,
  ◌++◌,
  Option,
  ap,
  append_assoc,
  sym,
  refl,
  flat_map,
  map,
  filter,
  reverse,
  subst,
}
use Rattle.std.proofs.lemmas.List.{append-nil, reverse-append, map-append}
use Rattle.std.proofs.lemmas.List.Elements.{filter-append}
use Rattle.std.proofs.lemmas.Grind.{flat_map-append}
use Rattle.std.specs.Io.KnownBytes.{Appends}
use Rattle.device.proofs.BytesLemmas.{Appends-twice}
use Rattle.device.specs.Bytes.{AppendsPrefix}
use Rattle.h2frame.specs.declared.frame.Frame.{Frame}
use Rattle.h2frame.specs.Faults.{frame_fault, may_be_on, may_have_length, lacks_increment}
use Rattle.h2frame.specs.declared.fault.FrameFault.{FrameFault}
use Rattle.h2frame.specs.declared.fault.FrameFault.TheVariants.{
  TooLong,
  BadLength,
  WrongStream,
  ZeroIncrement,
}
use Rattle.h2frame.specs.Spelling.{spelled}
use Rattle.std.proofs.lemmas.Bool.{ltb-false}
use Rattle.std.specs.Option.{option_or}
use Rattle.std.specs.Prelude.{if◌then◌else◌}
use Rattle.outwriter.specs.Frames.{ends_stream}
use Rattle.writerloop.specs.declared.standing.Standing.{Standing}
use Rattle.writerloop.specs.declared.standing.Standing.TheVariants.{Going, OutOfMemory, Broken}
use Rattle.writerloop.specs.Spelled.{spelled_all, ended_by, IsParted, IsFront, IsAll, Holds}

-- the earlier frames are spelled first
pub spelled-append : (later earlier : List Frame)
    → spelled_all (later ++ earlier) ≡ spelled_all earlier ++ spelled_all later
spelled-append later earlier =
    ap (λ (frames : List Frame). flat_map spelled frames) (reverse-append later earlier)
    ∙ flat_map-append spelled (reverse earlier) (reverse later)

pub spelled-more : (frame : Frame) (frames : List Frame)
    → spelled_all (frame ∷ frames) ≡ spelled_all frames ++ spelled frame
spelled-more frame frames =
    spelled-append (frame ∷ []) frames
    ∙ ap (λ (bytes : List ℕ). spelled_all frames ++ bytes) (append-nil (spelled frame))

pub ended-more : (frame : Frame) (frames : List Frame)
    → ended_by (frame ∷ frames) ≡ ended_by frames ++ ended_by (frame ∷ [])
ended-more frame frames =
    ap (λ (all : List Frame). map (λ found. found.head.stream) (filter ends_stream all))
    (reverse-append (frame ∷ []) frames)
    ∙ (ap (λ (all : List Frame). map (λ found. found.head.stream) all)
    (filter-append ends_stream (reverse frames) (frame ∷ []))
    ∙ map-append (λ (found : Frame). found.head.stream) (filter ends_stream (reverse frames))
    (filter ends_stream (frame ∷ [])))

-- a frame comes behind those in the buffer
pub parted-more : (frame : Frame) (frames : List Frame) (before now : Option (List ℕ))
    (buffer ended : List ℕ)
    → IsParted frames before now buffer ended
    → IsParted (frame ∷ frames) before now (buffer ++ spelled frame)
    (ended ++ ended_by (frame ∷ []))
parted-more frame frames before now buffer ended p = record {
  waiting = frame ∷ p.waiting;
  written = p.written;
  all = ap (λ (rest : List Frame). frame ∷ rest) p.all;
  device = p.device;
  buffered =
      ap (λ (bytes : List ℕ). bytes ++ spelled frame) p.buffered
      ∙ sym (spelled-more frame p.waiting);
  ends =
      ap (λ (ids : List ℕ). ids ++ ended_by (frame ∷ [])) p.ends ∙ sym (ended-more frame p.waiting);
}

-- what was written and what is in the buffer is all that the frames spell
pub parted-spelled : (frames : List Frame) (before now : Option (List ℕ)) (buffer ended : List ℕ)
    (p : IsParted frames before now buffer ended)
    → spelled_all frames ≡ spelled_all p.written ++ buffer
parted-spelled frames before now buffer ended p =
    ap (λ (all : List Frame). spelled_all all) p.all
    ∙ (spelled-append p.waiting p.written
    ∙ ap (λ (bytes : List ℕ). spelled_all p.written ++ bytes) (sym p.buffered))

-- the buffer is written
pub parted-flushed : (frames : List Frame) (before old new : Option (List ℕ))
    (buffer ended : List ℕ)
    → IsParted frames before old buffer ended → Appends old new buffer
    → IsParted frames before new [] []
parted-flushed frames before old new buffer ended p appends = record {
  waiting = [];
  written = frames;
  all = refl;
  device =
      subst (λ (bytes : List ℕ). Appends before new bytes)
      (sym (parted-spelled frames before old buffer ended p))
      (Appends-twice before old new (spelled_all p.written) buffer p.device appends);
  buffered = refl;
  ends = refl;
}

pub parted-front : (frames : List Frame) (before now : Option (List ℕ)) (buffer ended : List ℕ)
    → IsParted frames before now buffer ended → IsFront frames before now
parted-front frames before now buffer ended p =
    (spelled_all p.written, (buffer, parted-spelled frames before now buffer ended p), p.device)

-- some of the buffer is written
pub parted-cut : (frames : List Frame) (before old new : Option (List ℕ)) (buffer ended : List ℕ)
    → IsParted frames before old buffer ended → AppendsPrefix old new buffer
    → IsFront frames before new
parted-cut frames before old new buffer ended p cut = (
  spelled_all p.written ++ cut.0,
  (
    cut.1,
    parted-spelled frames before old buffer ended p
        ∙ (ap (λ (bytes : List ℕ). spelled_all p.written ++ bytes) cut.2
        ∙ sym (append_assoc (spelled_all p.written) cut.0 cut.1)),
  ),
  Appends-twice before old new (spelled_all p.written) cut.0 p.device cut.3,
)

-- ---- however the writer stands

pub holds-flushed : (standing : Standing) (frames : List Frame) (before old new : Option (List ℕ))
    (buffer ended : List ℕ)
    → standing ≢ Broken
    → Holds standing frames before old buffer ended → Appends old new buffer
    → Holds standing frames before new [] []
holds-flushed Going frames before old new buffer ended whole h appends =
    parted-flushed frames before old new buffer ended h appends
holds-flushed OutOfMemory frames before old new buffer ended whole h appends =
    parted-flushed frames before old new buffer ended h appends
holds-flushed Broken frames before old new buffer ended whole h appends = absurd (whole refl)

pub holds-cut : (standing : Standing) (frames : List Frame) (before old new : Option (List ℕ))
    (buffer ended : List ℕ)
    → standing ≢ Broken
    → Holds standing frames before old buffer ended → AppendsPrefix old new buffer
    → IsFront frames before new
holds-cut Going frames before old new buffer ended whole h cut =
    parted-cut frames before old new buffer ended h cut
holds-cut OutOfMemory frames before old new buffer ended whole h cut =
    parted-cut frames before old new buffer ended h cut
holds-cut Broken frames before old new buffer ended whole h cut = absurd (whole refl)

pub holds-front : (standing : Standing) (frames : List Frame) (before now : Option (List ℕ))
    (buffer ended : List ℕ)
    → Holds standing frames before now buffer ended
    → IsFront frames before now
holds-front Going frames before now buffer ended h = parted-front frames before now buffer ended h
holds-front OutOfMemory frames before now buffer ended h =
    parted-front frames before now buffer ended h
holds-front Broken frames before now buffer ended h = h

-- nothing is left in the buffer
parted-all : (frames : List Frame) (before now : Option (List ℕ)) (buffer ended : List ℕ)
    → IsParted frames before now buffer ended → buffer ≡ []
    → Appends before now (spelled_all frames)
parted-all frames before now buffer ended p empty =
    subst (λ (bytes : List ℕ). Appends before now bytes)
    (sym (parted-spelled frames before now buffer ended p
    ∙ (ap (λ (bytes : List ℕ). spelled_all p.written ++ bytes) empty
    ∙ append-nil (spelled_all p.written)))) p.device

pub holds-all : (standing : Standing) (frames : List Frame) (before now : Option (List ℕ))
    (buffer ended : List ℕ)
    → standing ≢ Broken
    → Holds standing frames before now buffer ended → buffer ≡ [] → IsAll frames before now
holds-all Going frames before now buffer ended sound h empty =
    parted-all frames before now buffer ended h empty
holds-all OutOfMemory frames before now buffer ended sound h empty =
    parted-all frames before now buffer ended h empty
holds-all Broken frames before now buffer ended sound h empty = absurd (sound refl)

-- ---- how long a frame is

unfaulty : (long on fits : Bool) (other : Option FrameFault)
    → option_or (if long then Some TooLong
    else (if on then (if fits then None else Some BadLength) else Some WrongStream)) other
    ≡ None
    → long ≡ false
unfaulty true on fits other e = cc
unfaulty false on fits other e = refl

-- a frame that isn't faulty has at most 16,393 bytes
pub spelled-short : (frame : Frame) → frame.head.length ≡ length frame.content
    → frame_fault frame ≡ None → length (spelled frame) ≤ 16393
spelled-short frame whole e =
    let fits : frame.head.length ≤ 16384 = ltb-false 16384 frame.head.length
    (unfaulty (nat_lt 16384 frame.head.length) (may_be_on frame.head.kind frame.head.stream)
    (may_have_length frame.head.kind frame.head)
    (if lacks_increment frame.head.kind frame.content then Some (ZeroIncrement frame.head.stream)
    else None) e) in
    omega arith

-- and at least 9
pub spelled-long : (frame : Frame) → 9 ≤ length (spelled frame)
spelled-long frame = omega arith
