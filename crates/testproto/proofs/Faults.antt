-- Bytes that have a value are refused for want of memory alone.
use Rattle.std.proofs.Common.{◌≡◌, ◌≢◌, ℕ, List, refl}
use Rattle.pbwire.specs.Fields.{Field}
use Rattle.testproto.specs.declared.fault.ProtoFault.{ProtoFault}
use Rattle.testproto.specs.declared.fault.ProtoFault.TheVariants.{Wire, NotUtf8, OutOfMemory}
use Rattle.testproto.specs.Values.{IsValueOf, HasFault}
use Rattle.testproto.specs.Unique.{AreApart, no_fault}

memory_left : (fault : ProtoFault) → (fault ≢ OutOfMemory → ⊥) → fault ≡ OutOfMemory
memory_left (Wire wire) never = absurd (never (λ e. cc))
memory_left NotUtf8 never = absurd (never (λ e. cc))
memory_left OutOfMemory never = refl

pub only_memory : {M : Type 0} (accepts : Field → Type 0) (refuses : Field → ProtoFault → Type 0)
    (is_value : List Field → M → Type 0) (apart : AreApart accepts refuses) (input : List ℕ)
    (value : M) (fault : ProtoFault)
    → (fault ≢ OutOfMemory → HasFault accepts refuses input fault)
    → IsValueOf accepts is_value input value → fault ≡ OutOfMemory
only_memory accepts refuses is_value apart input value fault has is =
    memory_left fault
    (λ told. no_fault accepts refuses apart input fault (is.0, is.1, is.2) (has told))
