-- A header block that opens its stream, or has its trailers.
use Rattle.std.proofs.Common.{◌≡◌, ℕ, inl, List, ◌++◌, refl, sym, subst}
use Rattle.std.specs.Prelude.{Option, Result, Ok, Err, OnOk}
use Rattle.h2frame.specs.declared.frame.FrameHead.{FrameHead}
use Rattle.lists.specs.declared.field.Field.{Field}
use Rattle.hpack_codec.specs.Table.{Table}
use Rattle.hpack_codec.specs.Codec.{Reads}
use Rattle.callhead.specs.MalformedHeads.{are_malformed_trailers}
use Rattle.streamstates.specs.declared.halves.FrameAction.{FrameAction}
use Rattle.streamstates.specs.declared.halves.FrameAction.TheVariants.{Open, Accept}
use Rattle.streamstates.specs.Halves.{Event, Streams, Stands}
use Rattle.session.specs.declared.event.InEvent.{InEvent}
use Rattle.session.specs.Blocks.{trailer_events, after_trailers, HeadGives, FieldsGive, BlockGives}

abbrev pub IsOpened : FrameHead → List Field → List InEvent → List InEvent → Streams
    → Streams → Type 0
IsOpened head fields old new before behind =
    (history : List Event) → Stands history before
    → (given : List InEvent) × (next : List Event) × HeadGives head fields history given next
    × (new ≡ old ++ given) × Stands next behind

abbrev pub IsTaken : Option Table → FrameHead → FrameAction → List ℕ → Option Table → List InEvent
    → List InEvent → Streams → Streams → Type 0
IsTaken kept head judged block kept_next old new before behind =
    (history : List Event) → Stands history before
    → (given : List InEvent) × (next : List Event)
    × BlockGives kept head judged block history given next kept_next × (new ≡ old ++ given)
    × Stands next behind

pub block_opens : {T E : Type 0} (r : Result T E) (kept kept_next : Option Table) (head : FrameHead)
    (judged : FrameAction) (block : List ℕ) (fields shown : List Field) (old new : List InEvent)
    (before behind : Streams)
    → judged ≡ Open → Reads kept block fields kept_next → shown ≡ fields
    → OnOk r (IsOpened head shown old new before behind)
    → OnOk r (IsTaken kept head judged block kept_next old new before behind)
block_opens (Ok x) kept kept_next head judged block fields shown old new before behind opens
    reads same opened =
    λ (history : List Event) (stands : Stands history before).
    let g = opened history stands in
    let gives : HeadGives head fields history g.0 g.1 =
    subst (λ (fs : List Field). HeadGives head fs history g.0 g.1) same g.2 in (
      g.0,
      g.1,
      inl (
        fields,
        reads,
        subst (λ (v : FrameAction). FieldsGive v head fields history g.0 g.1) (sym opens) gives,
      ),
      g.3,
      g.4,
    )
block_opens (Err x) kept kept_next head judged block fields shown old new before behind opens
    reads same opened = tt

pub block_trails : {T E : Type 0} (r : Result T E) (kept kept_next : Option Table)
    (head : FrameHead) (judged : FrameAction) (block : List ℕ) (fields shown : List Field)
    (old new : List InEvent) (before behind : Streams)
    → judged ≡ Accept → Reads kept block fields kept_next → shown ≡ fields
    → OnOk r (new ≡ old ++ trailer_events (are_malformed_trailers shown) head)
    → OnOk r ((history : List Event) → Stands history before
    → Stands (after_trailers (are_malformed_trailers shown) head.stream history) behind)
    → OnOk r (IsTaken kept head judged block kept_next old new before behind)
block_trails (Ok x) kept kept_next head judged block fields shown old new before behind trails reads
    same told follows =
    λ (history : List Event) (stands : Stands history before).
    let given : List InEvent = trailer_events (are_malformed_trailers shown) head in
    let next : List Event = after_trailers (are_malformed_trailers shown) head.stream history in
    let gives : FieldsGive Accept head fields history given next =
    subst (λ (fs : List Field). FieldsGive Accept head fs history given next) same (refl, refl) in (
      given,
      next,
      inl (
        fields,
        reads,
        subst (λ (v : FrameAction). FieldsGive v head fields history given next) (sym trails) gives,
      ),
      told,
      follows history stands,
    )
block_trails (Err x) kept kept_next head judged block fields shown old new before behind trails
    reads same told follows = tt
