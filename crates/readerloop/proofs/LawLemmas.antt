-- What is fed, by the events alone.
use Rattle.std.proofs.Common.{◌≡◌, ◌∙◌, ℕ, List, [], ◌∷◌, ◌++◌, Option, None, Some, ap, refl, sym}
use Rattle.std.proofs.lemmas.Grind.{flat_map-append}
use Rattle.std.proofs.lemmas.List.{append-nil}
use Rattle.session.specs.declared.event.InEvent.{InEvent}
use Rattle.session.specs.StreamData.{piece_of, pieces}
use Rattle.readerloop.specs.Steps.{
  Closing,
  Step,
  Told,
  CutOff,
  Drains,
  Lacks,
  earlier,
  events_of,
  fed_by,
  closing_at,
  closing_by,
  unless,
}

pub none-before : (first second : Option Closing) → earlier first second ≡ None → first ≡ None
none-before None second e = refl
none-before (Some kind) second e = e

pub pieces-push : (id : ℕ) (events : List InEvent) (event : InEvent)
    → pieces id (events ++ event ∷ []) ≡ pieces id events ++ piece_of id event
pieces-push id events event =
    flat_map-append (λ (e : InEvent). piece_of id e) events (event ∷ [])
    ∙ ap (λ (l : List ℕ). pieces id events ++ l) (append-nil (piece_of id event))

pub fed-open : (id : ℕ) (told : List Step) → closing_by id told ≡ None
    → fed_by id told ≡ pieces id (events_of told)
fed-open id [] e = refl
fed-open id (Told event fate ∷ before) e =
    let behind =
    fed-open id before (none-before (closing_by id before) (closing_at id (Told event fate)) e) in
    ap (λ (closed : Option Closing). fed_by id before ++ unless closed (piece_of id event)) e
    ∙ (ap (λ (l : List ℕ). l ++ piece_of id event) behind
    ∙ sym (pieces-push id (events_of before) event))
fed-open id (CutOff other ∷ before) e =
    let behind =
    fed-open id before (none-before (closing_by id before) (closing_at id (CutOff other)) e) in
    ap (λ (closed : Option Closing). fed_by id before ++ unless closed []) e
    ∙ (append-nil (fed_by id before) ∙ behind)
fed-open id (Drains ∷ before) e =
    let behind = fed-open id before (none-before (closing_by id before) None e) in
    ap (λ (closed : Option Closing). fed_by id before ++ unless closed []) e
    ∙ (append-nil (fed_by id before) ∙ behind)
fed-open id (Lacks ∷ before) e =
    let behind = fed-open id before (none-before (closing_by id before) None e) in
    ap (λ (closed : Option Closing). fed_by id before ++ unless closed []) e
    ∙ (append-nil (fed_by id before) ∙ behind)
