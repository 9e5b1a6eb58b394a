-- What became of the half of a call whose stream END_STREAM ended.
use Rattle.std.proofs.Common.{
  ◌≡◌,
  ◌∙◌,
  ℕ,
  inl,
  inr,
  true,
  nat_eq,
  List,
  [],
  Option,
  None,
  Some,
  ap,
  append-nil,
  refl,
  sym,
}
use Rattle.std.specs.List.{list_any}
use Rattle.account.specs.declared.call.Shut.TheVariants as shut
use Rattle.h2frame.specs.FrameList.{Entry}
use Rattle.session.specs.declared.event.InEvent.{InEvent}
use Rattle.session.specs.declared.event.InEvent.TheVariants as events
use Rattle.session.specs.Framings.{Framed}
use Rattle.session.specs.StreamData.{Unended, Finished, Aborted, ending_of, ending_told}
use Rattle.session.specs.Trailers.{HasMalformedTrailers, EndsAs}
use Rattle.readerloop.specs.Steps.{
  Closing,
  ShutAs,
  Misses,
  Step,
  admitted,
  closing_by,
  events_of,
  shut_by,
  shut_in,
  since,
}
use Rattle.readerloop.proofs.HalfLemmas.{same_number}
use Rattle.readerloop.proofs.EndLemmas.{quiet-open, since-opening}
use Rattle.readerloop.proofs.LetGo.{let-go-before}
use Rattle.readerloop.specs.Streams.{HasEnd, HasStreamData}
use Rattle.readerloop.proofs.CallData.{all-behind, call-data}

-- the end that was told of a call since it was admitted is the one by the frames
pub end-since : (came : List ℕ) (given : List InEvent) (entries : List Entry)
    (told : List Step) (id : ℕ)
    → Framed came given entries → events_of told ≡ given
    → list_any (nat_eq id) (admitted told) ≡ true → EndsAs id entries (events_of (since id told))
end-since came given entries told id framed all there =
    let at = since-opening id told there in
    let event : InEvent = events.Open id at.1 in
    let behind =
    all-behind came given at.0 (events_of (since id told)) event entries id framed (sym all ∙ at.2)
    (same_number id) refl refl in
    behind.1

reset-no-end : (code : ℕ) → ShutAs (shut.Reset code) ≡ ShutAs shut.End → ⊥
reset-no-end code e = cc

missed-no-end : Misses ≡ ShutAs shut.End → ⊥
missed-no-end e = cc

ended-with : (told : List Step) (id : ℕ) (entries : List Entry) (found : Option Closing)
    → list_any (nat_eq id) (admitted told) ≡ true → closing_by id (since id told) ≡ found
    → ending_told id (events_of (since id told)) ≡ Finished
    → HasStreamData id (since id told) entries → HasEnd id told entries
ended-with told id entries None there unshut ends fed =
    let wrong : Unended ≡ Finished = sym (quiet-open id (since id told) unshut) ∙ ends in
    absurd cc
ended-with told id entries (Some (ShutAs shut.End)) there closed ends fed =
    let end : shut_by id (since id told) ≡ Some shut.End = ap shut_in closed in
    inl (record { closed = end; fed = (fed.whole end).0 })
ended-with told id entries (Some (ShutAs (shut.Reset code))) there closed ends fed =
    inr (inl (record {
      closing = ShutAs (shut.Reset code);
      closed = closed;
      by = let-go-before id (ShutAs (shut.Reset code)) told (reset-no-end code) there ends closed;
    }))
ended-with told id entries (Some Misses) there closed ends fed =
    inr (inl (record {
      closing = Misses;
      closed = closed;
      by = let-go-before id Misses told missed-no-end there ends closed;
    }))

-- where its trailers were refused
refused-with : (told : List Step) (id : ℕ) (entries : List Entry) (found : Option Closing)
    → closing_by id (since id told) ≡ found → ending_told id (events_of (since id told)) ≡ Aborted
    → HasMalformedTrailers id entries
    → HasStreamData id (since id told) entries → HasEnd id told entries
refused-with told id entries None unshut aborted trailers fed =
    let wrong : Unended ≡ Aborted = sym (quiet-open id (since id told) unshut) ∙ aborted in
    absurd cc
refused-with told id entries (Some (ShutAs shut.End)) closed aborted trailers fed =
    let end : shut_by id (since id told) ≡ Some shut.End = ap shut_in closed in
    inl (record { closed = end; fed = (fed.whole end).0 })
refused-with told id entries (Some (ShutAs (shut.Reset code))) closed aborted trailers fed =
    inr (inr (record {
      trailers = trailers;
      closing = ShutAs (shut.Reset code);
      closed = closed;
      otherwise = λ e. reset-no-end code e;
    }))
refused-with told id entries (Some Misses) closed aborted trailers fed =
    inr (inr (record {
      trailers = trailers;
      closing = Misses;
      closed = closed;
      otherwise = λ e. missed-no-end e;
    }))

pub call-end : (came : List ℕ) (given : List InEvent) (entries : List Entry)
    (told : List Step) (id : ℕ)
    → Framed came given entries → events_of told ≡ given
    → list_any (nat_eq id) (admitted told) ≡ true → ending_of id entries ≡ Finished
    → HasEnd id told entries
call-end came given entries told id framed all there finished =
    let fed =
    call-data came given entries told id framed ([], append-nil (events_of told) ∙ all) there in
    elim (end-since came given entries told id framed all there) [
      | inl is ↦
          ended-with told id entries (closing_by id (since id told)) there refl (is ∙ finished) fed
      | inr so ↦
          refused-with told id entries (closing_by id (since id told)) refl
          so.aborted so.trailers fed
    ]
