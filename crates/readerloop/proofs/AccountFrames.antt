-- What the account of a call comes to by the frames of the bytes that came.
use Rattle.std.proofs.Common.{
  ◌≡◌,
  ◌≢◌,
  ◌∙◌,
  ◌⊎◌,
  inl,
  inr,
  ℕ,
  ◌<◌,
  true,
  List,
  Option,
  None,
  Some,
  ap,
  arith,
  length,
  refl,
  subst,
  sym,
}
use mathlib.Core.List.{IsPrefix}
use Rattle.account.specs.declared.call.Account.{Account}
use Rattle.account.specs.declared.call.Shut.TheVariants as shut
use Rattle.h2frame.specs.FrameList.{Entry}
use Rattle.outwriter.specs.Steps.{Order}
use Rattle.session.specs.declared.event.InEvent.{InEvent}
use Rattle.session.specs.Events.{Events}
use Rattle.session.specs.Framings.{Framed}
use Rattle.session.specs.StreamData.{Unended, Finished, Aborted, data_of, ending_of, ending_told}
use Rattle.session.specs.Trailers.{EndsAs}
use Rattle.session.proofs.OneEvents.{events_one}
use Rattle.readerloop.specs.Steps.{
  Closing,
  ShutAs,
  Misses,
  Step,
  closing_by,
  events_of,
  fed_by,
  shut_by,
  shut_in,
  since,
}
use Rattle.readerloop.proofs.EndLemmas.{quiet-open}
use Rattle.callparts.specs.declared.report.Ending.{Ending}
use Rattle.readerloop.specs.Calls.{is_admitted}
use Rattle.readerloop.specs.Reports.{AreHeard, IsEndedOrError, WasResetFor, is_heard_out}
use Rattle.readerloop.specs.AccountFrames.{HasFrames, HasMissed, WasReset}
use Rattle.readerloop.proofs.CallData.{call-data, since-data}
use Rattle.readerloop.proofs.MissedLess.{missed-less}
use Rattle.readerloop.proofs.CallEnd.{end-since}

-- a half whose stream ended was closed: by the end, with a reset, or since it missed data
ended-by : (told : List Step) (orders : List Order) (account : Account) (id : ℕ) (sent : List ℕ)
    (found : Option Closing)
    → closing_by id (since id told) ≡ found → account.shut ≡ shut_in found
    → ending_told id (events_of (since id told)) ≢ Unended
    → IsEndedOrError id (events_of (since id told)) → WasResetFor told orders id
    → (closing_by id (since id told) ≡ Some Misses → length account.fed < length sent)
    → (account.shut ≡ Some shut.End) ⊎ (WasReset id orders account ⊎ HasMissed sent account)
ended-by told orders account id sent None closes own not ended resets less =
    absurd (not (quiet-open id (since id told) closes))
ended-by told orders account id sent (Some (ShutAs shut.End)) closes own not ended
    resets less = inl own
ended-by told orders account id sent (Some (ShutAs (shut.Reset code))) closes own not ended resets
    less = inr (inl ((code, own), resets code ended (ap shut_in closes)))
ended-by told orders account id sent (Some Misses) closes own not ended resets less =
    inr (inr (own, less closes))

by-end : (told : List Step) (orders : List Order) (account : Account)
    (entries : List Entry) (id : ℕ)
    → account.shut ≡ shut_by id (since id told) → ending_of id entries ≡ Finished
    → EndsAs id entries (events_of (since id told)) → WasResetFor told orders id
    → (closing_by id (since id told) ≡ Some Misses
    → length account.fed < length (data_of id entries))
    → (account.shut ≡ Some shut.End)
    ⊎ (WasReset id orders account ⊎ HasMissed (data_of id entries) account)
by-end told orders account entries id closed finished (inl is) resets less =
    let ended : ending_told id (events_of (since id told)) ≡ Finished = is ∙ finished in
    ended-by told orders account id (data_of id entries) (closing_by id (since id told)) refl closed
    (λ (e : ending_told id (events_of (since id told)) ≡ Unended).
    let wrong : Finished ≡ Unended = sym ended ∙ e in
    cc) (inl ended) resets less
by-end told orders account entries id closed finished (inr so) resets less =
    ended-by told orders account id (data_of id entries) (closing_by id (since id told)) refl closed
    (λ (e : ending_told id (events_of (since id told)) ≡ Unended).
    let wrong : Aborted ≡ Unended = sym so.aborted ∙ e in
    cc) (inr so.error) resets less

pub account-by-frames : (end : Ending) (came : List ℕ) (told : List Step) (orders : List Order)
    (given : List InEvent) (entries : List Entry) (id : ℕ) (account : Account)
    → AreHeard end came (events_of told)
    → (is_heard_out end ≡ true → WasResetFor told orders id) → is_admitted id told ≡ true
    → account.fed ≡ fed_by id (since id told) → account.shut ≡ shut_by id (since id told)
    → Events came given → Framed came given entries → HasFrames end entries orders id account
account-by-frames end came told orders given entries id account heard resets known fed
    closed events framed =
    let of-frames = call-data came given entries told id framed (heard.front given events) known in
    record {
      front =
          subst (λ (bytes : List ℕ). IsPrefix bytes (data_of id entries)) (sym fed) of-frames.front;
      whole = λ whole.
          let found = of-frames.whole (sym closed ∙ whole) in
          (fed ∙ found.0, found.1);
      ends = λ calm finished.
          let all : events_of told ≡ given =
          events_one came (events_of told) given (heard.whole calm) events in
          by-end told orders account entries id closed finished
          (end-since came given entries told id framed all known) (resets calm)
          (λ misses.
          let less = missed-less id (since id told) misses in
          let most = since-data came given entries told id framed all known in
          let sent = ap length fed in
          omega (arith, less, most, sent));
    }
