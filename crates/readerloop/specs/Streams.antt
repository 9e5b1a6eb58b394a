-- What a call was fed, by the frames of its stream (RFC 9113, sections 5.1 and 8.1).
use mathlib.Core.List.{IsPrefix}
use Rattle.std.specs.Prelude.{◌≡◌, ◌≢◌, ◌⊎◌, ℕ, List, Some}
use Rattle.account.specs.declared.call.Shut.TheVariants as shut
use Rattle.h2frame.specs.FrameList.{Entry}
use Rattle.session.specs.StreamData.{Finished, data_of, ending_of}
use Rattle.session.specs.Trailers.{HasMalformedTrailers}
use Rattle.readerloop.specs.Steps.{
  Closing,
  ShutAs,
  Step,
  WasLetGo,
  closing_by,
  fed_by,
  shut_by,
  since,
}

-- What these steps feed a call begins the data of its stream, by these frames. The steps end its
-- half only where END_STREAM ended the stream, and then it was fed all data.
pub record HasStreamData (id : ℕ) (steps : List Step) (entries : List Entry) : Type 0 where
  pub front : IsPrefix (fed_by id steps) (data_of id entries)
  pub whole : shut_by id steps ≡ Some shut.End
      → (fed_by id steps ≡ data_of id entries) × (ending_of id entries ≡ Finished)

-- the half ended, and was fed all data of its stream
pub record EndedWhole (id : ℕ) (steps : List Step) (entries : List Entry) : Type 0 where
  pub closed : shut_by id steps ≡ Some shut.End
  pub fed : fed_by id steps ≡ data_of id entries

-- the half was closed by the first step of those that close it, which let it go before END_STREAM
-- was told
pub record LetGoBefore (id : ℕ) (told : List Step) : Type 0 where
  pub closing : Closing
  pub closed : closing_by id (since id told) ≡ Some closing
  pub by : WasLetGo id closing told

-- the half was closed, but not by its end, and its stream has malformed trailers
pub record ClosedAtTrailers (id : ℕ) (told : List Step) (entries : List Entry) : Type 0 where
  pub trailers : HasMalformedTrailers id entries
  pub closing : Closing
  pub closed : closing_by id (since id told) ≡ Some closing
  pub otherwise : closing ≢ ShutAs shut.End

-- What became of the half of a call whose stream END_STREAM ended, once all events of the stream
-- were heard.
abbrev pub HasEnd : ℕ → List Step → List Entry → Type 0
HasEnd id told entries =
    EndedWhole id (since id told) entries ⊎ (LetGoBefore id told ⊎ ClosedAtTrailers id told entries)
