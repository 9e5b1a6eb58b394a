-- Which errors a server said, and what a judgment of its reactions rests on.
use Rattle.std.specs.Prelude.{
  ◌≡◌,
  ⊤,
  ℕ,
  ◌⊎◌,
  ◌==◌,
  nat_le,
  Bool,
  true,
  false,
  ◌||◌,
  not,
  List,
  Option,
  Some,
  None,
  IsSome,
  is_none,
  ◌&&◌,
  if◌then◌else◌,
  length,
}
use Rattle.std.specs.Ordering.{nat_cmp}
use Rattle.std.specs.List.{All, Any, list_any}
use Rattle.std.specs.BTreeMap.{get}
use Rattle.wire.specs.declared.reaction.LawfulReaction.{LawfulReaction}
use Rattle.wire.specs.declared.reaction.Reaction.{Reaction}
use Rattle.wire.specs.declared.reaction.Reaction.TheVariants as reaction
use Rattle.wire.specs.declared.seen_frames.SeenFrames.{SeenFrames}
use Rattle.wire.specs.declared.stream_seen.StreamSeen.{StreamSeen}

-- an error was said, and it is one of these
abbrev pub is_one_of : Option ℕ → List ℕ → Bool
is_one_of None codes = false
is_one_of (Some code) codes = list_any (λ it. it == code) codes

-- GOAWAY with one of these errors, or the end of the connection where no GOAWAY says an error (RFC
-- 9113, section 5.4.1)
abbrev pub has_ended : Option ℕ → Bool → List ℕ → Bool
has_ended None closed codes = closed
has_ended (Some code) closed codes = if code == 0 then closed else list_any (λ it. it == code) codes

-- an error was said, and it is one of these, or any where none is named
abbrev pub is_one_or_any : Option ℕ → List ℕ → Bool
is_one_or_any None codes = false
is_one_or_any (Some code) codes = (length codes == 0) || list_any (λ it. it == code) codes

-- RST_STREAM with one of these errors, or with any where none is named
abbrev pub was_reset : Option StreamSeen → List ℕ → Bool
was_reset None codes = false
was_reset (Some seen) codes = is_one_or_any seen.reset codes

-- what was judged of an error, or of an end, is so
abbrev pub Judges : SeenFrames → Reaction → Bool → Type 0
Judges seen (reaction.Connection codes) held = held ≡ has_ended seen.goaway seen.closed codes.items
Judges seen (reaction.Goaway codes) held = held ≡ is_one_of seen.goaway codes.items
Judges seen reaction.Closed held = held ≡ seen.closed
Judges seen (reaction.Reset stream codes) held =
    held ≡ was_reset (get nat_cmp seen.streams stream) codes.items
Judges seen (reaction.Stream stream codes) held =
    held
    ≡ (has_ended seen.goaway seen.closed codes.items
    || was_reset (get nat_cmp seen.streams stream) codes.items)
Judges seen (reaction.Acks count) held = held ≡ (seen.acks == count)
Judges seen (reaction.Largest most) held = held ≡ nat_le seen.largest most
Judges seen reaction.Orderly held = held ≡ not seen.late
Judges seen other held = ⊤

-- the connection ended before anything came that could be judged
abbrev pub was_shut : SeenFrames → Bool
was_shut seen = seen.closed && (not seen.any_frame && (not seen.text && is_none seen.wrong))

-- the server did nothing that no server may, and all that is asked for holds
pub record IsLawful (seen : SeenFrames) (lawful : LawfulReaction) : Type 0 where
  pub no_wrong : seen.wrong ≡ None
  pub all : All (λ asked. Judges seen asked true) lawful.all.items

-- the server did what no server may, or something that is asked for was judged not to hold
abbrev pub IsUnlawful : SeenFrames → LawfulReaction → Type 0
IsUnlawful seen lawful = IsSome seen.wrong ⊎ Any (λ asked. Judges seen asked false) lawful.all.items
