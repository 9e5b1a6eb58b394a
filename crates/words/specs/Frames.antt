-- `frames`, also `frames FILE` and `frames FILE FILE`, with `--full` and `--side SIDE`
use Rattle.std.specs.Prelude.{
  Bool,
  List,
  [],
  ◌∷◌,
  Option,
  None,
  Some,
  if◌then◌else◌,
  codes,
  map,
  option_map,
  option_and_then,
}
use Rattle.std.specs.Option.{option_map_or}
use Rattle.std.specs.Str.{bytes_eq}
use Rattle.clap.specs.Walk.{Row, Text}
use Rattle.clap.specs.Simple.{App, new_app, with_rule}
use Rattle.words.specs.Options.{flag, has_flag, several, text_of, text_option, texts_of}
use Rattle.words.specs.declared.frames.FramesWords.{FramesWords}
use Rattle.words.specs.declared.frames.Side.{Side}
use Rattle.words.specs.declared.frames.Side.TheVariants.{Client, Server}

abbrev pub frames_command : App
frames_command =
    with_rule (with_rule (with_rule (new_app (codes "frames"))
    (several (codes "FILE")))
    (text_option (codes "side")))
    (flag (codes "full"))

-- which bytes' frames are printed, and how
pub record PrintedFrames : Type 0 where
  pub files : List Text
  pub side : Option Side
  pub is_full : Bool

abbrev pub frames : FramesWords → PrintedFrames
frames words = record {
  files = map (λ file. file.now) words.files.items;
  side = words.side;
  is_full = words.is_full;
}

-- the side of a name
abbrev pub side_named : Text → Option Side
side_named name = if bytes_eq name (codes "client") then Some Client
    else (if bytes_eq name (codes "server") then Some Server else None)

-- the side, if one is named; nothing where its name is no side's
abbrev pub side_of : List Row → Option (Option Side)
side_of rows =
    option_map_or (λ name. option_map Some (side_named name))
    (text_of (codes "side") rows) (Some None)

-- these files, where they are two at most
abbrev pub few : List Text → Option (List Text)
few [] = Some []
few (one ∷ []) = Some (one ∷ [])
few (one ∷ other ∷ []) = Some (one ∷ other ∷ [])
few (one ∷ other ∷ third ∷ files) = None

abbrev pub frames_of : List Row → Option PrintedFrames
frames_of rows = option_and_then (λ side. option_map (λ files. record {
  files = files;
  side = side;
  is_full = has_flag (codes "full") rows;
}) (few (texts_of (codes "FILE") rows))) (side_of rows)
