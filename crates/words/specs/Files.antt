-- The options that `serve` and `misbehave` share: `--port-file FILE` and `--ready-file FILE`
use Rattle.std.specs.Prelude.{List, Option, codes, option_map}
use Rattle.clap.specs.Walk.{Row, Text}
use Rattle.clap.specs.Simple.{App, with_rule}
use Rattle.words.specs.Options.{text_of, text_option}
use Rattle.words.specs.declared.files.Files.{Files}

-- a command with them too
abbrev pub with_files : App → App
with_files app =
    with_rule (with_rule app (text_option (codes "port-file"))) (text_option (codes "ready-file"))

-- the files that a server writes once it listens
pub record ReadyFiles : Type 0 where
  pub port : Option Text
  pub ready : Option Text

abbrev pub files : Files → ReadyFiles
files words = record {
  port = option_map (λ file. file.now) words.port;
  ready = option_map (λ file. file.now) words.ready;
}

abbrev pub files_of : List Row → ReadyFiles
files_of rows = record {
  port = text_of (codes "port-file") rows;
  ready = text_of (codes "ready-file") rows;
}
