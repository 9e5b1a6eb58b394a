-- Command lines and what they mean.
use Rattle.std.specs.Prelude.{◌≡◌, [], ◌∷◌, false, true, Some, None, codes, refl}
use Rattle.clap.proofs.OnLiterals.{clap_on_literals}
use Rattle.words.specs.Case.{Soak}
use Rattle.words.specs.Case as case
use Rattle.words.specs.Files as files
use Rattle.words.specs.Misbehave.{play}
use Rattle.words.specs.Reporting as reporting
use Rattle.words.specs.Wire.{list, run}
use Rattle.results.specs.declared.words.Level.TheVariants.{Must}
use Rattle.words.specs.Tracing as tracing
use Rattle.words.specs.Words.{
  command_meant,
  drain,
  meaning_of,
  misbehave,
  print_body,
  serve,
  tell_frames,
  try_case,
  try_wire,
}
use Rattle.words.specs.declared.frames.Side.TheVariants.{Server}
use Rattle.words.specs.declared.tracing.TraceForm.TheVariants.{Full, Short}
use Rattle.words.specs.declared.serve.LogForm.TheVariants.{Json, Text as Plain}
use Rattle.words.specs.declared.serve.Port.TheVariants.{Any, Number}

-- nothing is said of results
abbrev pub no_reporting : reporting.OutcomeReport
no_reporting = record {
  json = None;
  junit = None;
  has_tap = false;
  save = None;
  known = None;
  write_known = None;
  skip = [];
  level = None;
  repeat = 1;
  fails_fast = false;
}

-- no file is named
abbrev pub no_files : files.ReadyFiles
no_files = record { port = None; ready = None }

-- nothing of what passes is written
abbrev pub no_tracing : tracing.TracePlaces
no_tracing = record { form = None; lines = None; capture = None }

pub no_words : meaning_of [] ≡ Some (print_body 3)
no_words = refl

pub cut : meaning_of (codes "body" ∷ codes "--cut" ∷ codes "65536" ∷ []) ≡ Some (print_body 65536)
unfolding clap_on_literals command_meant
cut = refl

pub cut_of_zero : meaning_of (codes "body" ∷ codes "--cut=0" ∷ []) ≡ None
unfolding clap_on_literals command_meant
cut_of_zero = refl

pub no_cut : meaning_of (codes "body" ∷ []) ≡ None
unfolding clap_on_literals command_meant
no_cut = refl

pub any_port : meaning_of (codes "serve" ∷ codes "--any-port" ∷ codes "--host=::1" ∷ [])
    ≡ Some (serve (record {
      host = codes "::1";
      port = Any;
      connections = None;
      has_report = false;
      log = None;
      time = None;
      drains_on_eof = false;
      patience = 10;
      files = no_files;
      tracing = no_tracing;
      record_in = None;
    }))
unfolding clap_on_literals command_meant
any_port = refl

pub bare_log : meaning_of (codes "serve" ∷ codes "--log" ∷ codes "--port" ∷ codes "5" ∷ [])
    ≡ Some (serve (record {
      host = codes "127.0.0.1";
      port = Number 5;
      connections = None;
      has_report = false;
      log = Some Plain;
      time = None;
      drains_on_eof = false;
      patience = 10;
      files = no_files;
      tracing = no_tracing;
      record_in = None;
    }))
unfolding clap_on_literals command_meant
bare_log = refl

pub log_of_objects : meaning_of (codes "serve" ∷ codes "--any-port" ∷ codes "--log=json" ∷ [])
    ≡ Some (serve (record {
      host = codes "127.0.0.1";
      port = Any;
      connections = None;
      has_report = false;
      log = Some Json;
      time = None;
      drains_on_eof = false;
      patience = 10;
      files = no_files;
      tracing = no_tracing;
      record_in = None;
    }))
unfolding clap_on_literals command_meant
log_of_objects = refl

pub log_of_no_form :
    meaning_of (codes "serve" ∷ codes "--any-port" ∷ codes "--log" ∷ codes "xml" ∷ [])
    ≡ None
unfolding clap_on_literals command_meant
log_of_no_form = refl

pub drained_at_the_end :
    meaning_of (codes "serve" ∷ codes "--drain-on-eof" ∷ codes "--any-port" ∷ [])
    ≡ Some (serve (record {
      host = codes "127.0.0.1";
      port = Any;
      connections = None;
      has_report = false;
      log = None;
      time = None;
      drains_on_eof = true;
      patience = 10;
      files = no_files;
      tracing = no_tracing;
      record_in = None;
    }))
unfolding clap_on_literals command_meant
drained_at_the_end = refl

pub two_ports : meaning_of (codes "serve" ∷ codes "--port" ∷ codes "5" ∷ codes "--any-port" ∷ [])
    ≡ None
unfolding clap_on_literals command_meant
two_ports = refl

-- a soak of which nothing is said
abbrev pub soak_of_grpc : Soak
soak_of_grpc = record {
  iterations = 10;
  max_failures = 0;
  acceptable = 1000;
  overall = None;
  gap = 0;
  request_size = 271828;
  response_size = 314159;
}

pub flags_of_grpc :
    meaning_of (codes "case" ∷ codes "--server_host=localhost" ∷ codes "--server_port=5"
    ∷ codes "--test_case=large_unary" ∷ []) ≡ Some (try_case (case.run (record {
      names = codes "large_unary" ∷ [];
      host = codes "localhost";
      port = 5;
      times = 1;
      streams = None;
      patience = 10;
      soak = soak_of_grpc;
      tracing = no_tracing;
      reporting = no_reporting;
    })))
unfolding clap_on_literals command_meant
flags_of_grpc = refl

pub flags_of_soaks :
    meaning_of (codes "case" ∷ codes "rpc_soak" ∷ codes "--port=5" ∷ codes "--soak_iterations=1000"
    ∷ codes "--soak_max_failures=0" ∷ codes "--soak_overall_timeout_seconds=60" ∷ [])
    ≡ Some (try_case (case.run (record {
      names = codes "rpc_soak" ∷ [];
      host = codes "127.0.0.1";
      port = 5;
      times = 1;
      streams = None;
      patience = 10;
      soak = record soak_of_grpc { iterations = 1000; overall = Some 60 };
      tracing = no_tracing;
      reporting = no_reporting;
    })))
unfolding clap_on_literals command_meant
flags_of_soaks = refl

pub case_list : meaning_of (codes "case" ∷ codes "--list" ∷ []) ≡ Some (try_case case.list)
unfolding clap_on_literals command_meant
case_list = refl

pub case_without_port : meaning_of (codes "case" ∷ codes "all" ∷ []) ≡ None
unfolding clap_on_literals command_meant
case_without_port = refl

pub own_port : meaning_of (codes "drain" ∷ []) ≡ Some (drain 50051)
unfolding clap_on_literals command_meant
own_port = refl

pub port_twice : meaning_of (codes "self" ∷ codes "--port=5" ∷ codes "--port=6" ∷ []) ≡ None
unfolding clap_on_literals command_meant
port_twice = refl

pub wire_list : meaning_of (codes "wire" ∷ codes "--list" ∷ []) ≡ Some (try_wire list)
unfolding clap_on_literals command_meant
wire_list = refl

pub wire_cases :
    meaning_of (codes "wire" ∷ codes "grpc/4" ∷ codes "hpack" ∷ codes "--port=5"
    ∷ codes "--json" ∷ codes "-"
    ∷ codes "--skip=grpc/5,hpack/1" ∷ codes "--skip=flow" ∷ codes "--level=must" ∷ [])
    ≡ Some (try_wire (run (record {
      names = codes "grpc/4" ∷ codes "hpack" ∷ [];
      host = codes "127.0.0.1";
      port = 5;
      silence = 1000;
      limit = 10;
      jobs = 8;
      is_verbose = false;
      tracing = no_tracing;
      reporting = record no_reporting {
        json = Some (codes "-");
        skip = codes "grpc/5" ∷ codes "hpack/1" ∷ codes "flow" ∷ [];
        level = Some Must;
      };
    })))
unfolding clap_on_literals command_meant
wire_cases = refl

pub wire_list_of_cases :
    meaning_of (codes "wire" ∷ codes "all" ∷ codes "--list" ∷ codes "--port=5" ∷ [])
    ≡ None
unfolding clap_on_literals command_meant
wire_list_of_cases = refl

pub output_for_two :
    meaning_of (codes "wire" ∷ codes "all" ∷ codes "--port=5" ∷ codes "--tap"
    ∷ codes "--json=-" ∷ [])
    ≡ None
unfolding clap_on_literals command_meant
output_for_two = refl

pub level_of_no_name :
    meaning_of (codes "case" ∷ codes "all" ∷ codes "--port=5" ∷ codes "--level=may" ∷ [])
    ≡ None
unfolding clap_on_literals command_meant
level_of_no_name = refl

pub misbehaviours :
    meaning_of (codes "misbehave" ∷ codes "goaway" ∷ codes "ping" ∷ codes "--port=5"
    ∷ codes "--port-file=p" ∷ codes "--repeat=2" ∷ [])
    ≡ Some (misbehave (play (record {
      names = codes "goaway" ∷ codes "ping" ∷ [];
      host = codes "127.0.0.1";
      port = 5;
      seconds = 30;
      files = record no_files { port = Some (codes "p") };
      tracing = no_tracing;
      reporting = record no_reporting { repeat = 2 };
    })))
unfolding clap_on_literals command_meant
misbehaviours = refl

pub traced :
    meaning_of (codes "serve" ∷ codes "--any-port" ∷ codes "--trace" ∷ codes "--pcap=p"
    ∷ codes "--record" ∷ codes "d" ∷ [])
    ≡ Some (serve (record {
      host = codes "127.0.0.1";
      port = Any;
      connections = None;
      has_report = false;
      log = None;
      time = None;
      drains_on_eof = false;
      patience = 10;
      files = no_files;
      tracing = record { form = Some Short; lines = None; capture = Some (codes "p") };
      record_in = Some (codes "d");
    }))
unfolding clap_on_literals command_meant
traced = refl

pub trace_of_no_form :
    meaning_of (codes "case" ∷ codes "--trace" ∷ codes "all" ∷ codes "--port=5" ∷ [])
    ≡ None
unfolding clap_on_literals command_meant
trace_of_no_form = refl

pub frames_of_two :
    meaning_of (codes "frames" ∷ codes "a" ∷ codes "b" ∷ codes "--full"
    ∷ codes "--side=server" ∷ [])
    ≡ Some (tell_frames (record {
      files = codes "a" ∷ codes "b" ∷ [];
      side = Some Server;
      is_full = true;
    }))
unfolding clap_on_literals command_meant
frames_of_two = refl

pub frames_of_three : meaning_of (codes "frames" ∷ codes "a" ∷ codes "b" ∷ codes "c" ∷ []) ≡ None
unfolding clap_on_literals command_meant
frames_of_three = refl
