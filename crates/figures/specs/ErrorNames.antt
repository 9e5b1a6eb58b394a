-- The names of the error codes that RST_STREAM and GOAWAY carry: RFC 9113, section 7.
use Rattle.std.specs.Prelude.{ℕ, List, [], ◌∷◌, Option, slice_get, codes}

-- the names by their numbers, from 0 on
abbrev pub error_names : List (List ℕ)
error_names =
    codes "NO_ERROR" ∷ codes "PROTOCOL_ERROR" ∷ codes "INTERNAL_ERROR" ∷ codes "FLOW_CONTROL_ERROR"
    ∷ codes "SETTINGS_TIMEOUT"
    ∷ codes "STREAM_CLOSED" ∷ codes "FRAME_SIZE_ERROR" ∷ codes "REFUSED_STREAM" ∷ codes "CANCEL"
    ∷ codes "COMPRESSION_ERROR"
    ∷ codes "CONNECT_ERROR" ∷ codes "ENHANCE_YOUR_CALM" ∷ codes "INADEQUATE_SECURITY"
    ∷ codes "HTTP_1_1_REQUIRED" ∷ []

-- the name of a code, which has none from 14 on
abbrev pub name_of : ℕ → Option (List ℕ)
name_of code = slice_get error_names code
