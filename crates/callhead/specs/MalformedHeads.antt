-- Which fields aren't a request's, and which aren't its trailers: RFC 9113, sections 8.1, 8.2,
-- 8.2.1, 8.2.2, 8.3 and 8.3.1.
use Rattle.std.specs.Prelude.{
  ℕ,
  ◌-◌,
  ◌==◌,
  nat_lt,
  nat_le,
  Bool,
  false,
  not,
  ◌&&◌,
  ◌||◌,
  List,
  [],
  ◌∷◌,
  length,
  drop,
  count_by,
  Option,
  Some,
  None,
  is_none,
  slice_get,
  bytes_eq,
  codes,
}
use Rattle.std.specs.List.{list_any, prefix_len}
use Rattle.lists.specs.declared.field.Field.{Field}
use Rattle.callhead.specs.Fields.{is_named, first_of}

-- ---- names (section 8.2.1)

-- 00 to 20, `A` to `Z`, and 7F to FF
abbrev pub is_forbidden_in_names : ℕ → Bool
is_forbidden_in_names byte =
    nat_le byte 0x20 || (nat_le 0x41 byte && nat_le byte 0x5A) || nat_le 0x7F byte

-- the name is empty, has such a byte, or a colon that isn't its first byte
abbrev pub has_bad_name : Field → Bool
has_bad_name field =
    (length field.name == 0) || list_any is_forbidden_in_names field.name
    || list_any (λ byte. byte == 0x3A) (drop 1 field.name)

-- ---- values (section 8.2.1)

-- a space or a tab
abbrev pub is_blank : Option ℕ → Bool
is_blank None = false
is_blank (Some byte) = (byte == 0x20) || (byte == 0x09)

-- 00, a line feed or a return
abbrev pub is_forbidden_in_values : ℕ → Bool
is_forbidden_in_values byte = (byte == 0x00) || (byte == 0x0A) || (byte == 0x0D)

-- the value has such a byte, or a blank at an end
abbrev pub has_bad_value : Field → Bool
has_bad_value field =
    list_any is_forbidden_in_values field.value || is_blank (slice_get field.value 0)
    || is_blank (slice_get field.value (length field.value - 1))

-- ---- fields of one connection (section 8.2.2)

abbrev pub is_connection_specific : Field → Bool
is_connection_specific field =
    is_named (codes "connection") field || is_named (codes "proxy-connection") field
    || is_named (codes "keep-alive") field
    || is_named (codes "transfer-encoding") field || is_named (codes "upgrade") field

abbrev pub is_other_te : Field → Bool
is_other_te field = is_named (codes "te") field && not (bytes_eq field.value (codes "trailers"))

-- ---- pseudo-headers (sections 8.3 and 8.3.1)

-- the names of a request's pseudo-headers
abbrev pub pseudo_headers : List (List ℕ)
pseudo_headers = codes ":method" ∷ codes ":scheme" ∷ codes ":path" ∷ codes ":authority" ∷ []

-- those that each request has
abbrev pub required_headers : List (List ℕ)
required_headers = codes ":method" ∷ codes ":scheme" ∷ codes ":path" ∷ []

-- a name that begins with a colon
abbrev pub begins_with_colon : List ℕ → Bool
begins_with_colon [] = false
begins_with_colon (first ∷ others) = first == 0x3A

abbrev pub is_pseudo_header : Field → Bool
is_pseudo_header field = begins_with_colon field.name

abbrev pub is_unknown : Field → Bool
is_unknown field =
    is_pseudo_header field && not (list_any (λ (name : List ℕ). is_named name field) pseudo_headers)

abbrev pub is_empty_path : Field → Bool
is_empty_path field = is_named (codes ":path") field && (length field.value == 0)

-- a pseudo-header comes after the longest front of pseudo-headers
abbrev pub has_late_pseudo_header : List Field → Bool
has_late_pseudo_header fields =
    list_any is_pseudo_header (drop (prefix_len is_pseudo_header fields) fields)

abbrev pub is_repeated : List Field → List ℕ → Bool
is_repeated fields name = nat_lt 1 (count_by (is_named name) fields)

abbrev pub is_missing : List Field → List ℕ → Bool
is_missing fields name = is_none (first_of name fields)

-- ---- all causes

abbrev pub is_malformed_field : Field → Bool
is_malformed_field field =
    has_bad_name field || has_bad_value field || is_connection_specific field || is_other_te field
    || is_unknown field || is_empty_path field

unfoldable pub is_malformed : List Field → Bool
is_malformed fields =
    list_any is_malformed_field fields || has_late_pseudo_header fields
    || list_any (is_repeated fields) pseudo_headers || list_any (is_missing fields) required_headers

-- ---- trailers (section 8.1): there are no pseudo-headers among them

abbrev pub is_malformed_trailer : Field → Bool
is_malformed_trailer field =
    has_bad_name field || has_bad_value field || is_connection_specific field || is_other_te field
    || is_pseudo_header field

unfoldable pub are_malformed_trailers : List Field → Bool
are_malformed_trailers fields = list_any is_malformed_trailer fields
