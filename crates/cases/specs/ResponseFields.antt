-- Which fields are no response: RFC 9113, sections 8.1, 8.2 and 8.3.2; and which begin one of gRPC:
-- gRPC over HTTP/2, "Responses". Names, values and fields of one connection are judged as those of
-- requests are.
use Rattle.std.specs.Prelude.{◌≡◌, ◌==◌, Bool, not, ◌&&◌, ◌||◌, List, count_by, Some, codes}
use Rattle.std.specs.List.{list_any}
use Rattle.lists.specs.declared.field.Field.{Field}
use Rattle.callhead.specs.Fields.{is_named, first_of}
use Rattle.callhead.specs.Heads.{IsGrpc}
use Rattle.callhead.specs.MalformedHeads.{
  has_bad_name,
  has_bad_value,
  is_connection_specific,
  is_pseudo_header,
  has_late_pseudo_header,
}

-- `te` speaks of one connection too, and a request alone may have it (section 8.2.2)
abbrev pub is_specific : Field → Bool
is_specific field = is_connection_specific field || is_named (codes "te") field

abbrev pub is_malformed_field : Field → Bool
is_malformed_field field = has_bad_name field || has_bad_value field || is_specific field

-- `:status` is the one pseudo-header of a response (section 8.3.2)
abbrev pub is_unknown : Field → Bool
is_unknown field = is_pseudo_header field && not (is_named (codes ":status") field)

abbrev pub has_one_status : List Field → Bool
has_one_status fields = count_by (is_named (codes ":status")) fields == 1

unfoldable pub is_malformed_head : List Field → Bool
is_malformed_head fields =
    list_any is_malformed_field fields || list_any is_unknown fields
    || has_late_pseudo_header fields || not (has_one_status fields)

-- trailers have no pseudo-headers (section 8.1)
unfoldable pub are_malformed_trailers : List Field → Bool
are_malformed_trailers fields =
    list_any is_malformed_field fields || list_any is_pseudo_header fields

-- `:status` is 200, and the content type begins with `application/grpc`
pub record IsGrpcHead (fields : List Field) : Type 0 where
  pub status : first_of (codes ":status") fields ≡ Some (codes "200")
  pub content_type : IsGrpc fields
