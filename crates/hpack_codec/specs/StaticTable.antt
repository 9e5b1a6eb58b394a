-- The static table (RFC 7541, appendix A).
use Rattle.std.specs.Prelude.{ℕ, List, [], ◌∷◌, codes}
use Rattle.lists.specs.declared.field.Field.{Field}

abbrev pub entry : List ℕ → List ℕ → Field
entry name_bytes value_bytes = record { name = name_bytes; value = value_bytes }

-- the first of them has index 1
unfoldable pub static_table : List Field
static_table =
    entry (codes ":authority") []
    ∷ entry (codes ":method") (codes "GET")
    ∷ entry (codes ":method") (codes "POST")
    ∷ entry (codes ":path") (codes "/")
    ∷ entry (codes ":path") (codes "/index.html")
    ∷ entry (codes ":scheme") (codes "http")
    ∷ entry (codes ":scheme") (codes "https")
    ∷ entry (codes ":status") (codes "200")
    ∷ entry (codes ":status") (codes "204")
    ∷ entry (codes ":status") (codes "206")
    ∷ entry (codes ":status") (codes "304")
    ∷ entry (codes ":status") (codes "400")
    ∷ entry (codes ":status") (codes "404")
    ∷ entry (codes ":status") (codes "500")
    ∷ entry (codes "accept-charset") []
    ∷ entry (codes "accept-encoding") (codes "gzip, deflate")
    ∷ entry (codes "accept-language") []
    ∷ entry (codes "accept-ranges") []
    ∷ entry (codes "accept") []
    ∷ entry (codes "access-control-allow-origin") []
    ∷ entry (codes "age") []
    ∷ entry (codes "allow") []
    ∷ entry (codes "authorization") []
    ∷ entry (codes "cache-control") []
    ∷ entry (codes "content-disposition") []
    ∷ entry (codes "content-encoding") []
    ∷ entry (codes "content-language") []
    ∷ entry (codes "content-length") []
    ∷ entry (codes "content-location") []
    ∷ entry (codes "content-range") []
    ∷ entry (codes "content-type") []
    ∷ entry (codes "cookie") []
    ∷ entry (codes "date") []
    ∷ entry (codes "etag") []
    ∷ entry (codes "expect") []
    ∷ entry (codes "expires") []
    ∷ entry (codes "from") []
    ∷ entry (codes "host") []
    ∷ entry (codes "if-match") []
    ∷ entry (codes "if-modified-since") []
    ∷ entry (codes "if-none-match") []
    ∷ entry (codes "if-range") []
    ∷ entry (codes "if-unmodified-since") []
    ∷ entry (codes "last-modified") []
    ∷ entry (codes "link") []
    ∷ entry (codes "location") []
    ∷ entry (codes "max-forwards") []
    ∷ entry (codes "proxy-authenticate") []
    ∷ entry (codes "proxy-authorization") []
    ∷ entry (codes "range") []
    ∷ entry (codes "referer") []
    ∷ entry (codes "refresh") []
    ∷ entry (codes "retry-after") []
    ∷ entry (codes "server") []
    ∷ entry (codes "set-cookie") []
    ∷ entry (codes "strict-transport-security") []
    ∷ entry (codes "transfer-encoding") []
    ∷ entry (codes "user-agent") []
    ∷ entry (codes "vary") []
    ∷ entry (codes "via") []
    ∷ entry (codes "www-authenticate") []
    ∷ []
