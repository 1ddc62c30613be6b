-- Where the body of a request ends, and whether its client waits for leave to send it (RFC 9112, section 6; RFC 9110, section 10.1.1).
use Rattle.std.specs.Prelude.{ℕ, ◌==◌, Bool, true, false, ◌&&◌, nat_le, nat_lt, List, [], ◌∷◌, codes, length, if◌then◌else◌, Option, Some, None, option_map}
use Rattle.std.specs.List.{list_any}
use Rattle.std.specs.Str.{all_ascii_digits, str_eq_ignore_ascii_case}
use Rattle.std.specs.Str.Parse.{digits_value}
use Rattle.sw_httpread.specs.Request.{RequestHeadModel}
use Rattle.sw_httpread.specs.declared.body.Framing.{Framing}
use Rattle.sw_httpread.specs.declared.body.Framing.TheVariants as framing
use Rattle.sw_request.specs.Fields.{is_current, values_of}

-- a number of bytes: 1 to 18 decimal digits
abbrev pub length_of : List ℕ → Option ℕ
length_of text = if nat_lt 0 (length text) && nat_le (length text) 18 && all_ascii_digits text then Some (digits_value 10 text) else None

-- how the values of Content-Length and of Transfer-Encoding tell it, where they are in form: one of the two at most, and once
abbrev pub framing_by : Bool → List (List ℕ) → List (List ℕ) → Option Framing
framing_by current [] [] = Some framing.None
framing_by current (text ∷ []) [] = option_map (λ n. framing.Length n) (length_of text)
framing_by current [] (coding ∷ []) = if current && str_eq_ignore_ascii_case coding (codes "chunked") then Some framing.Chunked else None
framing_by current lengths codings = None

abbrev pub framing_of : RequestHeadModel → Option Framing
framing_of head = framing_by (is_current head) (values_of (codes "content-length") head.fields) (values_of (codes "transfer-encoding") head.fields)

-- there is a body to come
abbrev pub has_body : Framing → Bool
has_body framing.None = false
has_body (framing.Length n) = nat_lt 0 n
has_body framing.Chunked = true

-- the client waits for 100 Continue before it sends the body
abbrev pub is_waiting : RequestHeadModel → Framing → Bool
is_waiting head how =
    is_current head && has_body how && list_any (λ value. str_eq_ignore_ascii_case value (codes "100-continue")) (values_of (codes "expect") head.fields)
