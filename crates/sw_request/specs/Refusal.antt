-- What a head is refused for: the first of its defects, in their order.
use Rattle.std.specs.Prelude.{ℕ, ◌==◌, Bool, true, false, not, ◌&&◌, ◌||◌, if◌then◌else◌, is_none, is_some, nat_lt, List, codes, length, Option, Some, None}
use Rattle.std.specs.Option.{option_or}
use Rattle.std.specs.Str.{bytes_eq}
use Rattle.percent_encoding.specs.Percent.{percent_decode}
use Rattle.sw_types.specs.Head.{head_fault}
use Rattle.sw_types.specs.Name.{NameModel}
use Rattle.sw_httpread.specs.Chunks.{greatest_body}
use Rattle.sw_httpread.specs.Request.{RequestHeadModel}
use Rattle.sw_httpread.specs.declared.body.Framing.{Framing}
use Rattle.sw_httpread.specs.declared.body.Framing.TheVariants as framing
use Rattle.sw_request.specs.Fields.{is_current, values_of}
use Rattle.sw_request.specs.Framing.{framing_of}
use Rattle.sw_request.specs.Metadata.{head_in}
use Rattle.sw_request.specs.Target.{has_nul, has_whole_escapes, is_no_text, is_too_long, parts_in, path_in, some_part}
use Rattle.sw_request.specs.declared.method.Method.{Method}
use Rattle.sw_request.specs.declared.method.Method.TheVariants.{Delete, Get, Head, Put}
use Rattle.sw_request.specs.declared.refusal.BadInput.{BadInput}
use Rattle.sw_request.specs.declared.refusal.BadInput.TheVariants as bad
use Rattle.sw_request.specs.declared.refusal.Refusal.{Refusal}
use Rattle.sw_request.specs.declared.refusal.Refusal.TheVariants as refusal

-- ---- methods

abbrev pub method_name : Method → List ℕ
method_name Delete = codes "DELETE"
method_name Get = codes "GET"
method_name Head = codes "HEAD"
method_name Put = codes "PUT"

-- the method of this name, whose case counts (RFC 9110, section 9.1)
abbrev pub method_of : List ℕ → Option Method
method_of text =
    if bytes_eq text (codes "DELETE") then Some Delete
    else if bytes_eq text (codes "GET") then Some Get
    else if bytes_eq text (codes "HEAD") then Some Head
    else if bytes_eq text (codes "PUT") then Some Put
    else None

abbrev pub is_put : RequestHeadModel → Bool
is_put head = bytes_eq head.method (codes "PUT")

-- ---- refusals, each of a part of the head

-- HTTP/1.1 with other than one Host field (RFC 9112, section 3.2)
abbrev pub host_refusal : RequestHeadModel → Option Refusal
host_refusal head = if is_current head && not (length (values_of (codes "host") head.fields) == 1) then Some refusal.BadHost else None

abbrev pub framing_refusal : RequestHeadModel → Option Refusal
framing_refusal head = if is_none (framing_of head) then Some refusal.BadFraming else None

abbrev pub method_refusal : RequestHeadModel → Option Refusal
method_refusal head = if is_none (method_of head.method) then Some refusal.Method else None

-- tried over all parts, one test after the other
abbrev pub parts_refusal : Option NameModel → Option Refusal
parts_refusal None = Some refusal.NoObjectPath
parts_refusal (Some parts) =
    if some_part is_no_text parts then Some refusal.NotUtf8
    else if some_part has_nul parts then Some refusal.Nul
    else if some_part is_too_long parts then Some refusal.NameTooLong
    else None

abbrev pub target_refusal : List ℕ → Option Refusal
target_refusal target = if not (has_whole_escapes (path_in target)) then Some refusal.BadEscape else parts_refusal (parts_in (percent_decode (path_in target)))

-- a put tells its length, and no body is too large
abbrev pub length_refusal : Bool → Option Framing → Option Refusal
length_refusal put (Some framing.None) = if put then Some refusal.LengthRequired else None
length_refusal put (Some (framing.Length n)) = if nat_lt greatest_body n then Some refusal.TooLarge else None
length_refusal put other = None

-- what is put keeps the rules of heads
abbrev pub metadata_refusal : RequestHeadModel → Option Refusal
metadata_refusal head = if is_put head && is_some (head_fault (head_in head.fields)) then Some refusal.BadMeta else None

-- the first of those from the target on
abbrev pub later_refusal : RequestHeadModel → Option Refusal
later_refusal head = option_or (target_refusal head.target) (option_or (length_refusal (is_put head) (framing_of head)) (metadata_refusal head))

-- the first of them
abbrev pub head_refusal : RequestHeadModel → Option Refusal
head_refusal head =
    option_or (host_refusal head)
    (option_or (framing_refusal head)
    (option_or (method_refusal head) (later_refusal head)))

-- the name that a head without a defect has
abbrev pub name_in : RequestHeadModel → Option NameModel
name_in head = parts_in (percent_decode (path_in head.target))

-- ---- what is refused without a head, or without a body

abbrev pub refusal_of : BadInput → Refusal
refusal_of bad.BadHead = refusal.BadHead
refusal_of bad.HeadTooLarge = refusal.HeadTooLarge
refusal_of bad.BadChunk = refusal.BadChunk
refusal_of bad.TooLarge = refusal.TooLarge
