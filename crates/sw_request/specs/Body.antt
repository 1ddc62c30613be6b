-- Requests whole: a head without a defect, and a body.
use Rattle.std.specs.Prelude.{◌≡◌, ◌≤◌, ◌==◌, ◌&&◌, not, Bool, false, ℕ, List, codes, length, Option, Some, None}
use Rattle.std.specs.List.{filter}
use Rattle.std.specs.Str.{bytes_eq, str_to_ascii_lowercase}
use Rattle.md5.specs.Md5.{md5}
use Rattle.hex.specs.Hex.{encode_lower}
use Rattle.sw_httpread.specs.Chunks.{greatest_body}
use Rattle.sw_httpread.specs.Request.{RequestHeadModel}
use Rattle.sw_request.specs.Fields.{last_value}
use Rattle.sw_request.specs.Refusal.{head_refusal, is_put}

pub record RequestModel : Type 0 where
  pub head : RequestHeadModel
  pub body : List ℕ

-- what can be answered by an operation
pub record IsSound (request : RequestModel) : Type 0 where
  pub head : head_refusal request.head ≡ None
  pub body : length request.body ≤ greatest_body

-- an entity tag without its double quotes, in lower case
abbrev pub tag_of : List ℕ → List ℕ
tag_of value = str_to_ascii_lowercase (filter (λ byte. not (byte == 34)) value)

-- the last ETag is that of other bytes
abbrev pub differs_in : List ℕ → Option (List ℕ) → Bool
differs_in body None = false
differs_in body (Some value) = not (bytes_eq (tag_of value) (encode_lower (md5 body)))

-- a put of a body whose MD5 isn't the one that it tells
abbrev pub has_other_tag : RequestModel → Bool
has_other_tag request = is_put request.head && differs_in request.body (last_value (codes "etag") request.head.fields)
