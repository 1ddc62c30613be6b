-- The head of the object that a request puts: its content type and its metadata.
use Rattle.std.specs.Prelude.{ℕ, ◌&&◌, if◌then◌else◌, nat_le, List, [], ◌∷◌, codes, length, take, drop, unwrap_or, Option, Some, None}
use Rattle.std.specs.List.{filter_map, fold}
use Rattle.std.specs.Str.{bytes_eq, str_eq_ignore_ascii_case, str_to_ascii_lowercase}
use Rattle.sw_types.specs.Head.{HeadModel, Pair}
use Rattle.sw_request.specs.Fields.{Field, last_value}

-- what the names of fields begin with that tell metadata
abbrev pub prefix : List ℕ
prefix = codes "x-object-meta-"

-- the pair that a field tells: the rest of its name, in lower case, and its value
abbrev pub pair_of : Field → Option Pair
pair_of field = if str_eq_ignore_ascii_case (take 14 field.0) prefix then Some (str_to_ascii_lowercase (drop 14 field.0), field.1) else None

-- pairs with one more behind them; where its name is there, with the new value in the old place
abbrev pub set_pair : List Pair → Pair → List Pair
set_pair [] pair = pair ∷ []
set_pair (first ∷ pairs) pair = if bytes_eq first.0 pair.0 then pair ∷ pairs else first ∷ set_pair pairs pair

abbrev pub pairs_in : List Field → List Pair
pairs_in fields = fold set_pair [] (filter_map pair_of fields)

-- the last one, or that of any bytes
abbrev pub content_type_in : List Field → List ℕ
content_type_in fields = unwrap_or (last_value (codes "content-type") fields) (codes "application/octet-stream")

abbrev pub head_in : List Field → HeadModel
head_in fields = record { content_type = content_type_in fields; pairs = pairs_in fields }
