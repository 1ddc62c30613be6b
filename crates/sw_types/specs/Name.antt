-- Names of objects: an account, a container and an object.
use Rattle.std.specs.Prelude.{ℕ, ◌==◌, Bool, true, false, not, ◌&&◌, if◌then◌else◌, nat_eq, nat_lt, List, ◌∷◌, ◌++◌, length, Option, Some, None}
use Rattle.std.specs.Cmp.Lexicographic.{pointwise}
use Rattle.std.specs.List.{list_any}
use Rattle.std.specs.Option.{option_or}
use Rattle.std.specs.Str.{is_utf8}
use Rattle.sw_types.specs.declared.name.Part.{Part}
use Rattle.sw_types.specs.declared.name.Part.TheVariants.{Account, Container, Object}
use Rattle.sw_types.specs.declared.name.NameFault.{NameFault}
use Rattle.sw_types.specs.declared.name.NameFault.TheVariants.{Empty, TooLong, NotUtf8, Nul, Slash}

-- the bytes of the three parts
pub record NameModel : Type 0 where
  pub account : List ℕ
  pub container : List ℕ
  pub object : List ℕ

-- whether two names have the same parts
abbrev pub name_eq : NameModel → NameModel → Bool
name_eq a b = pointwise nat_eq a.account b.account && (pointwise nat_eq a.container b.container && pointwise nat_eq a.object b.object)

-- the greatest number of bytes of a part
abbrev pub most_bytes : Part → ℕ
most_bytes Account = 256
most_bytes Container = 256
most_bytes Object = 1024

-- an object may hold slashes
abbrev pub may_hold_slash : Part → Bool
may_hold_slash Account = false
may_hold_slash Container = false
may_hold_slash Object = true

-- the first fault of a part
abbrev pub part_fault : Part → List ℕ → Option NameFault
part_fault part text =
    if length text == 0 then Some (Empty part)
    else if nat_lt (most_bytes part) (length text) then Some (TooLong part (length text))
    else if not (is_utf8 text) then Some (NotUtf8 part)
    else if list_any (λ byte. byte == 0) text then Some (Nul part)
    else if not (may_hold_slash part) && list_any (λ byte. byte == 47) text then Some (Slash part)
    else None

-- the first fault of the parts of a name, in their order
abbrev pub name_fault : NameModel → Option NameFault
name_fault parts = option_or (part_fault Account parts.account)
    (option_or (part_fault Container parts.container) (part_fault Object parts.object))

-- the parts, each behind a slash
abbrev pub path_of : NameModel → List ℕ
path_of parts = 47 ∷ parts.account ++ 47 ∷ parts.container ++ 47 ∷ parts.object
