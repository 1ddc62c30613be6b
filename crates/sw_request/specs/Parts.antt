-- The parts of a path, as names see them.
use Rattle.std.specs.Prelude.{◌&&◌, Bool, Option, length, nat_lt, option_map}
use Rattle.sw_types.specs.Name.{NameModel}
use Rattle.sw_request.specs.declared.target.Parts.{Parts}

abbrev pub parts_of : Parts → NameModel
parts_of parts = record { account = parts.account.now; container = parts.container.now; object = parts.object.now }

abbrev pub found_parts : Option Parts → Option NameModel
found_parts parts = option_map parts_of parts

-- no part is empty
abbrev pub are_full : NameModel → Bool
are_full parts = nat_lt 0 (length parts.account) && nat_lt 0 (length parts.container) && nat_lt 0 (length parts.object)
