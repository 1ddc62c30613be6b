use Rattle.std.proofs.Common.{◌≡◌, ◌++◌, map, take}
use Rattle.std.specs.List.{flat_map}
use Rattle.sw_httpwrite.specs.Response.{ended, field_line}
use Rattle.sw_httpwrite.proofs.head.push_fields.Given as goal

abbrev pub invariant-loop-field : goal.invariant-loop-field
invariant-loop-field l = l.head ≡ l.fn.head ++ flat_map ended (map field_line (take l.field-index l.fields))
