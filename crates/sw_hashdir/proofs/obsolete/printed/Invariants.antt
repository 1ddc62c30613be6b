use Rattle.std.proofs.Common.{◌≡◌, map, take, string_bytes}
use Rattle.std.specs.List.{All}
use Rattle.sw_hashpath.specs.FileName.{file_name_text}
use Rattle.sw_hashdir.proofs.obsolete.printed.Given as goal

abbrev pub invariant-loop-name : goal.invariant-loop-name
invariant-loop-name l = record {
  names : map (λ text. text.1) l.texts.items ≡ take l.name-index l.names;
  texts : All (λ text. string_bytes text.0 ≡ file_name_text text.1) l.texts.items;
}
