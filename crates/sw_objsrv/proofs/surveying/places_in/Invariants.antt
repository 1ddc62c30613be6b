use Rattle.std.proofs.Common.{map, string_bytes, take}
use Rattle.sw_hashpath.specs.Place.{IsPlace, folder_of}
use Rattle.sw_objsrv.proofs.ReadTexts.{AreRead}
use Rattle.sw_objsrv.proofs.surveying.places_in.Given as goal

abbrev pub invariant-loop-folder : goal.invariant-loop-folder
invariant-loop-folder l = AreRead (IsPlace l.power) folder_of (map string_bytes (take l.folder-index l.folders)) l.places.items
