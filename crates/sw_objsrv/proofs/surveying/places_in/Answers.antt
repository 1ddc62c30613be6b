use Rattle.std.proofs.Common.{◌≡◌, List, Vec, Global, Some, string_bytes, sym, ap, ◌∙◌, arith}
use Rattle.std.proofs.lemmas.Option.{none-some}
use Rattle.sw_hashpath.specs.Place.{IsPlace, PlaceModel, folder_of}
use Rattle.sw_objsrv.proofs.ReadTexts.{read_here, read_none, read_past, read_whole}
use Rattle.sw_objsrv.proofs.surveying.places_in.Goals as goal
use Rattle.sw_objsrv.proofs.surveying.places_in.Goals.{in-Some+in_ok-push, in_default}

abbrev items_of : Vec PlaceModel Global → List PlaceModel
items_of v = v.items

only_one : (a b : PlaceModel) → Some a ≡ Some b → b ≡ a
only_one a b is = cc

pub loop-folder-init : goal.loop-folder-init
loop-folder-init c = rw c.new-places.ensures.items (read_none (IsPlace c.args.power) folder_of)

pub loop-folder-preserved : goal.loop-folder-preserved
loop-folder-preserved c =
    let spelled = sym c.as_str.ensures.value in
    elim c.match-read_folder.branch [
      | in-Some+in_ok-push w ↦
          read_here (IsPlace c.args.power) folder_of string_bytes c.args.folders.now c.loop-folder.folder-index c.folder-item.result c.loop-folder-test.true c.folder-item.is c.loop-folder.places.items c.loop-folder.invariant
          c.match-read_folder.places.items w.in-Some.place (ap items_of w.places-is ∙ w.in_ok-push.ensures.items) w.in-Some.ensures.found.1 (spelled ∙ w.in-Some.ensures.found.0)
          (λ other is named. only_one w.in-Some.place other (sym w.in-Some.is ∙ c.read_folder.ensures.reads other is (sym spelled ∙ named)))
      | in_default w ↦
          read_past (IsPlace c.args.power) folder_of string_bytes c.args.folders.now c.loop-folder.folder-index c.folder-item.result c.loop-folder-test.true c.folder-item.is c.loop-folder.places.items c.loop-folder.invariant
          c.match-read_folder.places.items (ap items_of w.places-is)
          (λ place is named. none-some place (sym w.in_default.is ∙ c.read_folder.ensures.reads place is (sym spelled ∙ named)))
    ]

pub returns : goal.returns
returns c = λ place. (read_whole (IsPlace c.args.power) folder_of string_bytes c.args.folders.now c.loop-folder.folder-index c.loop-folder.places.items (omega arith) c.loop-folder.invariant).all place
