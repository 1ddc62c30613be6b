use Rattle.std.proofs.Common.{◌++◌, List, [], ℕ, append_assoc, ap, sym, ◌∙◌}
use Rattle.md5.specs.Md5.{md5}
use Rattle.std.proofs.lemmas.List.{append-nil}
use Rattle.sw_suffix.specs.Entries.{Entries, floors_of}
use Rattle.sw_suffix.specs.Suffix.{floor_line, suffix_text}
use Rattle.sw_hashpath.specs.Place.{PlaceModel}
use Rattle.sw_suffix.proofs.Ranges.{range_is}
use Rattle.sw_suffix.proofs.floors.scratch_hash.Goals as goal

abbrev lines : Entries → List ℕ
lines entries = suffix_text (floors_of entries)

pub loop-key-init : goal.loop-key-init
loop-key-init c = (
  [],
  c.new-hasher.ensures,
  ap lines (c.into_iter-key-iterator.ensures.into_iter_gives ∙ c.range-key-items.ensures.between tt) ∙ ap suffix_text (range_is c.args.part c.args.suffix c.args.floors.now.entries c.requires.sound),
)

pub loop-key-preserved : goal.loop-key-preserved
loop-key-preserved c =
    let text = c.loop-key.invariant.0 in
    let line = floor_line c.place.result c.in-Some.floor.now in (
      text ++ line,
      c.add_line.ensures text c.loop-key.invariant.1,
      append_assoc text line (lines c.next.new.self)
          ∙ ap (λ (place : PlaceModel). text ++ (floor_line place c.in-Some.floor.now ++ lines c.next.new.self)) c.place.ensures
          ∙ ap (λ (entries : Entries). text ++ lines entries) (sym c.in-Some.ensures.steps)
          ∙ c.loop-key.invariant.2,
    )

pub returns : goal.returns
returns c =
    c.finalize.ensures c.loop-key.invariant.0 c.loop-key.invariant.1
    ∙ ap md5 (sym (append-nil c.loop-key.invariant.0) ∙ ap (λ (entries : Entries). c.loop-key.invariant.0 ++ lines entries) (sym c.in-None.ensures.steps.0) ∙ c.loop-key.invariant.2)
