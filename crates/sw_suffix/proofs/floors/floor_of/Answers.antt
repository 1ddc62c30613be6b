use Rattle.std.proofs.Common.{ap, sym, ◌∙◌}
use Rattle.std.specs.BTreeMap.{is_at}
use Rattle.std.specs.Map.{lookup}
use Rattle.sw_suffix.specs.Entries.{key_cmp, key_place}
use Rattle.sw_suffix.specs.declared.key.Key.{Key}
use Rattle.sw_suffix.proofs.Keys.{floor_found, key_again}
use Rattle.sw_suffix.proofs.floors.floor_of.Goals as goal

pub returns : goal.returns
returns c =
    let entries = c.args.floors.now.entries in
    let found = floor_found (key_place c.args.key.now) entries c.requires.sound ∙ ap (λ (key : Key). lookup (is_at (key_cmp key)) entries) (key_again c.args.key.now c.requires.key) in
    c.copied.ensures ∙ c.get.ensures.value ∙ sym found
