use Rattle.std.proofs.Common.{◌≡◌, drop}
use Rattle.serde_json.specs.View.{items_view}
use Rattle.sw_ring.specs.Members.{each_item, whole_below}
use Rattle.sw_ring.proofs.ItemByItem.{with_front}
use Rattle.sw_ring.proofs.lists.row.Given as goal

abbrev pub invariant-loop-item : goal.invariant-loop-item
invariant-loop-item l =
    with_front l.ids.items (each_item (whole_below 65536) (items_view (drop l.item-index l.item-items))) ≡ each_item (whole_below 65536) (items_view l.item-items)
