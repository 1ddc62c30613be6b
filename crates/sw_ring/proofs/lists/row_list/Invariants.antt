use Rattle.std.proofs.Common.{◌≡◌, drop, map}
use Rattle.serde_json.specs.View.{items_view}
use Rattle.sw_ring.specs.Members.{each_item, list_of, whole_below}
use Rattle.sw_ring.proofs.ItemByItem.{with_front}
use Rattle.sw_ring.proofs.lists.row_list.Given as goal

abbrev pub invariant-loop-item : goal.invariant-loop-item
invariant-loop-item l =
    with_front (map (λ row. row.items) l.rows.items) (each_item (list_of (whole_below 65536)) (items_view (drop l.item-index l.item-items))) ≡ each_item (list_of (whole_below 65536)) (items_view l.item-items)
