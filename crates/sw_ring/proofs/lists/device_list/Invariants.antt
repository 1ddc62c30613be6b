use Rattle.std.proofs.Common.{◌≡◌, drop}
use Rattle.serde_json.specs.View.{items_view}
use Rattle.sw_ring.specs.Members.{device_of, each_item}
use Rattle.sw_ring.proofs.ItemByItem.{with_front}
use Rattle.sw_ring.proofs.lists.device_list.Given as goal

abbrev pub invariant-loop-item : goal.invariant-loop-item
invariant-loop-item l =
    with_front l.devices.items (each_item device_of (items_view (drop l.item-index l.item-items))) ≡ each_item device_of (items_view l.item-items)
