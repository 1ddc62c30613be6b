use Rattle.std.proofs.Common.{rules}
use Rattle.sw_pass.proofs.Looks.{splits_note}
use Rattle.sw_pass.proofs.node_seat.NodeSeat.note.Goals as goal

pub split_seat-requires : goal.split_seat-requires
split_seat-requires g c = (search rules, search rules, splits_note _ _ _)
