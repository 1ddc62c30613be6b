use Rattle.std.proofs.Common.{rules}
use Rattle.sw_pass.proofs.Events.{claims_slot}
use Rattle.sw_pass.proofs.Nodes.{claimed_by}
use Rattle.sw_pass.proofs.note.Note.claim.Goals as goal

pub compare_exchange-found-requires : goal.compare_exchange-found-requires
compare_exchange-found-requires g c = (search rules, search rules, claims_slot _ _ _ _ _ _ (search rules) (search rules))

pub of-requires : goal.of-requires
of-requires g c = (search rules, claimed_by c.args.position c.compare_exchange-found.result c.into_seat-seat.result.me.0 c.compare_exchange-found.new.seat.me.0 (search rules) (search rules), search rules)
