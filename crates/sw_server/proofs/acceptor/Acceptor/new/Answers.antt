use Rattle.sw_server.proofs.Comings.{none_yet}
use Rattle.sw_server.proofs.acceptor.Acceptor.new.Goals as goal

pub invariant_of-result : goal.invariant_of-result
invariant_of-result g c = record { same_borrow = c.requires.borrow; same_table = c.requires.table; has_served = none_yet _ _ _ _ _ _ c.requires.began c.requires.opened }
