use Rattle.sw_recon.specs.declared.revert_end.RevertEnd.TheVariants.{Done, Unanswered}
use Rattle.sw_recon.specs.declared.status.Status.TheVariants.{Ends}
use Rattle.sw_recon.proofs.Firsts.{is-first}
use Rattle.sw_recon.proofs.Handed.{removes, stores}
use Rattle.sw_recon.proofs.Known.{known}
use Rattle.sw_recon.proofs.Sending.{may-send}
use Rattle.sw_recon.proofs.laws.revert_law.Goals as goal

pub returns-clause-done : goal.returns-clause-done
returns-clause-done c = λ begun past removed kept valid run is. known begun past (Ends (Done removed kept)) run is.1

pub returns-clause-unanswered : goal.returns-clause-unanswered
returns-clause-unanswered c = λ begun past device valid run is. known begun past (Ends (Unanswered device)) run is.1

pub returns-clause-stores : goal.returns-clause-stores
returns-clause-stores c = λ begun past sent place stamp index bytes valid run next is. stores begun past sent place stamp index bytes is run next

pub returns-clause-removes : goal.returns-clause-removes
returns-clause-removes c = λ begun past sent place entry valid run next is. removes begun past sent place entry is run next

pub returns-clause-sends : goal.returns-clause-sends
returns-clause-sends c = λ begun past sent valid run next. may-send begun past sent run next

pub returns-clause-first : goal.returns-clause-first
returns-clause-first c = λ begun past sent listing valid run own next. is-first begun valid past run listing own sent next
