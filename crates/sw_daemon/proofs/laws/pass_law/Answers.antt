use Rattle.sw_daemon.proofs.Known.{sends}
use Rattle.sw_daemon.proofs.Whole.{whole}
use Rattle.sw_daemon.proofs.laws.pass_law.Goals as goal

pub returns-clause-sends : goal.returns-clause-sends
returns-clause-sends c = λ begun past sent valid run next. sends begun past sent run next

pub returns-clause-whole : goal.returns-clause-whole
returns-clause-whole c = λ begun past report valid run is distinct. whole begun past report valid run is distinct
