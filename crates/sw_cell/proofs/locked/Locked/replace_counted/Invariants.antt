use Rattle.sw_view.specs.declared.event.Event.TheVariants.{Replaced}
use Rattle.sw_cell.proofs.locked.Locked.replace_counted.Given as goal

abbrev pub ghosts-add_loss : goal.ghosts-add_loss
ghosts-add_loss g a = record { event = Replaced a.loss }
