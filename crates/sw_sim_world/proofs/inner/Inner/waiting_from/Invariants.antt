-- Each message from the first slot up to this one was delivered.
use Rattle.sw_sim_world.proofs.Sweeps.{EachBetween}
use Rattle.sw_sim_world.proofs.inner.Inner.waiting_from.Given as goal

abbrev pub invariant-slots : goal.invariant-slots
invariant-slots l = EachBetween l.letters l.from l.slot
