-- A state by its fields.
use Rattle.sw_sync.specs.State.{State}
use Rattle.sw_sync.specs.declared.state.State.TheInside.{Inside}

abbrev pub state_seen : Inside → State
state_seen state = record { stage = state.stage; due = state.due.items }
