use Rattle.sw_message.proofs.Soundly.{learnt-more_deletes, learnt-more_puts, sound-learnt, told-passed, told-sound}
use Rattle.sw_message.proofs.laws.sound_law.Goals as goal

pub returns : goal.returns
returns c = record {
  sound = told-sound;
  told = told-passed;
  passes = sound-learnt;
  more_puts = λ policy learnt booked is. learnt-more_puts policy learnt is booked;
  more_deletes = λ policy learnt marked is. learnt-more_deletes policy learnt is marked;
}
