-- What a reply is a miss of.
use Rattle.sw_message.specs.declared.miss.Miss.{Miss}
use Rattle.sw_message.specs.declared.miss.Miss.TheVariants as miss
use Rattle.sw_message.specs.declared.reply.Reply.{Reply}
use Rattle.sw_message.specs.declared.reply.Reply.TheVariants as reply

-- a refusal that each message can have, or else an odd reply
abbrev pub miss_of : Reply → Miss
miss_of reply.DiskFault = miss.DiskFault
miss_of (reply.NoSpace need free) = miss.NoSpace need free
miss_of reply.NoMemory = miss.NoMemory
miss_of (reply.Spoiled spoil) = miss.Spoiled spoil
miss_of other = miss.Odd
