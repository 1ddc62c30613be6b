-- What the answers to writes of a stamp mean.
use Rattle.std.specs.Prelude.{ℕ, Option, Some, None}
use Rattle.sw_message.specs.Floors.{refuses, stands_above}
use Rattle.sw_message.specs.Miss.{miss_of}
use Rattle.sw_message.specs.declared.miss.Miss.TheVariants as miss
use Rattle.sw_message.specs.declared.reply.Reply.{Reply}
use Rattle.sw_message.specs.declared.reply.Reply.TheVariants as reply
use Rattle.sw_quorum.specs.Answers.{forbidden_if}
use Rattle.sw_quorum.specs.declared.verdict.Verdict.{Verdict}
use Rattle.sw_quorum.specs.declared.verdict.Verdict.TheVariants.{Done, Missed}

-- to a fragment
abbrev pub store_verdict : ℕ → Option Reply → Verdict
store_verdict stamp None = Missed miss.NoReply
store_verdict stamp (Some reply.Synced) = Done
store_verdict stamp (Some (reply.Superseded floor)) = forbidden_if (stands_above floor stamp) floor
store_verdict stamp (Some other) = Missed (miss_of other)

-- to a commit
abbrev pub commit_verdict : ℕ → Option Reply → Verdict
commit_verdict stamp None = Missed miss.NoReply
commit_verdict stamp (Some reply.Committed) = Done
commit_verdict stamp (Some (reply.Superseded floor)) = forbidden_if (stands_above floor stamp) floor
commit_verdict stamp (Some reply.Missing) = Missed miss.Missing
commit_verdict stamp (Some other) = Missed (miss_of other)

-- to a delete
abbrev pub delete_verdict : ℕ → Option Reply → Verdict
delete_verdict stamp None = Missed miss.NoReply
delete_verdict stamp (Some (reply.Deleted existed)) = Done
delete_verdict stamp (Some (reply.Superseded floor)) = forbidden_if (refuses floor stamp) floor
delete_verdict stamp (Some other) = Missed (miss_of other)
