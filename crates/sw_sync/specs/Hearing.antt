-- What a stage makes of the first answer that is to be read.
use Rattle.std.specs.Prelude.{◌≡◌, List, ◌∷◌, Option}
use Rattle.sw_message.specs.declared.reply.Reply.{Reply}
use Rattle.sw_quorum.specs.Verdicts.{delete_verdict}
use Rattle.sw_gather.specs.Mailbox.{MailboxModel, Unread}
use Rattle.sw_sync.specs.Parts.{Burial, Heard}
use Rattle.sw_sync.specs.Sync.{buried, heard_from}
use Rattle.sw_sync.specs.declared.errand.Errand.{Errand}
use Rattle.sw_sync.specs.declared.errand.Errand.TheVariants.{Ask, Delete}

-- the first answer was that to an errand; it was taken out, and leads to something
pub record TookFirst (before after : MailboxModel Errand) (errand : Errand) (LeadsTo : Option Reply → Type 0) : Type 0 where
  pub answer : Option Reply
  pub later : List (Unread Errand)
  pub first : before.unread ≡ (errand, answer) ∷ later
  pub after_is : after ≡ record before { unread = later }
  pub leads_to : LeadsTo answer

-- where devices are asked, and where a tombstone goes to primaries, answers to other errands leave all as it was
abbrev pub asked : Heard → Errand → Option Reply → Heard
asked heard (Ask device) answer = heard_from heard device answer
asked heard other answer = heard

abbrev pub marked : Burial → Errand → Option Reply → Burial
marked burial (Delete device) answer = buried burial device (delete_verdict burial.stamp answer)
marked burial other answer = burial
