-- A mailbox by its fields.
use Rattle.sw_gather.specs.Mailbox.{MailboxModel}
use Rattle.sw_gather.specs.declared.mailbox.Mailbox.TheInside.{Inside}

abbrev pub mailbox_seen : {E : Type 0} → Inside E → MailboxModel E
mailbox_seen mailbox = record {
  tickets = mailbox.tickets;
  errands = mailbox.errands.items;
  waiting = mailbox.waiting;
  unread = mailbox.unread.items;
}
