use Rattle.std.proofs.Common.{◌≡◌, inl, inr, sym, ◌∙◌, subst}
use Rattle.sw_message.specs.declared.reply.Reply.TheVariants.{DiskFault, NoMemory}
use Rattle.sw_pass.specs.Known.{history}
use Rattle.sw_cell.specs.Calling.{event_of, replied_events, shown}
use Rattle.sw_cell.specs.Handling.{HasAdded}
use Rattle.sw_cell.proofs.Adding.{latest, one_added}
use Rattle.sw_cell.proofs.Events.{reply_added}
use Rattle.sw_cell.proofs.Replying.{IsTestOf, due_after, is_kind, other_kind, reply_may, reply_more, reply_of, reply_still}
use Rattle.sw_cell.proofs.locked.Locked.reply.Goals as goal
use Rattle.sw_cell.proofs.locked.Locked.reply.Goals.{in-DiskFault, in-NoMemory, in_default, in_default-matches}

pub add_reply-requires-clause-may : goal.add_reply-requires-clause-may
add_reply-requires-clause-may g c =
    let handle = c.handle-reply in
    let all = reply_of g.D.Disk.seen g.D.Disk.left_since g.D.Disk.tells _ _ _ _ _ c.args.msg.now handle.result handle.new.self g.met.D.Disk.telling
    c.requires.cluster c.self.view_is c.requires.mounted c.self.invariant c.requires.place c.requires.may handle.ensures.node handle.ensures.handles in
    let wanted : IsTestOf NoMemory handle.result c.match-matches-2.matches = elim c.match-matches-2.branch [
      | in-NoMemory w ↦ inl (w.in-NoMemory.is, w.matches-is)
      | in_default-matches w ↦ inr (w.in_default-matches.not-NoMemory, w.matches-is)
    ] in
    let some = other_kind NoMemory handle.result c.match-matches-2.matches wanted c.if-not-matches.true in
    reply_may all some

pub invariant_of-self : goal.invariant_of-self
invariant_of-self g c =
    let handle = c.handle-reply in
    let all = reply_of g.D.Disk.seen g.D.Disk.left_since g.D.Disk.tells _ _ _ _ _ c.args.msg.now handle.result handle.new.self g.met.D.Disk.telling
    c.requires.cluster c.self.view_is c.requires.mounted c.self.invariant c.requires.place c.requires.may handle.ensures.node handle.ensures.handles in
    let wanted : IsTestOf NoMemory handle.result c.match-matches-2.matches = elim c.match-matches-2.branch [
      | in-NoMemory w ↦ inl (w.in-NoMemory.is, w.matches-is)
      | in_default-matches w ↦ inr (w.in_default-matches.not-NoMemory, w.matches-is)
    ] in
    let some = other_kind NoMemory handle.result c.match-matches-2.matches wanted c.if-not-matches.true in
    let failed : IsTestOf DiskFault handle.result c.match-matches.self = elim c.match-matches.branch [
      | in-DiskFault w ↦ inl (w.in-DiskFault.is, w.self-is)
      | in_default w ↦ inr (w.in_default.not-DiskFault, w.self-is)
    ] in
    let seat = c.add_reply.new.seat in
    reply_more all some c.match-matches.self (due_after all c.match-matches.self failed) seat.table seat.slot seat.known c.add_reply.ensures.table c.add_reply.ensures.known

pub invariant_of-self-else-not-matches : goal.invariant_of-self-else-not-matches
invariant_of-self-else-not-matches g c =
    let handle = c.handle-reply in
    let all = reply_of g.D.Disk.seen g.D.Disk.left_since g.D.Disk.tells _ _ _ _ _ c.args.msg.now handle.result handle.new.self g.met.D.Disk.telling
    c.requires.cluster c.self.view_is c.requires.mounted c.self.invariant c.requires.place c.requires.may handle.ensures.node handle.ensures.handles in
    let wanted : IsTestOf NoMemory handle.result c.match-matches-2.matches = elim c.match-matches-2.branch [
      | in-NoMemory w ↦ inl (w.in-NoMemory.is, w.matches-is)
      | in_default-matches w ↦ inr (w.in_default-matches.not-NoMemory, w.matches-is)
    ] in
    let failed : IsTestOf DiskFault handle.result c.match-matches.self = elim c.match-matches.branch [
      | in-DiskFault w ↦ inl (w.in-DiskFault.is, w.self-is)
      | in_default w ↦ inr (w.in_default.not-DiskFault, w.self-is)
    ] in
    reply_still all (is_kind NoMemory handle.result c.match-matches-2.matches wanted c.if-not-matches.false) c.match-matches.self (due_after all c.match-matches.self failed)

pub returns-then-not-matches-clause-added : goal.returns-then-not-matches-clause-added
returns-then-not-matches-clause-added g c =
    let seat = c.self.inside.seat in
    subst (λ locked. HasAdded locked.slot locked.known c.add_reply.new.seat.known) c.self.view_is (one_added seat.slot _ seat.known c.add_reply.new.seat.known c.add_reply.ensures.known)

pub returns-then-not-matches-clause-events : goal.returns-then-not-matches-clause-events
returns-then-not-matches-clause-events g c =
    let tells = g.D.Disk.tells in
    let msg = c.args.msg.now in
    let reply = c.handle-reply.result in
    let seat = c.self.inside.seat in
    let later = c.add_reply.new.seat.known in
    let wanted : IsTestOf NoMemory reply c.match-matches-2.matches = elim c.match-matches-2.branch [
      | in-NoMemory w ↦ inl (w.in-NoMemory.is, w.matches-is)
      | in_default-matches w ↦ inr (w.in_default-matches.not-NoMemory, w.matches-is)
    ] in
    let some = other_kind NoMemory reply c.match-matches-2.matches wanted c.if-not-matches.true in
    subst (λ locked. history later.histories locked.slot ≡ replied_events tells msg reply (history locked.known.histories locked.slot)) c.self.view_is
    (latest seat.slot (shown tells (event_of msg reply)) seat.known later c.add_reply.ensures.known ∙ sym (reply_added tells msg reply (history seat.known.histories seat.slot) some))
