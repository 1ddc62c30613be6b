use Rattle.std.proofs.Common.{◌≡◌, ℕ, None, sym, ap, subst, ◌∙◌}
use Rattle.sw_cell.specs.Handling.{MayReply}
use Rattle.sw_cell.specs.Locked.{LockedModel}
use Rattle.sw_cell.proofs.Ready.{may_reply, may_reply_mounted}
use Rattle.sw_cell.proofs.locked.Locked.handle.Goals.{else-self, then-self+in-Ok}
use Rattle.sw_cell.proofs.locked.Locked.handle.Goals as goal

pub reply-requires-clause-may : goal.reply-requires-clause-may
reply-requires-clause-may g c =
    let May : LockedModel g.row.D.Denot → Type 0 = λ one. MayReply g.C.OfCluster.cluster g.D.Disk.tells one.slot c.args.msg.now one.known in
    elim c.if-self.branch [
      | then-self+in-Ok w ↦
          let none : w.remount.new.self.known.owing ≡ None = sym (ap (λ (one : LockedModel g.row.D.Denot). one.known.owing) (c.self-2.view_is ∙ w.self-is)) ∙ c.self-2.invariant.none_owed in
          let may = may_reply_mounted _ _ _ _ c.requires.place _ _ c.requires.may w.in-Ok.ensures.added w.in-Ok.ensures.events none in
          subst May (sym w.self-is) (subst (λ (slot : ℕ). MayReply g.C.OfCluster.cluster g.D.Disk.tells slot c.args.msg.now w.remount.new.self.known) (sym w.in-Ok.ensures.slot.0) may)
      | else-self w ↦ subst May (sym w.self-is) (may_reply _ _ _ _ c.requires.place _ c.requires.may)
    ]
