-- The answer of a source is read.
use Rattle.std.proofs.Common.{List, drop, sym, ap, subst, ◌∙◌}
use Rattle.sw_message.specs.Transcript.{Step}
use Rattle.sw_get.specs.Get.{Begun}
use Rattle.sw_get.specs.GetInside.{get_seen}
use Rattle.sw_gather.specs.Mailbox.{Unread}
use Rattle.sw_get.specs.Standing.{BeginsWith, GetModel, Stands}
use Rattle.sw_get.specs.declared.errand.Errand.TheVariants.{Fetch}
use Rattle.sw_get.specs.declared.errand.Errand.{Errand}
use Rattle.sw_get.proofs.Readings.{begins, stands_fetched, with_read}
use Rattle.sw_get.proofs.get.GetOp.read_fetched.Goals as goal

stood : (c : goal.After-drop_first) (begun : Begun) (past : List Step) → Stands (get_seen c.self.inside) begun past
    → Stands (with_read (get_seen c.self.inside) c.target_fetched-self-inside.result c.hear_fetched.new.self.facts c.hear_fetched.new.self.object c.drop_first.new.self) begun past
stood c begun past stands =
    let get = get_seen c.self.inside in
    let first = c.in-Some.ensures in
    let heard = c.in_ok-hear_fetched.ensures.ok in
    let errand = Fetch c.args.stamp c.args.source in
    let starts : BeginsWith get.mailbox.unread errand = subst (λ (get : GetModel). BeginsWith get.mailbox.unread errand) (sym c.self.view_is) c.requires in
    stands_fetched get begun past stands c.in-Some.field-0.now.1 first.0 c.target_fetched-self-inside.result c.hear_fetched.new.self.facts c.hear_fetched.new.self.object c.drop_first.new.self
    (c.drop_first.ensures ∙ ap (λ (unread : List (Unread Errand)). record c.self.inside.mailbox { unread = drop 1 unread }) first.1)
    c.args.stamp c.args.source heard.0 (begins get.mailbox.unread errand c.in-Some.field-0.now.0 c.in-Some.field-0.now.1 first.0 starts first.1)
    heard.1 c.target_fetched-self-inside.ensures heard.2 c.in_ok-hear_fetched.ensures.object

pub invariant_of-self-2 : goal.invariant_of-self-2
invariant_of-self-2 c = let known = c.self.invariant in (known.0, known.1, stood c known.0 known.1 known.2)

pub returns-clause-stands : goal.returns-clause-stands
returns-clause-stands c = λ begun past stands. stood c begun past (subst (λ (get : GetModel). Stands get begun past) (sym c.self.view_is) stands)
