use Rattle.std.proofs.Common.{◌≡◌, Some, ap, refl, subst, sym, ◌∙◌}
use Rattle.sw_ring.specs.Cluster.{ClusterModel}
use Rattle.sw_message.specs.Learnt.{Learnt}
use Rattle.sw_message.specs.Running.{StillTells}
use Rattle.sw_message.specs.Warrant.{IsWarranted}
use Rattle.sw_pass.specs.declared.known.Known.{Known}
use Rattle.sw_local.specs.Link.{LocalModel, told_by}
use Rattle.sw_local.proofs.Hearing.{hears_after, knows_after, may_call, tells_after}
use Rattle.sw_local.proofs.link.LocalLinkLink.call.Goals as goal

pub call-reply-requires-clause-known : goal.call-reply-requires-clause-known
call-reply-requires-clause-known g c = c.requires.known g.C.OfCluster.cluster refl

pub call-reply-requires-clause-warranted : goal.call-reply-requires-clause-warranted
call-reply-requires-clause-warranted g c =
    let cluster : ClusterModel = g.C.OfCluster.cluster in
    let same : c.self.inside.pass.known ≡ c.args.self.now.known = ap (λ (it : LocalModel g.row.T.Denot). it.known) c.self.view_is in
    may_call cluster g.D.Disk.tells c.args.msg.now c.self.inside.pass.known c.self.invariant.1
    (subst (λ (known : Known). (of : ClusterModel) (learnt : Learnt) → Some cluster ≡ Some of → told_by cluster g.D.Disk.tells known ≡ Some learnt → IsWarranted of learnt c.args.msg.now)
    (sym same) c.requires.warranted)

pub invariant_of-self-2 : goal.invariant_of-self-2
invariant_of-self-2 g c = (
  c.call-reply.ensures.table ∙ c.self.invariant.0,
  knows_after g.C.OfCluster.cluster g.D.Disk.tells c.args.device c.args.msg.now c.call-reply.result c.self.inside.pass.known c.call-reply.new.pass.known c.call-reply.ensures.called,
)

pub returns-clause-tells : goal.returns-clause-tells
returns-clause-tells g c =
    let after : Known = c.call-reply.new.pass.known in
    let same : c.self.inside.pass.known ≡ c.args.self.now.known = ap (λ (it : LocalModel g.row.T.Denot). it.known) c.self.view_is in
    subst (λ (known : Known). StillTells ⊥ (told_by g.C.OfCluster.cluster g.D.Disk.tells known) (told_by g.C.OfCluster.cluster g.D.Disk.tells after)) same
    (tells_after g.C.OfCluster.cluster g.D.Disk.tells c.args.device c.args.msg.now c.call-reply.result c.self.inside.pass.known after c.call-reply.ensures.called c.self.invariant.1)

pub returns-clause-hears : goal.returns-clause-hears
returns-clause-hears g c = hears_after g.C.OfCluster.cluster g.D.Disk.tells c.args.device c.args.msg.now c.call-reply.result c.self.inside.pass.known c.call-reply.new.pass.known c.call-reply.ensures.called
    (c.requires.known g.C.OfCluster.cluster refl).member
