-- An archive is brought, or strays.
use Rattle.std.proofs.Common.{◌≡◌, ◌++◌, List, ap, subst, ◌∙◌}
use Rattle.std.specs.Prelude.{OnOk}
use Rattle.sw_archive.specs.Archive.{ArchiveModel}
use Rattle.sw_message.specs.declared.miss.Miss.TheVariants.{Spoiled}
use Rattle.sw_message.specs.declared.spoil.Foreign.TheVariants.{Object}
use Rattle.sw_message.specs.declared.spoil.Spoil.TheVariants.{Foreign}
use Rattle.sw_gather.specs.Gathered.{GatheredModel, Joins, Strays}
use Rattle.sw_sync.specs.declared.errand.Errand.{Errand}
use Rattle.sw_sync.specs.Parts.{Repair}
use Rattle.sw_sync.specs.RepairInside.{repair_seen}
use Rattle.sw_sync.specs.Sync.{Brings, IsJoined, Loses, brought, due_brought, due_fetched, fetched}
use Rattle.sw_sync.proofs.Replies.{joined, told}
use Rattle.sw_sync.proofs.repair.Repair.bring.Goals as goal

pub returns-then-not-branch-clause-ok : goal.returns-then-not-branch-clause-ok
returns-then-not-branch-clause-ok c =
    let stray = subst (λ joined. Joins c.args.policy.now c.self.inside.gathered c.args.archive joined c.join.new.self) c.if-not-branch.true c.in_ok-join.ensures.joined in
    let same = ap (λ (gathered : GatheredModel). record (repair_seen c.self.inside) { archives = gathered.archives }) stray.kept ∙ c.self.view_is in
    let how = Spoiled (Foreign Object) in
    told c.lose.result (IsJoined c.args.policy.now c.args.self.now c.args.archive) c.args.policy.now.k c.args.self.now c.lose.new.self c.args.source c.args.due.now.items c.lose.new.due.items
    how (subst (λ (repair : Repair). Strays c.args.policy.now repair.archives c.args.archive) c.self.view_is stray.strays)
    (subst (λ (items : List Errand). OnOk c.lose.result ((c.lose.new.self ≡ fetched c.args.self.now c.args.source (Loses how)) × (c.lose.new.due.items ≡ items ++ due_fetched 0 c.args.self.now c.args.source (Loses how)))) c.in_ok-reserve.ensures.items
    (subst (λ (repair : Repair). OnOk c.lose.result ((c.lose.new.self ≡ fetched repair c.args.source (Loses how)) × (c.lose.new.due.items ≡ c.reserve.new.self.items ++ due_fetched 0 repair c.args.source (Loses how)))) same c.lose.ensures.ok))

pub returns-clause-ok : goal.returns-clause-ok
returns-clause-ok c =
    let beside = subst (λ joined. Joins c.args.policy.now c.self.inside.gathered c.args.archive joined c.join.new.self) c.if-not-branch.false c.in_ok-join.ensures.joined in
    let archives = ap (λ (gathered : GatheredModel). gathered.archives) c.take_object.ensures.left ∙ beside.archives in
    let same = ap (λ (these : List ArchiveModel). record (repair_seen c.self.inside) { archives = these }) archives ∙ ap (λ repair. brought repair c.args.archive) c.self.view_is in (
      Brings c.args.archive,
      joined c.args.policy.now c.args.self.now c.self.inside.gathered c.join.new.self c.args.archive (ap (λ (repair : Repair). repair.archives) c.self.view_is) beside,
      same,
      c.push_due.ensures ∙ ap (λ (items : List Errand). items ++ due_brought c.k.result (record (repair_seen c.self.inside) { archives = c.take_object.new.self.archives })) c.in_ok-reserve.ensures.items
          ∙ ap (λ n. c.args.due.now.items ++ due_brought n (record (repair_seen c.self.inside) { archives = c.take_object.new.self.archives })) c.k.ensures
          ∙ ap (λ repair. c.args.due.now.items ++ due_brought c.args.policy.now.k repair) same,
    )
