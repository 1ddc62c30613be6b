-- A sync that has handed out nothing stands for the empty transcript.
use Rattle.std.proofs.Common.{◌<◌, ◌^◌, List, [], map, refl, sym, ap, subst, ◌∙◌}
use Rattle.sw_hashpath.proofs.Laws.{part_below}
use Rattle.sw_ring.specs.Cluster.{handoffs_of}
use Rattle.sw_sync.specs.Parts.{Heard}
use Rattle.sw_sync.specs.Standing.{Stands}
use Rattle.sw_sync.specs.Sync.{Begun}
use Rattle.sw_sync.specs.declared.errand.Errand.{Errand}
use Rattle.sw_sync.specs.declared.errand.Errand.TheVariants.{Ask}
use Rattle.sw_sync.specs.declared.stage.Stage.TheVariants.{Handoffs}
use Rattle.sw_sync.proofs.Changes.{stands_begun}
use Rattle.sw_sync.proofs.sync.SyncJob.begin.Goals as goal
use Rattle.sw_sync.proofs.sync.SyncJob.begin.Goals.{After-new-2}

pub handoffs-requires : goal.handoffs-requires
handoffs-requires c =
    subst (λ part. part < 2 ^ c.args.cluster.now.part_power) (sym (c.part.ensures ∙ c.requires.right.part)) (part_below c.args.place.hash c.args.cluster.now.part_power c.requires.right.hash)

stood : (c : goal.After-new-2) → Stands (record { cluster = c.args.cluster.now; device = c.args.device; place = c.args.place; state = record { stage = Handoffs c.new.result; due = c.in_ok-due.due.items }; mailbox = c.new-2.result })
    (record { cluster = c.args.cluster.now; device = c.args.device; place = c.args.place }) []
stood c =
    let begun : Begun = record { cluster = c.args.cluster.now; device = c.args.device; place = c.args.place } in
    let due = c.in_ok-due.ensures ∙ ap (map Ask) (c.deref.ensures.value ∙ c.in_ok-handoffs.ensures ∙ ap (handoffs_of c.args.cluster.now) c.part.ensures) in
    stands_begun begun _ (record { rules = c.part_power.ensures.rules; right = c.requires.right; primary = c.requires.primary }) refl refl refl
    (ap (λ (heard : Heard). record { stage = Handoffs heard; due = c.in_ok-due.due.items }) c.new.ensures
    ∙ ap (λ (due : List Errand). record { stage = Handoffs (record { lists = []; misses = [] }); due = due }) due)
    c.new-2.ensures.goes_with c.new-2.ensures.unread

pub returns : goal.returns
returns c = stood (goal.at.returns c).After-new-2

pub invariant_of-result : goal.invariant_of-result
invariant_of-result c = (record { cluster = c.args.cluster.now; device = c.args.device; place = c.args.place }, [], stood c)
