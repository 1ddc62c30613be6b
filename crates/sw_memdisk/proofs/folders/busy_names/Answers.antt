use Rattle.std.proofs.Common.{◌∙◌, List, ◌++◌, append-nil, sym, ap}
use Rattle.std.specs.Prelude.{String}
use Rattle.std.specs.declared.alloc.Global.{Global}
use Rattle.sw_disk.specs.Answers.{texts_of}
use Rattle.sw_memdisk.specs.Disk.{kept_entries}
use Rattle.sw_memdisk.specs.Memory.{busy_in}
use Rattle.sw_memdisk.proofs.Busy.{ascending, busy_put, idle_passed}
use Rattle.sw_memdisk.proofs.Lookups.{Entries}
use Rattle.sw_memdisk.proofs.folders.busy_names.Goals as goal

pub loop-name-init : goal.loop-name-init
loop-name-init c =
    ap (λ (names : List (String Global)). texts_of names ++ busy_in (kept_entries c.into_iter-name-iterator.result)) c.new-names.ensures.items
    ∙ ap (λ (entries : Entries). busy_in (kept_entries entries)) (c.into_iter-name-iterator.ensures.into_iter_gives ∙ c.iter-name-items.ensures.rest)

pub returns-in_err-clone-clause-ordered : goal.returns-in_err-clone-clause-ordered
returns-in_err-clone-clause-ordered c = ascending c.args.folders.now c.iter-name-items.ensures.ordered

pub loop-name-preserved-in_ok-push : goal.loop-name-preserved-in_ok-push
loop-name-preserved-in_ok-push c =
    busy_put c.loop-name.names.items c.in-Some.name.now c.in-Some.folder.now c.loop-name.name-iterator c.next.new.self c.in-Some.ensures.steps c.is_busy.result c.is_busy.ensures
    c.in_ok-clone.field-0 c.push.new.self.items c.if-is_busy.true c.in_ok-push.ensures.items c.in_ok-clone.ensures.cases
    ∙ c.loop-name.invariant

pub returns-in_err-push-clause-ordered : goal.returns-in_err-push-clause-ordered
returns-in_err-push-clause-ordered c = ascending c.args.folders.now c.iter-name-items.ensures.ordered

pub loop-name-preserved : goal.loop-name-preserved
loop-name-preserved c =
    idle_passed c.loop-name.names.items c.in-Some.name.now c.in-Some.folder.now c.loop-name.name-iterator c.next.new.self c.in-Some.ensures.steps c.is_busy.result c.is_busy.ensures c.if-is_busy.false
    ∙ c.loop-name.invariant

pub returns-clause-names : goal.returns-clause-names
returns-clause-names c =
    sym (append-nil (texts_of c.loop-name.names.items))
    ∙ ap (λ (entries : Entries). texts_of c.loop-name.names.items ++ busy_in (kept_entries entries)) (sym c.in-None.ensures.steps.0)
    ∙ c.loop-name.invariant

pub returns-clause-ordered : goal.returns-clause-ordered
returns-clause-ordered c = ascending c.args.folders.now c.iter-name-items.ensures.ordered
