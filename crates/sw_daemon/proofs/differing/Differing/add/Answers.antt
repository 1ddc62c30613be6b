use Rattle.std.proofs.Common.{ℕ, ◌++◌, List, sym, ap, subst, ◌∙◌}
use Rattle.sw_daemon.specs.Comparing.{Differing, MoreDiffer}
use Rattle.sw_daemon.proofs.Adding.{more_differ}
use Rattle.sw_daemon.proofs.differing.Differing.add.Goals as goal

pub returns-clause-more : goal.returns-clause-more
returns-clause-more c =
    let is_all = c.self.inside.is_all in
    let old = c.self.inside.suffixes.items in
    let more = c.in_ok-more.more.items in
    let items = c.in_ok-extend_from_slice.ensures.items ∙ ap (λ these. old ++ these) c.deref.ensures.value in
    subst (λ (before : Differing). MoreDiffer before c.args.own.now c.args.hashes.now (record { is_all = is_all; suffixes = c.extend_from_slice.new.self.items })) c.self.view_is
    (subst (λ (these : List ℕ). MoreDiffer (record { is_all = is_all; suffixes = old }) c.args.own.now c.args.hashes.now (record { is_all = is_all; suffixes = these })) (sym items)
    (more_differ is_all old more c.args.own.now c.args.hashes.now c.in_ok-more.ensures))
