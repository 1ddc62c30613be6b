use Rattle.std.proofs.Common.{◌+◌, ◌-◌, ◌*◌, ◌++◌, map, take, drop, sym, ap, ap₂, ◌∙◌, arith}
use Rattle.std.proofs.lemmas.List.{map-append}
use Rattle.md5.specs.Md5.{md5}
use Rattle.sw_md5.proofs.Lists.{take_further}
use Rattle.sw_md5.proofs.list.digests_of.Goals as goal

pub loop-group-preserved : goal.loop-group-preserved
loop-group-preserved c =
    let messages = c.args.messages.now in
    let first = 32 * c.loop-group.group in
    let next = take (c.min-end.result - first) (drop first messages) in
    let more = take_further messages first (32 * (c.loop-group.group + 1)) c.min-end.result (omega arith) (omega arith) (omega arith) in
    c.in_ok-extend_from_slice.ensures.items ∙ ap₂ (λ a b. a ++ b) c.loop-group.invariant c.digests_of_some.ensures
    ∙ sym (map-append md5 (take first messages) next) ∙ ap (map md5) (sym more)
