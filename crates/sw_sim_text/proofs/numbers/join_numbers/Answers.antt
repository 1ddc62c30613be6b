use Rattle.std.proofs.Common.{codes, sym, arith, string_bytes}
use Rattle.std.specs.Fmt.{decimal}
use Rattle.std.proofs.lemmas.List.{map-append, take_all}
use Rattle.sw_sim_text.proofs.Printed.{join_by-map, map_more}
use Rattle.sw_sim_text.proofs.numbers.join_numbers.Goals as goal

pub loop-number-preserved : goal.loop-number-preserved
loop-number-preserved c =
    rw (c.in_ok-push.ensures.items, map-append, c.loop-number.invariant, c.in_ok-format.ensures.ok) (sym (map_more decimal c.args.numbers.now c.loop-number.number-index 0 c.loop-number-test.true))

pub returns : goal.returns
returns c =
    let whole = take_all c.loop-number.number-index c.args.numbers.now (omega arith) in
    rw (c.in_ok-text.ensures.ok, c.deref.ensures.value, join_by-map string_bytes (codes ",") c.loop-number.texts.items, c.loop-number.invariant, whole) (sym (join_by-map decimal (codes ",") _))
