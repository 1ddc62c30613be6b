use Rattle.std.proofs.Common.{◌≡◌, [], ◌∷◌, ◌++◌, subst, arith, rules}
use Rattle.std.specs.Prelude.{IsTrue}
use Rattle.sw_types.specs.Head.{Pair}
use Rattle.sw_archive.specs.Pairs.{AreFaultless}
use Rattle.sw_archive.proofs.PairTexts.{all_or_none, faultless_more, faultless_none, fits_room, next_fits, none_further}
use Rattle.sw_archive.proofs.head_text.are_pairs.Goals as goal

pub loop-position-init : goal.loop-position-init
loop-position-init c = ([], faultless_none c.args.bytes.now)

pub returns-in_default : goal.returns-in_default
returns-in_default c = λ pairs is.
    let before = c.loop-position.invariant in
    none_further c.args.bytes.now c.args.count c.loop-position.position c.loop-position.room before.0 c.loop-position.rest.now pairs before.1 c.loop-position-test.true c.in_default.ensures.none is

pub returns-then-not-fits_behind : goal.returns-then-not-fits_behind
returns-then-not-fits_behind c = λ pairs is.
    let before = c.loop-position.invariant in
    let fits = next_fits c.args.bytes.now c.args.count c.loop-position.position c.loop-position.room before.0 c.loop-position.rest.now pairs (c.in-Some.name.now, c.in-Some.value.now) c.in-Some.after.now
    before.1 c.loop-position-test.true c.in-Some.ensures.some.0 c.in-Some.ensures.some.1 is in
    let yes : IsTrue c.fits_behind.result = (c.fits_behind.ensures before.0 c.loop-position.rest.now before.1).1 fits in
    absurd (cc (yes, c.if-not-fits_behind.true))

pub loop-position-preserved : goal.loop-position-preserved
loop-position-preserved c =
    let before = c.loop-position.invariant in
    let pair : Pair = (c.in-Some.name.now, c.in-Some.value.now) in
    let yes : IsTrue c.fits_behind.result = search rules in
    let fits = (c.fits_behind.ensures before.0 c.loop-position.rest.now before.1).0 yes in
    let within = fits_room c.args.bytes.now c.loop-position.position c.loop-position.room before.0 c.loop-position.rest.now pair before.1 fits in
    (before.0 ++ pair ∷ [], faultless_more c.args.bytes.now c.loop-position.position c.loop-position.room before.0 c.loop-position.rest.now pair c.in-Some.after.now before.1 c.in-Some.ensures.some.0 fits _ (omega (arith, within)))

pub returns : goal.returns
returns c =
    let before = c.loop-position.invariant in
    let all : c.loop-position.position ≡ c.args.count = omega (arith, c.loop-position-test.false, c.loop-position.auto.position-end) in
    all_or_none c.is_empty.result c.args.bytes.now c.args.count c.loop-position.room before.0 c.loop-position.rest.now
    (subst (λ n. AreFaultless c.args.bytes.now n c.loop-position.room before.0 c.loop-position.rest.now) all before.1) c.is_empty.ensures
