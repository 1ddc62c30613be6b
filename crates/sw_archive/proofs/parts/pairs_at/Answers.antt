use Rattle.std.proofs.Common.{◌≡◌, ◌++◌, ◌∷◌, [], arith, ◌∙◌, refl}
use Rattle.std.proofs.lemmas.List.{length_push}
use Rattle.sw_archive.proofs.Heads.{no_pairs, pairs_push, AreShort-push}
use Rattle.sw_archive.proofs.parts.pairs_at.Goals as goal

pub returns-in_default : goal.returns-in_default
returns-in_default c = λ pairs rest len short e.
    no_pairs c.loop.pairs.items pairs c.args.bytes.now c.loop.rest.now rest c.loop.invariant.split c.loop.invariant.short (omega (arith, len, c.loop.invariant.count)) short e c.in_default.ensures.none

pub loop-preserved : goal.loop-preserved
loop-preserved c =
    let e : c.push.new.self.items ≡ c.loop.pairs.items ++ (c.in-Some.name.now, c.in-Some.value.now) ∷ [] = c.in_ok-push.ensures.items ∙ rw (c.in_ok-from_slice.ensures, c.in_ok-from_slice-2.ensures) refl in
    rw e (record {
      split = pairs_push c.loop.pairs.items (c.in-Some.name.now, c.in-Some.value.now) c.args.bytes.now c.loop.rest.now c.in-Some.after.now c.loop.invariant.split c.in-Some.ensures.some.0;
      count = length_push c.loop.pairs.items (c.in-Some.name.now, c.in-Some.value.now) ∙ omega (arith, c.loop.invariant.count);
      short = AreShort-push c.loop.pairs.items (c.in-Some.name.now, c.in-Some.value.now) c.loop.invariant.short c.in-Some.ensures.some.1;
    })
