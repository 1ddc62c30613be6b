use Rattle.std.proofs.Common.{◌+◌, sym, subst, arith}
use Rattle.sw_suffix.specs.Entries.{floors_of}
use Rattle.sw_suffix.proofs.Hashed.{AreHashesBelow, hashes_more}
use Rattle.sw_suffix.proofs.hashes.hashes_of.Goals as goal

pub loop-suffix-preserved : goal.loop-suffix-preserved
loop-suffix-preserved c =
    let floors = floors_of c.args.floors.now.entries in
    record {
      kept = c.in_ok-hash.ensures.kept;
      hashes = subst (λ hashes. AreHashesBelow c.args.part (c.in-Some.suffix + 1) floors hashes) (sym c.in_ok-push.ensures.items)
          (hashes_more c.args.part c.loop-suffix.from floors c.loop-suffix.hashes.items c.loop-suffix.invariant.hashes c.in-Some.suffix c.in_ok-hash.hash
          c.in-Some.ensures.bounds.0 c.in-Some.ensures.next.0 c.in-Some.ensures.next.1 c.in_ok-hash.ensures.hash);
      small = omega (arith, c.in-Some.ensures.bounds.1);
    }
