use Rattle.std.proofs.Common.{◌≢◌, ℕ, [], ◌∙◌, ap, sym, true≢false}
use Rattle.std.specs.BTreeMap.{get}
use Rattle.std.specs.BTreeSet.{contains}
use Rattle.std.specs.Ordering.{nat_cmp}
use Rattle.sw_suffix.proofs.Gathered.{adds_here, adds_past, adds_whole}
use Rattle.sw_suffix.proofs.compare.add_differing.Goals as goal
use Rattle.sw_suffix.proofs.compare.add_differing.Goals.{then-is_differing+in_ok-insert, else-is_differing}

pub loop-suffix-preserved : goal.loop-suffix-preserved
loop-suffix-preserved c =
    let differs = λ (suffix : ℕ). get nat_cmp c.args.first.now suffix ≢ get nat_cmp c.args.second.now suffix in
    elim c.if-is_differing.branch [
      | then-is_differing+in_ok-insert w ↦
          adds_here differs (contains nat_cmp c.args.suffixes.now) (contains nat_cmp c.loop-suffix.suffixes) c.args.hashes.now c.loop-suffix.suffix-index (0, []) c.loop-suffix-test.true c.loop-suffix.invariant
          (contains nat_cmp c.if-is_differing.suffixes) (λ suffix. ap (λ set. contains nat_cmp set suffix) w.suffixes-is ∙ w.in_ok-insert.ensures.updates.0 suffix) (c.is_differing.ensures.0 w.if-is_differing.true)
      | else-is_differing w ↦
          adds_past differs (contains nat_cmp c.args.suffixes.now) (contains nat_cmp c.loop-suffix.suffixes) c.args.hashes.now c.loop-suffix.suffix-index (0, []) c.loop-suffix-test.true c.loop-suffix.invariant
          (contains nat_cmp c.if-is_differing.suffixes) (λ suffix. ap (λ set. contains nat_cmp set suffix) w.suffixes-is) (λ apart. true≢false (sym (c.is_differing.ensures.1 apart) ∙ w.if-is_differing.false))
    ]

pub returns-clause-all : goal.returns-clause-all
returns-clause-all c =
    (adds_whole (λ (suffix : ℕ). get nat_cmp c.args.first.now suffix ≢ get nat_cmp c.args.second.now suffix) (contains nat_cmp c.args.suffixes.now) (contains nat_cmp c.loop-suffix.suffixes)
    c.args.hashes.now c.loop-suffix.suffix-index c.loop-suffix-test.false c.loop-suffix.invariant).all
