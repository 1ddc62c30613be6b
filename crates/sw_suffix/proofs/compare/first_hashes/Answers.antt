use Rattle.std.proofs.Common.{ℕ, [], List, Option, get_or, ap, sym, ◌∙◌}
use Rattle.std.specs.Option.{option_or}
use Rattle.sw_suffix.proofs.Lists.{hash_at-more, hash_in}
use Rattle.sw_suffix.proofs.compare.first_hashes.Goals as goal

pub loop-suffix-preserved : goal.loop-suffix-preserved
loop-suffix-preserved c = λ suffix.
    c.in_ok-add_first.ensures suffix
    ∙ ap (λ (hash : Option (List ℕ)). option_or hash (hash_in suffix (get_or c.args.hashes.now c.loop-suffix.suffix-index (0, [])))) (c.loop-suffix.invariant suffix)
    ∙ sym (hash_at-more suffix c.args.hashes.now c.loop-suffix.suffix-index (0, []) c.loop-suffix-test.true)
