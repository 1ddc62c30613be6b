use Rattle.std.proofs.Common.{◌≡◌, List, ℕ, Option, sym, ap, subst, ◌∙◌}
use Rattle.std.specs.Option.{IfSome, option_copied}
use Rattle.md5.specs.Md5.{md5}
use Rattle.sw_suffix.specs.Entries.{floors_of}
use Rattle.sw_suffix.specs.Suffix.{suffix_text}
use Rattle.sw_suffix.specs.Table.{in_suffix}
use Rattle.sw_suffix.proofs.Keeping.{kept_more}
use Rattle.sw_suffix.proofs.hashes.hash_of.Goals as goal

pub returns-in-Some-clause-hash : goal.returns-in-Some-clause-hash
returns-in-Some-clause-hash c =
    subst (λ (o : Option (List ℕ)). IfSome o (λ hash. hash ≡ md5 (suffix_text (in_suffix c.args.part c.args.suffix (floors_of c.args.floors.now.entries)))))
    (sym c.get.ensures.value ∙ ap option_copied c.in-Some.is) (c.requires.kept.scratch c.args.part c.args.suffix)

pub returns-clause-kept : goal.returns-clause-kept
returns-clause-kept c =
    kept_more (floors_of c.args.floors.now.entries) c.args.kept.now.entries c.insert.new.self.entries c.args.part c.args.suffix c.scratch_hash-hash.result c.requires.kept c.scratch_hash-hash.ensures c.in_ok-insert.ensures.updates.0
