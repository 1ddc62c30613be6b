use Rattle.std.proofs.Common.{◌≡◌, ◌+◌, ◌-◌, ◌<◌, ◌∙◌, ◌++◌, ◌∷◌, [], ℕ, List, length, get_or, ap, sym, subst, arith, zero-add}
use Rattle.std.proofs.lemmas.List.FromFn.{length-map-range_with_len, get_or-map-range_with_len}
use Rattle.sw_types.proofs.Policies.{bounds}
use Rattle.sw_archive.specs.Archive.{ArchiveModel}
use Rattle.sw_archive.specs.Assemble.{AreEnough, IsNext}
use Rattle.archive_bench.specs.Archives.{archive_at, fields_from}
use Rattle.archive_bench.proofs.Fields.{added, added_ok, enough, k_is, more, next, read_of}
use Rattle.archive_bench.proofs.put.Put.assemble_from.Goals as goal

pub loop-index-init : goal.loop-index-init
loop-index-init c =
    let none : 0 ≡ c.args.first - c.args.first = omega arith in
    record {
      from = omega arith;
      gathered = c.in_ok-reserve.ensures.archives ∙ c.new-assemble.ensures ∙ ap (fields_from c.args.self.now c.args.first) none;
      room = c.in_ok-reserve.ensures.room;
    }

pub bounds-archives-index : goal.bounds-archives-index
bounds-archives-index c =
    let put = c.args.self.now in
    omega (
      arith,
      ap length c.requires.archives,
      length-map-range_with_len (archive_at put) 0 (put.policy.k + put.policy.m),
      c.requires.first,
      c.k-k.ensures,
      c.loop-index-test.true,
    )

pub read-requires-clause-bytes : goal.read-requires-clause-bytes
read-requires-clause-bytes c =
    let put = c.args.self.now in
    let count = put.policy.k + put.policy.m in
    let index = c.loop-index.index in
    let these = c.index-archives-index.result in
    let below : index < count = omega (arith, c.requires.first, c.k-k.ensures, c.loop-index-test.true) in
    c.as_slice.ensures ∙ c.index-archives-index.is ∙ ap (λ (all : List (List ℕ)). get_or all index these) c.requires.archives
    ∙ get_or-map-range_with_len (archive_at put) 0 count index index these below (zero-add index)

pub add-requires : goal.add-requires
add-requires c =
    let kept = c.loop-index.invariant in
    let archive = c.in_ok-archive.archive in
    let is = k_is c.args.self.now c.args.first c.loop-index.index c.loop-index.assemble.archives archive kept.gathered (read_of _ _ _ c.in_ok-archive.ensures) in
    record { room = omega (arith, is, kept.room, c.k-k.ensures) }

pub unwrap-requires : goal.unwrap-requires
unwrap-requires c =
    let kept = c.loop-index.invariant in
    let before = c.loop-index.assemble.archives in
    let archive = c.in_ok-archive.archive in
    let after = c.add.new.self.archives in
    added_ok c.add.result (IsNext before archive) (after ≡ before ++ archive ∷ []) (λ back. back ≡ archive) (after ≡ before) c.add.ensures.added
    (next c.args.self.now c.args.first c.loop-index.index before archive kept.from (omega (arith, c.loop-index-test.true, c.k-k.ensures)) kept.gathered
    (read_of _ _ _ c.in_ok-archive.ensures))

pub loop-index-preserved : goal.loop-index-preserved
loop-index-preserved c =
    let put = c.args.self.now in
    let first = c.args.first in
    let index = c.loop-index.index in
    let before = c.loop-index.assemble.archives in
    let archive = c.in_ok-archive.archive in
    let kept = c.loop-index.invariant in
    let after = c.add.new.self.archives in
    let read = read_of _ _ _ c.in_ok-archive.ensures in
    let can = next put first index before archive kept.from (omega (arith, c.loop-index-test.true, c.k-k.ensures)) kept.gathered read in
    record {
      from = omega (arith, kept.from);
      gathered = added c.add.result (IsNext before archive) (after ≡ before ++ archive ∷ []) (λ back. back ≡ archive) (after ≡ before) c.add.ensures.added can
          ∙ more put first index before archive kept.from kept.gathered read;
      room = omega (arith, kept.room, c.add.ensures.room);
    }

pub returns-clause-from : goal.returns-clause-from
returns-clause-from c =
    let all : c.loop-index.index - c.args.first ≡ c.args.self.now.policy.k = omega (arith, c.k-k.ensures) in
    c.loop-index.invariant.gathered ∙ ap (fields_from c.args.self.now c.args.first) all

pub returns-clause-enough : goal.returns-clause-enough
returns-clause-enough c =
    let put = c.args.self.now in
    subst (λ (archives : List ArchiveModel). AreEnough archives) (sym (returns-clause-from c)) (enough put c.args.first (bounds put.policy put.sound.policy_rules).some_data)
