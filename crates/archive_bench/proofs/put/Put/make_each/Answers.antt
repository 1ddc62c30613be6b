-- The MD5 of each index is there, and each archive of the copy is that of the put.
use Rattle.std.proofs.Common.{◌≡◌, ◌<◌, ◌+◌, ◌∙◌, ◌++◌, ◌∷◌, [], length, ap, ap₂, sym, arith, zero-add}
use Rattle.std.proofs.lemmas.List.{get_or_read}
use Rattle.std.proofs.lemmas.List.FromFn.{map-range_with_len_more}
use Rattle.sw_archive.specs.Put.{put_archive, put_seal}
use Rattle.sw_archive.proofs.Sealed.{length-put_seals, seal_at}
use Rattle.archive_bench.specs.Archives.{archive_at}
use Rattle.archive_bench.proofs.put.Put.make_each.Goals as goal

-- a function of four equal arguments
four : {A B C D R : Type 0} (f : A → B → C → D → R) (a p : A) (b q : B) (c r : C) (d s : D) → a ≡ p → b ≡ q → c ≡ r → d ≡ s → f a b c d ≡ f p q r s
four f a p b q c r d s first second third fourth = ap₂ (λ x y. f x y c d) first second ∙ ap₂ (λ x y. f p q x y) third fourth

pub index-md5-requires : goal.index-md5-requires
index-md5-requires c =
    let put = c.args.self.now in
    omega (
      arith,
      c.k.ensures,
      c.m.ensures,
      c.loop-index-test.true,
      ap length c.in_ok-md5s.ensures,
      length-put_seals put.policy put.stamp put.name put.object,
      c.in_ok-md5s.md5s.ok.0,
    )

pub sealed_archive-requires-clause-seal : goal.sealed_archive-requires-clause-seal
sealed_archive-requires-clause-seal c =
    let put = c.args.self.now in
    let copy = c.in_ok-copy.copy in
    let same = c.in_ok-copy.ensures in
    let index = c.loop-index.index in
    let md5s = c.in_ok-md5s.md5s.items in
    let below : index < put.policy.k + put.policy.m = omega (arith, c.k.ensures, c.m.ensures, c.loop-index-test.true) in
    let there : index < length md5s = omega (arith, below, ap length c.in_ok-md5s.ensures, length-put_seals put.policy put.stamp put.name put.object) in
    get_or_read md5s _ _ there c.index-md5.ensures []
    ∙ seal_at put.policy put.stamp put.name put.object md5s index c.in_ok-md5s.ensures below
    ∙ sym (four (λ policy stamp name object. put_seal policy stamp name object index) copy.policy put.policy copy.stamp put.stamp copy.name put.name copy.object put.object
    same.policy same.stamp same.name same.object)

pub loop-index-preserved : goal.loop-index-preserved
loop-index-preserved c =
    let put = c.args.self.now in
    let copy = c.in_ok-copy.copy in
    let same = c.in_ok-copy.ensures in
    let index = c.loop-index.index in
    let made : c.in_ok-archive.archive ≡ archive_at put index =
    c.in_ok-archive.ensures
    ∙ four (λ policy stamp name object. put_archive policy stamp name object index) copy.policy put.policy copy.stamp put.stamp copy.name put.name copy.object put.object
    same.policy same.stamp same.name same.object in
    c.in_ok-push.ensures.items
    ∙ ap₂ (λ before new. before ++ new ∷ []) c.loop-index.invariant (c.len.ensures ∙ ap length made)
    ∙ sym (map-range_with_len_more (λ i. length (archive_at put i)) 0 index index (zero-add index))
