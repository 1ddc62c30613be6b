-- The messages are the archives before their MD5s.
use Rattle.std.proofs.Common.{◌≡◌, ◌+◌, ◌++◌, ℕ, List, [], map, length, replicate, take, sym, ap, subst, ◌∙◌, arith}
use Rattle.std.specs.List.{range_with_len}
use Rattle.std.proofs.lemmas.List.{map-id}
use Rattle.std.proofs.lemmas.List.FromFn.{length-map-range_with_len}
use Rattle.sw_types.specs.Name.{path_of}
use Rattle.md5.specs.Md5.{md5}
use Rattle.sw_md5.specs.Side.{HaveOneLength}
use Rattle.sw_md5.specs.UnderWay.{HoldsMessages, joined}
use Rattle.sw_archive.specs.Parts.{head_bytes}
use Rattle.sw_archive.specs.Put.{payload, put_fields, put_label, put_seal}
use Rattle.sw_archive.proofs.Labels.{label-payload}
use Rattle.sw_archive.proofs.SideBySide.{HaveOneLength-map, joined-none, length-put_label, map-each}
use Rattle.sw_archive.proofs.sealing.seals.Goals as goal
use Rattle.sw_archive.proofs.sealing.seals.Goals.{After-deref}

-- as many archives as the policy says
count_is : (c : After-deref) → c.from-code.result.k + c.from-code.result.m ≡ c.args.policy.now.k + c.args.policy.now.m
count_is c = omega (arith, c.from-code.ensures.0, c.from-code.ensures.1)

-- the labels, by index
labels_are : (c : After-deref) → c.deref.result.now ≡ map (put_label c.args.policy.now c.args.stamp c.args.name.now c.args.object.now) (range_with_len 0 (c.args.policy.now.k + c.args.policy.now.m))
labels_are c = c.deref.ensures.value ∙ c.in_ok-labels.ensures

pub update-requires-clause-one_each : goal.update-requires-clause-one_each
update-requires-clause-one_each c =
    let at = (goal.at.update-requires-clause-one_each c).After-deref in
    let policy = c.args.policy.now in
    ap length (labels_are at) ∙ length-map-range_with_len (put_label policy c.args.stamp c.args.name.now c.args.object.now) 0 (policy.k + policy.m)
    ∙ sym (c.new-digests.ensures.count ∙ count_is at)

pub update-requires-clause-alike : goal.update-requires-clause-alike
update-requires-clause-alike c =
    let at = (goal.at.update-requires-clause-alike c).After-deref in
    let policy = c.args.policy.now in
    let name = c.args.name.now in
    let object = c.args.object.now in
    subst HaveOneLength (sym (map-id c.deref.result.now ∙ labels_are at))
    (HaveOneLength-map (put_label policy c.args.stamp name object) (policy.k + policy.m) (36 + length object.body_md5 + length (path_of name ++ head_bytes object.head))
    (omega (arith, c.from-code.result.some_data, count_is at)) (length-put_label policy c.args.stamp name object))

pub returns : goal.returns
returns c =
    let at = (goal.at.returns c).After-deref in
    let policy = c.args.policy.now in
    let object = c.args.object.now in
    let k = c.from-code.result.k in
    let count : ℕ = c.from-code.result.k + c.from-code.result.m in
    let size = c.segment-size.result in
    let body = c.as_slice.result.now in
    let label : ℕ → List ℕ = put_label policy c.args.stamp c.args.name.now object in
    let seal : ℕ → List ℕ = put_seal policy c.args.stamp c.args.name.now object in
    let opened : HoldsMessages c.update.new.self (map label (range_with_len 0 count)) =
    subst (HoldsMessages c.update.new.self)
    (ap (joined (replicate count [])) (map-id c.deref.result.now ∙ labels_are at) ∙ ap (λ n. joined (replicate count []) (map label (range_with_len 0 n))) (sym (count_is at)) ∙ joined-none label count)
    (c.update.ensures.goes_on (replicate count []) c.new-digests.ensures.empty) in
    let message : ℕ → List ℕ = λ index. label index ++ payload k size body index in
    let filled : HoldsMessages c.hash_payloads.new.digests (map message (range_with_len 0 count)) = c.in_ok-hash_payloads.ensures label opened in
    let same : (index : ℕ) → md5 (message index) ≡ seal index =
    λ index. ap md5 (ap (λ (bytes : List ℕ). label index ++ bytes)
    (ap (λ n. payload n size body index) c.from-code.ensures.0 ∙ ap (λ n. payload policy.k n body index) c.segment-size.ensures.value
    ∙ ap (λ (bytes : List ℕ). payload policy.k policy.segment bytes index) (c.as_slice.ensures ∙ c.body.ensures.body))
    ∙ label-payload (put_fields policy c.args.stamp c.args.name.now object index)) in
    c.in_ok-from_slice.ensures.items
    ∙ ap (λ n. take n c.finish-seals.result) (sym (length-map-range_with_len message 0 count))
    ∙ c.finish-seals.ensures (map message (range_with_len 0 count)) filled
    ∙ map-each message seal md5 0 count same
    ∙ ap (λ n. map seal (range_with_len 0 n)) (count_is at)
