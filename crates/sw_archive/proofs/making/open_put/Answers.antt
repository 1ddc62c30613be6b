use Rattle.std.proofs.Common.{◌≡◌, ◌∙◌, List, ℕ, length, refl, sym, ap, ap₂, arith}
use Rattle.std.proofs.lemmas.Result.{IfOk-weaker}
use Rattle.sw_types.proofs.Policies.{bounds}
use Rattle.sw_archive.specs.Archive.{label_bytes, payload_length}
use Rattle.sw_archive.specs.Put.{payload, put_fields}
use Rattle.sw_archive.proofs.Archives.{archive_of, same_archive}
use Rattle.sw_archive.proofs.Payloads.{length-payload}
use Rattle.sw_archive.proofs.making.open_put.Goals as goal

pub returns : goal.returns
returns c =
    let policy = c.args.policy.now in
    let object = c.args.object.now in
    let rules = bounds policy c.segment-segment.ensures.sound in
    let fragments : List ℕ = payload policy.k policy.segment object.body c.args.index in
    let count : c.len-body_length.result ≡ length object.body = c.len-body_length.ensures ∙ ap length c.body.ensures.body in
    let long : length fragments ≡ payload_length c.from-code.result.k c.segment-segment.result c.len-body_length.result =
    length-payload policy.k policy.segment object.body c.args.index (omega (arith, rules.some_data)) (omega (arith, rules.some_data, rules.least_segment))
    ∙ ap₂ (λ k size. payload_length k size (length object.body)) (sym c.from-code.ensures.0) (sym c.segment-segment.ensures.value)
    ∙ ap (payload_length c.from-code.result.k c.segment-segment.result) (sym count) in
    IfOk-weaker c.open.result _ _
    (λ bytes is. is ∙ ap label_bytes (same_archive (archive_of c.from-code.result.k c.from-code.result.m c.args.index c.segment-segment.result c.args.stamp c.len-body_length.result
    c.body_md5-body_md5.result c.args.name.now c.head-head.result.now fragments) (put_fields policy c.args.stamp c.args.name.now object c.args.index)
    c.from-code.ensures.0 c.from-code.ensures.1 refl c.segment-segment.ensures.value refl count c.body_md5-body_md5.ensures.kept refl c.head-head.ensures refl))
    (c.open.ensures fragments long)
