use Rattle.std.proofs.Common.{◌≡◌, ◌++◌, ◌∙◌, List, ℕ, length, refl, sym, ap}
use Rattle.std.proofs.lemmas.Result.{IfOk-weaker}
use Rattle.sw_archive.specs.Archive.{checked, label_bytes, payload_length}
use Rattle.sw_archive.proofs.Archives.{archive_of, same_archive}
use Rattle.sw_archive.proofs.Labels.{label-payload}
use Rattle.sw_archive.proofs.Objects.{further_archive}
use Rattle.sw_archive.proofs.assemble.archive_of.Goals as goal
use Rattle.sw_archive.proofs.assemble.archive_of.Goals.{In_ok-bytes}

-- what was written before the payload tells what the first archive tells
label : (c : In_ok-bytes) (fragments : List ℕ) → (let first = c.index-archives-0.result in length fragments ≡ payload_length first.k first.segment first.body_length)
    → c.in_ok-bytes.bytes.items ++ fragments ≡ checked (record c.index-archives-0.result { index = c.args.index; payload = fragments })
label c fragments count =
    let first = c.index-archives-0.result in
    let told = count ∙ sym (ap (λ n. payload_length n c.segment.result c.body_length.result) c.code.ensures.k ∙ ap (λ n. payload_length first.k n c.body_length.result) c.segment.ensures ∙ ap (payload_length first.k first.segment) c.body_length.ensures) in
    let archive = record first { index = c.args.index; payload = fragments } in
    ap (λ (bytes : List ℕ). bytes ++ fragments)
    (c.in_ok-bytes.ensures fragments told
    ∙ ap label_bytes (same_archive (archive_of c.code.result.k c.code.result.m c.args.index c.segment.result c.stamp.result c.body_length.result c.body_md5.result c.name.result.now c.head.result.now fragments)
    archive c.code.ensures.k c.code.ensures.m refl c.segment.ensures c.stamp.ensures c.body_length.ensures c.body_md5.ensures c.name.ensures c.head.ensures refl))
    ∙ label-payload archive

pub returns : goal.returns
returns c =
    IfOk-weaker c.seal.result _ _
    (λ bytes sealed. further_archive c.args.archives.now c.index-archives-0.result c.args.index c.in_ok-bytes.bytes.items c.rebuild_payload.new.out.items bytes c.requires.enough c.requires.together
    c.index-archives-0.is c.code.ensures.sound c.requires.index c.in_ok-rebuild_payload.ensures (label (goal.at.returns c).In_ok-bytes) sealed)
    c.seal.ensures
