-- All archives of a put have one length.
use Rattle.std.proofs.Common.{◌≡◌, ◌+◌, ◌<◌, ◌∙◌, ℕ, [], length, ap, arith, zero-add}
use Rattle.std.proofs.lemmas.List.FromFn.{get_or-map-range_with_len, length-map-range_with_len}
use Rattle.sw_types.specs.Name.{path_of}
use Rattle.sw_md5.specs.Side.{HaveOneLength}
use Rattle.sw_md5.proofs.Together.{one_length}
use Rattle.sw_archive.specs.Archive.{payload_length}
use Rattle.sw_archive.specs.Parts.{head_bytes}
use Rattle.sw_archive.specs.Put.{payload}
use Rattle.sw_archive.proofs.Archives.{length-archive, put_is_archive}
use Rattle.archive_bench.specs.Archives.{archive_at, archives_of, fields_at}
use Rattle.archive_bench.specs.declared.put.Put.{Put}

-- what it is
abbrev width : Put → ℕ
width put = 68 + length (path_of put.name) + length (head_bytes put.object.head) + payload_length put.policy.k put.policy.segment (length put.object.body)

length-archive_at : (put : Put) (index : ℕ) → index < put.policy.k + put.policy.m → length (archive_at put index) ≡ width put
length-archive_at put index below =
    let is = put_is_archive put.policy put.stamp put.name put.object index put.sound below in
    let before = 68 + length (path_of put.name) + length (head_bytes put.object.head) in
    let whole : length (archive_at put index) ≡ before + length (payload put.policy.k put.policy.segment put.object.body index) = length-archive (archive_at put index) (fields_at put index) is in
    let long : length (payload put.policy.k put.policy.segment put.object.body index) ≡ payload_length put.policy.k put.policy.segment (length put.object.body) = is.sound.payload in
    whole ∙ ap (λ n. before + n) long

pub one_length_of : (put : Put) → HaveOneLength (archives_of put (put.policy.k + put.policy.m))
one_length_of put =
    let count = put.policy.k + put.policy.m in
    one_length (archives_of put count) (width put) (λ i low.
    let below : i < count = omega (arith, low, length-map-range_with_len (archive_at put) 0 count) in
    ap length (get_or-map-range_with_len (archive_at put) 0 count i i [] below (zero-add i)) ∙ length-archive_at put i below)
