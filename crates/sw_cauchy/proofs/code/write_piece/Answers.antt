use Rattle.std.proofs.Common.{◌≡◌, ℕ, ◌+◌, ◌-◌, ◌*◌, ◌<◌, ◌∙◌, min, List, ◌++◌, sym, ap, ap₂, length, map, take, drop, replicate, get_or, length-append, arith}
use Rattle.std.specs.List.{range_with_len}
use Rattle.std.proofs.lemmas.List.{ext_get_or, get_or-take, get_or-drop, length-take, length-drop, length-replicate, take_min, take_rest, drop_min}
use Rattle.std.proofs.lemmas.List.FromFn.{length-map-range_with_len, get_or-map-range_with_len}
use Rattle.sw_cauchy.proofs.Fragments.{get_or-zeros}
use Rattle.sw_cauchy.proofs.code.write_piece.Goals as goal

-- what is left of the segment, as far as it goes, and zeros
piece_bytes : (segment : List ℕ) (start width zeros : ℕ) → min width (length segment - start) + zeros ≡ width
    → take width (drop start segment) ++ replicate zeros 0 ≡ map (λ position. get_or segment (start + position) 0) (range_with_len 0 width)
piece_bytes segment start width zeros filled =
    let bytes = take width (drop start segment) in
    let read : ℕ → ℕ = λ position. get_or segment (start + position) 0 in
    let long : length bytes ≡ min width (length segment - start) = length-take width (drop start segment) ∙ ap (min width) (length-drop start segment) in
    let whole : length (bytes ++ replicate zeros 0) ≡ width = length-append bytes (replicate zeros 0) ∙ ap₂ (λ n m. n + m) long (length-replicate zeros 0) ∙ filled in
    ext_get_or 0 _ _ (whole ∙ sym (length-map-range_with_len read 0 width))
    (λ position h. let below : position < width = omega (arith, whole) in
    get_or-zeros bytes zeros position ∙ get_or-take width (drop start segment) position 0 below ∙ get_or-drop start segment position 0
    ∙ sym (get_or-map-range_with_len read 0 width position position 0 below (omega arith)))

pub returns : goal.returns
returns c =
    let segment = c.args.segment.now in
    let width = length c.args.piece.now in
    let start = c.args.j * width in
    let rest = take (length segment - c.min.result) (drop c.min.result segment) in
    let left : rest ≡ drop start segment = take_rest segment c.min.result ∙ ap (λ n. drop n segment) c.min.ensures ∙ drop_min start segment in
    let copied : c.copy_from_slice.new.self ≡ take width (drop start segment) =
    c.copy_from_slice.ensures.after ∙ ap (λ n. take n rest) (c.split_at_mut-bytes.ensures.front_len ∙ c.min-2.ensures) ∙ take_min width rest ∙ ap (take width) left in
    ap₂ (λ bytes zeros. bytes ++ zeros) copied (c.fill.ensures.after (λ y e. e))
    ∙ piece_bytes segment start width (length c.split_at_mut-bytes.result.1.now)
    (omega (arith, c.split_at_mut-bytes.ensures.back_len, c.min-2.ensures, ap length left ∙ length-drop start segment))
