use Rattle.std.proofs.Common.{◌≡◌, ◌*◌, ◌++◌, List, ℕ, Ok, length, drop, take, subst, refl, sym, arith}
use Rattle.std.specs.List.{range_with_len}
use Rattle.std.proofs.lemmas.Iterator.{YieldsList-from_range, items_from_collect}
use Rattle.std.proofs.lemmas.List.{take_at}
use Rattle.sw_cauchy.specs.Decodes.{Decodes}
use Rattle.sw_cauchy.proofs.Decoding.{Decodes-unit}
use Rattle.sw_cauchy.proofs.decode.Decoder.new.Goals as goal

pub returns : goal.returns
returns c =
    let k = c.args.code.k in
    let unit = c.write_unit_matrix.new.unit in
    let made = c.in_ok-matrix.matrix in
    let indices : c.in_ok-indices.indices.items ≡ range_with_len 0 k = items_from_collect {E = ℕ} (Ok c.in_ok-indices.indices) c.in_ok-indices.ensures.ran (YieldsList-from_range 0 k k refl (omega arith)) in
    let square : length unit ≡ k * k = omega (arith, c.in_ok-matrix.ensures.len) in
    let matrix : take made.len (unit ++ drop (length unit) made.items) ≡ unit = take_at unit (drop (length unit) made.items) made.len (omega arith) in
    subst (λ (xs : List ℕ). Decodes k xs c.in_ok-indices.indices.items) (sym matrix)
    (subst (λ (xs : List ℕ). Decodes k unit xs) (sym indices) (Decodes-unit k unit square c.write_unit_matrix.ensures.bytes c.write_unit_matrix.ensures.unit))
