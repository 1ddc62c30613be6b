use Rattle.std.proofs.Common.{List, ℕ, ap, sym, subst, ◌∙◌, ◌*◌, length, arith}
use Rattle.sw_cauchy.specs.Linear.{AreIndependent, IsInverse}
use Rattle.sw_cauchy.proofs.GeneratorRows.{length-generator_rows}
use Rattle.sw_cauchy.proofs.Independence.{any_rows_independent}
use Rattle.sw_cauchy.proofs.decode.write_decode_matrix.Goals as goal

pub invert-requires-clause-square : goal.invert-requires-clause-square
invert-requires-clause-square c =
    ap length c.write_generator_rows.ensures
    ∙ length-generator_rows c.args.code.k c.args.indices.now
    ∙ ap (λ n. n * c.args.code.k) c.requires.count

pub invert-requires-clause-independent : goal.invert-requires-clause-independent
invert-requires-clause-independent c =
    let k = c.args.code.k in
    let indices = c.args.indices.now in
    subst (AreIndependent k) (sym c.write_generator_rows.ensures)
    (any_rows_independent k indices (omega arith) c.requires.count (λ t d h. omega (arith, c.requires.below t d h)) c.requires.distinct)

pub returns : goal.returns
returns c = record {
  count = c.requires.count;
  square = omega arith;
  bytes = c.invert.ensures.bytes;
  inverse = subst (λ (rows : List ℕ). IsInverse c.args.code.k c.invert.new.inverse rows) c.write_generator_rows.ensures c.invert.ensures.inverse;
}
