use Rattle.std.proofs.Common.{◌≡◌, ◌+◌, ◌%◌, ◌^◌, ◌<◌, length, map, sym, ap, subst, ◌∙◌, arith}
use Rattle.std.proofs.lemmas.List.{length-map}
use Rattle.md5.specs.Md5.{IsAbsorbed}
use Rattle.md5.proofs.Absorbing.{total_append}
use Rattle.sw_md5.specs.Side.{item}
use Rattle.sw_md5.proofs.Pieces.{content_at}
use Rattle.sw_md5.proofs.Together.{joined-length, joined-item}
use Rattle.sw_md5.proofs.digests.Digests.update.Goals as goal

pub returns-clause-goes_on : goal.returns-clause-goes_on
returns-clause-goes_on g c = λ messages held.
    let digests = c.args.self.now in
    let pieces = c.args.pieces.now in
    let contents = map g.P.Piece.content pieces in
    let each : length messages ≡ length contents = held.each ∙ sym (length-map pieces g.P.Piece.content ∙ c.requires.one_each) in
    let first = content_at g.P.Piece.content pieces c.index-pieces-0.result 0 (omega arith) c.index-pieces-0.is in
    record {
      each = joined-length messages contents each ∙ held.each;
      total = λ i low.
          let inside : i < length messages = omega (arith, joined-length messages contents each) in
          let there : i < length contents = omega arith in
          let long : length c.bytes.result.now ≡ length (item contents i) = ap length c.bytes.ensures ∙ sym (ap length first) ∙ sym (c.requires.alike i there) in
          total_append digests.total _ (item messages i) (item contents i) (held.total i inside) (ap (λ n. (digests.total + n) % 2 ^ 64) long)
          ∙ ap (λ l. length l % 2 ^ 64) (sym (joined-item messages contents i inside each));
      absorbed = λ i low.
          let inside : i < length messages = omega (arith, joined-length messages contents each) in
          let total = held.total i inside in
          subst (λ l. IsAbsorbed (item c.absorb.new.states i) (item c.absorb.new.rests i) l) (sym (joined-item messages contents i inside each))
          (c.absorb.ensures i (item messages i) (omega (arith, each, length-map pieces g.P.Piece.content)) (omega arith) (held.absorbed i inside));
    }
