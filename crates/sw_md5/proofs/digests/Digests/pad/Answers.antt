use Rattle.std.proofs.Common.{◌/◌, ◌<◌, ◌++◌, length, map, ap, ◌∙◌, arith}
use Rattle.std.proofs.lemmas.List.{length-map}
use Rattle.md5.specs.Md5.{hash_after}
use Rattle.sw_md5.proofs.Together.{padded_item}
use Rattle.sw_md5.proofs.digests.Digests.pad.Goals as goal

pub returns-clause-states : goal.returns-clause-states
returns-clause-states c = λ messages i held low.
    let pads = c.padding.result.now in
    let bits = c.to_le_bytes.result in
    let begun = map (λ message. message ++ pads) messages in
    let h1 = c.update_all.ensures.goes_on messages held in
    let h2 = c.update_all-2.ensures.goes_on begun h1 in
    let there : i < length (map (λ message. message ++ bits) begun) = omega (arith, length-map begun (λ message. message ++ bits), length-map messages (λ message. message ++ pads)) in
    let same = padded_item messages pads bits i c.args.self.now.total low (held.total i low) c.padding.ensures c.to_le_bytes.ensures in
    (h2.absorbed i there).0 ∙ ap (λ m. hash_after m (length m / 64)) same
