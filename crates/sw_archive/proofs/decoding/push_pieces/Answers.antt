use Rattle.std.proofs.Common.{◌≡◌, ◌≤◌, subst, ◌+◌, ◌-◌, ◌*◌, ◌++◌, take, drop, length, sym, ap, ◌∙◌, arith, length-append}
use Rattle.std.proofs.Math.Seq.{take-append-add}
use Rattle.std.proofs.lemmas.List.{length-take-le, length-drop}
use Rattle.sw_cauchy.specs.Stripe.{fragment_width}
use Rattle.sw_archive.specs.Decoding.{HavePieces}
use Rattle.sw_archive.proofs.DataPieces.{all_pieces, piece_more}
use Rattle.sw_archive.proofs.Decodings.{payload_reaches}
use Rattle.sw_archive.proofs.decoding.push_pieces.Goals as goal
use Rattle.sw_archive.proofs.decoding.push_pieces.Goals.{In_ok-extend_from_slice}

-- what was added
added : (c : In_ok-extend_from_slice) → c.extend_from_slice.new.self.items ≡ c.loop-archive.out.items ++ take c.fragment_width-width.result (drop c.args.offset c.archive-item.result.payload)
added c =
    let width : c.args.offset + c.fragment_width-width.result - c.args.offset ≡ c.fragment_width-width.result = omega arith in
    c.in_ok-extend_from_slice.ensures.items
    ∙ ap (λ n. c.loop-archive.out.items ++ take n (drop c.args.offset c.payload.result.now)) width
    ∙ ap (λ bytes. c.loop-archive.out.items ++ take c.fragment_width-width.result (drop c.args.offset bytes)) c.payload.ensures.payload

pub loop-archive-preserved : goal.loop-archive-preserved
loop-archive-preserved c =
    let width = c.fragment_width-width.result in
    let archive = c.archive-item.result in
    let room : width ≤ length (drop c.args.offset archive.payload) =
    omega (
      arith,
      length-drop c.args.offset archive.payload,
      c.requires.reach,
      c.fragment_width-width.ensures,
      payload_reaches c.args.layout c.args.archives.now c.loop-archive.archive-index archive c.requires.laid_out c.loop-archive-test.true c.archive-item.is c.payload.ensures.sound,
    ) in
    record {
      long = ap length (added c) ∙ length-append c.loop-archive.out.items (take width (drop c.args.offset archive.payload))
          ∙ omega (arith, length-take-le width (drop c.args.offset archive.payload) room, c.loop-archive.invariant.long);
      left = λ pieces bytes whole have.
          ap (λ items. items ++ drop ((c.loop-archive.archive-index + 1) * width) pieces) (added c)
          ∙ piece_more c.args.layout.code.k width c.args.offset c.loop-archive.archive-index pieces c.loop-archive.out.items c.args.out.now.items c.args.archives.now archive
          c.requires.data c.requires.laid_out.count c.loop-archive-test.true c.archive-item.is bytes whole have (c.loop-archive.invariant.left pieces bytes whole have);
    }

pub returns-clause-decoded : goal.returns-clause-decoded
returns-clause-decoded c pieces bytes whole have =
    let old = c.args.out.now.items in
    let k = c.args.layout.code.k in
    let width = c.fragment_width-width.result in
    let is : width ≡ fragment_width k c.args.count = c.fragment_width-width.ensures in
    let all : k ≤ c.loop-archive.archive-index = omega (arith, c.loop-archive-test.false, c.requires.laid_out.count) in
    let wide : length pieces ≡ k * width = whole ∙ ap (λ n. k * n) (sym is) in
    let there = subst (λ n. HavePieces k c.args.offset n pieces c.args.archives.now) (sym is) have in
    let start : c.len-start.result ≡ length old = omega (arith, c.len-start.ensures, c.args.out.now.ok.0) in
    c.truncate.ensures.items
    ∙ ap (take (c.len-start.result + c.args.count))
    (all_pieces k width c.loop-archive.archive-index pieces c.loop-archive.out.items old wide all (c.loop-archive.invariant.left pieces bytes wide there))
    ∙ ap (λ n. take (n + c.args.count) (old ++ pieces)) start
    ∙ take-append-add old pieces c.args.count
