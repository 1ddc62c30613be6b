use Rattle.std.proofs.Common.{◌≡◌, refl}
use Rattle.std.specs.Result.{IfOk}
use Rattle.sw_cauchy.specs.Stripe.{fragment}
use Rattle.sw_archive.proofs.Decodings.{decoded_there}
use Rattle.sw_archive.proofs.decoding.rebuild_fragment.Goals as goal

pub returns-clause-decoded : goal.returns-clause-decoded
returns-clause-decoded c =
    decoded_there c.args.layout.code.k c.args.layout.code.m _ c.args.offset c.args.count c.args.archives.now _ c.in_ok-gather_fragments.ensures refl
    (λ k width pieces. IfOk c.rebuild.result (λ bytes. bytes ≡ fragment k width pieces c.args.index)) c.rebuild.ensures.decoded
