use Rattle.std.proofs.Common.{◌≡◌, ◌++◌, take, refl}
use Rattle.std.specs.Result.{OnOk}
use Rattle.sw_archive.proofs.Decodings.{decoded_there}
use Rattle.sw_archive.proofs.decoding.push_segment.Goals as goal

pub returns-clause-decoded : goal.returns-clause-decoded
returns-clause-decoded c =
    decoded_there c.args.layout.code.k c.args.layout.code.m _ c.args.offset c.args.count c.args.archives.now _ c.in_ok-gather_fragments.ensures refl
    (λ k width pieces. OnOk c.push_segment.result (c.push_segment.new.out.items ≡ c.args.out.now.items ++ take c.args.count pieces)) c.push_segment.ensures.decoded
