use Rattle.std.proofs.Common.{arith}
use Rattle.sw_archive.proofs.Payloads.{payload_length-le}
use Rattle.sw_archive.proofs.payload.payload_length.Goals as goal

pub returns-clause-bound : goal.returns-clause-bound
returns-clause-bound c =
    rw (c.fragment_width.ensures, c.fragment_width-2.ensures)
    (payload_length-le c.args.code.k c.args.segment c.args.body_length (omega (arith, c.args.code.some_data)) c.requires.some)
