use Rattle.std.proofs.Common.{◌<◌, ◌^◌, arith}
use Rattle.sw_hashpath.proofs.Laws.{high_bits}
use Rattle.sw_hashpath.proofs.place.place_of.Goals as goal

pub returns-clause-below : goal.returns-clause-below
returns-clause-below c =
    let small : c.from.result < 2 ^ 32 = omega (arith, c.from.ensures, c.from_be_bytes-front.type_inv) in
    high_bits c.from.result c.args.power small
