use Rattle.std.proofs.Common.{bit_or, bit_xor}
use Rattle.std.specs.Int.{w32, bit_not}
use Rattle.sw_md5.proofs.LaneLemmas.{own, zipped, mapped}
use Rattle.sw_md5.proofs.eight.U32x8Lanes.apply_i.Goals as goal

pub returns : goal.returns
returns c =
    let x = own 8 c.args.x c.fits-x.0 in
    let y = own 8 c.args.y c.fits-y.0 in
    let z = own 8 c.args.z c.fits-z.0 in
    (zipped bit_xor _ _ _ _ y (zipped bit_or _ _ _ _ x (mapped (bit_not w32) _ _ z))).each
