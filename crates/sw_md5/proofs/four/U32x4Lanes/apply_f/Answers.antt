use Rattle.std.proofs.Common.{bit_and, bit_or}
use Rattle.std.specs.Int.{w32, bit_not}
use Rattle.sw_md5.proofs.LaneLemmas.{own, zipped, mapped}
use Rattle.sw_md5.proofs.four.U32x4Lanes.apply_f.Goals as goal

pub returns : goal.returns
returns c =
    let x = own 4 c.args.x c.fits-x.0 in
    let y = own 4 c.args.y c.fits-y.0 in
    let z = own 4 c.args.z c.fits-z.0 in
    (zipped bit_or _ _ _ _ (zipped bit_and _ _ _ _ x y) (zipped bit_and _ _ _ _ (mapped (bit_not w32) _ _ x) z)).each
