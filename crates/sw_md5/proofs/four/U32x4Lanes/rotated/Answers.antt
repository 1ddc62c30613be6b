use Rattle.sw_md5.proofs.LaneLemmas.{rotates}
use Rattle.sw_md5.proofs.four.U32x4Lanes.rotated.Goals as goal

pub returns : goal.returns
returns c = rotates 4 c.args.bits c.args.self c.fits-self.0 c.requires.some c.requires.most
