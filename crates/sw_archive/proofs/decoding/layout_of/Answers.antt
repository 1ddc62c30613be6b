use Rattle.sw_archive.proofs.Decodings.{laid_out}
use Rattle.sw_archive.proofs.decoding.layout_of.Goals as goal

pub returns : goal.returns
returns c =
    laid_out _ c.args.archives.now c.index-archives-0.result c.requires.enough c.requires.together c.index-archives-0.is c.code.ensures.sound c.code.ensures.k c.code.ensures.m c.segment.ensures c.body_length.ensures
