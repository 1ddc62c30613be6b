use Rattle.std.proofs.Common.{rules}
use Rattle.std.proofs.lemmas.Fn.{filter_same}
use Rattle.sw_hashpath.specs.Place.{PlaceModel}
use Rattle.sw_suffix.specs.Suffix.{suffix_number}
use Rattle.sw_daemon.specs.Comparing.{has_suffix}
use Rattle.sw_daemon.proofs.differing.keep_differing.Goals as goal

pub returns : goal.returns
returns c = filter_same _ (λ (place : PlaceModel). has_suffix c.args.differing.now (suffix_number place.hash)) _ (λ x b f' k. search rules) _ _ c.retain.ensures.filtered
