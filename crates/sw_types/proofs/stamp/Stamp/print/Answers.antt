use Rattle.std.proofs.Common.{[], ◌∷◌, refl, ◌∙◌, ap}
use Rattle.sw_types.specs.Stamp.{stamp_text}
use Rattle.sw_types.proofs.Digits.{printed_stamp}
use Rattle.sw_types.proofs.stamp.Stamp.print.Goals as goal

pub returns : goal.returns
returns c =
    printed_stamp c.self.inside.units c.write_digits.new.text (46 ∷ 46 ∷ 46 ∷ 46 ∷ 46 ∷ []) c.write_digits-2.new.text refl c.write_digits.ensures c.write_digits-2.ensures
    ∙ ap stamp_text c.self.view_is
