use Rattle.std.proofs.Common.{[], ◌∷◌, codes, sym}
use Rattle.std.specs.Fmt.{decimal}
use Rattle.sw_types.specs.Stamp.{stamp_text}
use Rattle.sw_sim_text.proofs.Printed.{pieces_of_five, pieces_of_three}
use Rattle.sw_sim_text.proofs.show.ShowLineLine.line.Goals as goal

pub returns-in_ok-line-in-Buried : goal.returns-in_ok-line-in-Buried
returns-in_ok-line-in-Buried c =
    rw (c.from.ensures, c.into_bytes.ensures.value, c.in_ok-line-in-Buried.ensures.ok, c.in-Buried.is)
    (sym (pieces_of_five (codes "s ") (decimal c.in-Buried.device) (codes " - ") (stamp_text c.in-Buried.stamp) (codes " tombstone") (10 ∷ [])))

pub returns-in_ok-line-in-Empty : goal.returns-in_ok-line-in-Empty
returns-in_ok-line-in-Empty c =
    rw (c.from-in-Empty.ensures, c.into_bytes-in-Empty.ensures.value, c.in_ok-line-in-Empty.ensures.ok, c.in-Empty.is)
    (sym (pieces_of_three (codes "s ") (decimal c.in-Empty.device) (codes " empty") (10 ∷ [])))
