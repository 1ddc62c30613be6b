use Rattle.std.proofs.Common.{◌≡◌, [], ◌∷◌, codes, sym}
use Rattle.std.specs.Fmt.{decimal}
use Rattle.sw_types.specs.Hex.{hex_text}
use Rattle.sw_types.specs.Stamp.{stamp_text}
use Rattle.sw_sim_text.specs.Text.{durable_text}
use Rattle.sw_sim_text.proofs.Printed.{pieces_of_stored}
use Rattle.sw_sim_text.proofs.show.stored_line.Goals as goal

pub returns : goal.returns
returns c =
    let entry = c.args.entry in
    let payload : c.as_slice-2.result.now ≡ hex_text c.args.payload.now = rw (c.as_slice-2.ensures, c.in_ok-payload.ensures, c.as_slice.ensures) in
    rw (c.in_ok-extend_from_slice-2.ensures.ok, c.in_ok-extend_from_slice.ensures.ok, payload, c.from-line.ensures, c.into_bytes.ensures.value, c.in_ok-front.ensures.ok, c.durable_word-durable.ensures)
    (sym (pieces_of_stored (codes "s ") (decimal c.args.device) (32 ∷ decimal entry.index) (32 ∷ stamp_text entry.stamp) (32 ∷ durable_text entry.durable) (32 ∷ []) (hex_text c.args.payload.now) (10 ∷ [])))
