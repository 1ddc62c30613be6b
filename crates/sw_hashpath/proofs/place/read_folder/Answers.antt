use Rattle.std.proofs.Common.{◌∙◌, Some, ap, sym}
use Rattle.std.proofs.lemmas.Option.{same_Some}
use Rattle.sw_hashpath.specs.Place.{folder_of}
use Rattle.sw_hashpath.proofs.Hashes.{folder_hash, place_of-hash}
use Rattle.sw_hashpath.proofs.place.read_folder.Goals as goal

pub returns-in_err-last_hash-clause-reads : goal.returns-in_err-last_hash-clause-reads
returns-in_err-last_hash-clause-reads c = rw c.from_residual.ensures (λ place is_place printed.
    let found = folder_hash c.args.power place _ _ is_place (c.as_bytes-text.ensures.value ∙ printed) c.in_err-last_hash.ensures in
    absurd (cc))

pub returns-then-has_folder-clause-reads : goal.returns-then-has_folder-clause-reads
returns-then-has_folder-clause-reads c = λ place is_place printed.
    let found = folder_hash c.args.power place _ _ is_place (c.as_bytes-text.ensures.value ∙ printed) c.in_ok-last_hash.ensures in
    let same = place_of-hash c.args.power place _ is_place (same_Some _ _ found) in
    ap Some (c.place_of-place.ensures.place ∙ same)

pub returns-else-has_folder-clause-reads : goal.returns-else-has_folder-clause-reads
returns-else-has_folder-clause-reads c = λ place is_place printed.
    let text = c.as_bytes-text.ensures.value ∙ printed in
    let found = folder_hash c.args.power place _ _ is_place text c.in_ok-last_hash.ensures in
    let same = place_of-hash c.args.power place _ is_place (same_Some _ _ found) in
    absurd (cc (c.if-has_folder.ensures.1 (text ∙ sym (ap folder_of (c.place_of-place.ensures.place ∙ same)))))
