use Rattle.std.proofs.Common.{arith, codes}
use Rattle.std.specs.Fmt.{decimal}
use Rattle.std.proofs.lemmas.Bool.Decides.{Decides-eqb}
use Rattle.std.proofs.lemmas.Option.{MatchOption-at_some}
use Rattle.std.proofs.lemmas.Slice.Eq.{strip_prefix_is}
use Rattle.hex.specs.Hex.{encode_lower}
use Rattle.sw_hashpath.specs.Place.{suffix_of}
use Rattle.sw_hashpath.proofs.Hashes.{folder_by_parts, folder_front, suffix_of-digits}
use Rattle.sw_hashpath.proofs.place.Place.has_folder.Goals as goal

pub returns-in_default-front_of-2 : goal.returns-in_default-front_of-2
returns-in_default-front_of-2 c =
    let after = MatchOption-at_some _ _ _ c.in-Some.is (strip_prefix_is Decides-eqb c.args.text.now (codes "objects/") _ c.strip_prefix.ensures.cases) in
    let suffix = suffix_of-digits c.self.inside.hash _ (omega arith) c.digits_of-digits.ensures in
    let before = rw c.digits_of-digits.ensures at c.in-Some-front_of.ensures in
    let other = rw suffix at c.in_default-front_of-2.ensures in
    rw (← c.self.view_is) (
      λ no. cc,
      λ printed. absurd (other (decimal c.self.inside.part) (folder_front _ _ _ (decimal c.self.inside.part) (suffix_of c.self.inside.hash) (encode_lower c.self.inside.hash) after before printed)),
    )

pub returns : goal.returns
returns c =
    let after = MatchOption-at_some _ _ _ c.in-Some.is (strip_prefix_is Decides-eqb c.args.text.now (codes "objects/") _ c.strip_prefix.ensures.cases) in
    let suffix = suffix_of-digits c.self.inside.hash _ (omega arith) c.digits_of-digits.ensures in
    let before = rw c.digits_of-digits.ensures at c.in-Some-front_of.ensures in
    let cut = rw suffix at c.in-Some-front_of-2.ensures in
    let parts = folder_by_parts c.args.text.now c.in-Some.rest.now c.in-Some-front_of.rest.now (decimal c.self.inside.part) c.in-Some-front_of-2.part.now (suffix_of c.self.inside.hash) (encode_lower c.self.inside.hash) after before cut in
    let is = rw c.from.ensures at c.is_decimal.ensures in
    rw (← c.self.view_is) (λ yes. parts.1 (is.0 yes), λ printed. is.1 (parts.0 printed))
