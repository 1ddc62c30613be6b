use Rattle.std.proofs.Common.{Some, ap, ◌∙◌, arith, length, length-append}
use Rattle.std.specs.Result.{result_ok}
use Rattle.std.proofs.lemmas.Option.{none-some}
use Rattle.hex.specs.Hex.{encode_lower}
use Rattle.sw_hashpath.proofs.Hashes.{hash_from_end, length-encode_lower}
use Rattle.sw_hashpath.proofs.place.last_hash.Goals as goal

pub returns-in_err-digits : goal.returns-in_err-digits
returns-in_err-digits c = λ front hash is_hash ends.
    let size = length-encode_lower hash in
    absurd (omega (arith, is_hash.sixteen, c.in_err-digits.ensures.cases, ap length ends, length-append front (encode_lower hash)))

pub returns-in_err-ok : goal.returns-in_err-ok
returns-in_err-ok c = λ front hash is_hash ends.
    let read = hash_from_end c.args.text.now front hash _ _ _ is_hash ends c.in_ok-digits.ensures.cases.1.same c.decode_to_slice.ensures.value in
    absurd (none-some tt (c.in_err-ok.ensures.value ∙ ap result_ok read.0))

pub returns : goal.returns
returns c = λ front hash is_hash ends.
    ap Some (hash_from_end c.args.text.now front hash _ _ _ is_hash ends c.in_ok-digits.ensures.cases.1.same c.decode_to_slice.ensures.value).1
