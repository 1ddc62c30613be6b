use Rattle.std.proofs.Common.{◌≡◌, ◌++◌, List, ℕ, [], ◌∷◌, codes, ap, ◌∙◌}
use Rattle.http.specs.StatusCode.{code_digits}
use Rattle.sw_httpwrite.specs.Response.{phrase_of}
use Rattle.sw_httpwrite.proofs.Pushes.{five_pushed}
use Rattle.sw_httpwrite.proofs.head.push_status.Goals as goal

pub returns : goal.returns
returns c =
    let digits : c.as_bytes.result.now ≡ code_digits c.args.status = c.as_bytes.ensures.value ∙ c.as_str.ensures in
    let phrase : c.as_bytes-2.result.now ≡ phrase_of c.args.status = c.as_bytes-2.ensures.value ∙ c.phrase_of.ensures in
    five_pushed c.extend_from_slice-5.result c.args.head.now c.extend_from_slice.new.self c.extend_from_slice-2.new.self c.extend_from_slice-3.new.self c.extend_from_slice-4.new.self
    c.extend_from_slice-5.new.self (codes "HTTP/1.1 ") (code_digits c.args.status) (codes " ") (phrase_of c.args.status) (13 ∷ 10 ∷ [])
    c.in_ok-extend_from_slice.ensures.ok
    (c.in_ok-extend_from_slice-2.ensures.ok ∙ ap (λ (l : List ℕ). c.extend_from_slice.new.self ++ l) digits)
    c.in_ok-extend_from_slice-3.ensures.ok
    (c.in_ok-extend_from_slice-4.ensures.ok ∙ ap (λ (l : List ℕ). c.extend_from_slice-3.new.self ++ l) phrase)
    c.extend_from_slice-5.ensures.ok
