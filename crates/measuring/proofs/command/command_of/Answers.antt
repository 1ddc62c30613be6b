use Rattle.std.proofs.Common.{◌≡◌, [], ◌∷◌, codes, string_bytes, sym, ap₂, ◌∙◌}
use Rattle.std.specs.Fmt.{decimal}
use Rattle.std.proofs.lemmas.Bool.Decides.{Decides-eqb}
use Rattle.std.proofs.lemmas.Slice.Eq.{slice_eq-Decides}
use Rattle.measuring.proofs.Words.{last_two}
use Rattle.measuring.proofs.command.command_of.Goals as goal

pub returns-then-eq-clause-found : goal.returns-then-eq-clause-found
returns-then-eq-clause-found c =
    let measure : string_bytes c.index-words-1.result ≡ codes "measure" =
    sym c.as_str.ensures.value ∙ (slice_eq-Decides Decides-eqb c.as_str.result.now (codes "measure") c.eq.result c.eq.ensures).0 c.if-eq.true in
    let seconds : string_bytes c.index-words-2.result ≡ decimal c.in_ok-seconds.seconds = sym c.as_bytes.ensures.value ∙ c.in_ok-seconds.ensures.found in
    last_two (λ word. string_bytes word) c.args.words.now c.index-words-1.result c.index-words-2.result c.if-words-eq3.true c.index-words-1.is c.index-words-2.is
    ∙ ap₂ (λ first second. first ∷ second ∷ []) measure seconds
