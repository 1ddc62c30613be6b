use Rattle.std.proofs.Common.{◌≡◌, ◌≢◌, ℕ, List, [], ◌∷◌, ◌++◌, Bor, Option, Some, None, append_assoc, sym, ap, ◌∙◌}
use Rattle.std.specs.Prelude.{MatchOption}
use Rattle.std.proofs.lemmas.Bool.Decides.{Decides-eqb}
use Rattle.std.proofs.lemmas.List.{append_cancel_right}
use Rattle.std.proofs.lemmas.Option.{MatchOption-at_none, MatchOption-at_some}
use Rattle.std.proofs.lemmas.Slice.Eq.{strip_suffix_is}
use Rattle.sw_hashpath.proofs.place.front_of.Goals as goal

-- once the last part is cut off, the slash before it is
slash_cut : (text rest last : List ℕ) (found : Option (Bor (List ℕ))) → text ≡ rest ++ last → MatchOption found ((front : List ℕ) → rest ≢ front ++ 47 ∷ []) (λ front. rest ≡ front.now ++ 47 ∷ []) → MatchOption found ((front : List ℕ) → text ≢ front ++ 47 ∷ last) (λ front. text ≡ front.now ++ 47 ∷ last)
slash_cut text rest last None cut other =
    λ front ends. other front (append_cancel_right rest (front ++ 47 ∷ []) last (sym cut ∙ ends ∙ sym (append_assoc front (47 ∷ []) last)))
slash_cut text rest last (Some front) cut same =
    cut ∙ ap (λ start. start ++ last) same ∙ append_assoc front.now (47 ∷ []) last

pub returns-in_err-strip_suffix : goal.returns-in_err-strip_suffix
returns-in_err-strip_suffix c =
    let other = MatchOption-at_none _ _ c.in_err-strip_suffix.was (strip_suffix_is Decides-eqb c.args.text.now c.args.last.now _ c.strip_suffix.ensures.cases) in
    rw c.from_residual.ensures (λ front ends. other (front ++ 47 ∷ []) (ends ∙ sym (append_assoc front (47 ∷ []) c.args.last.now)))

pub returns : goal.returns
returns c =
    let cut = MatchOption-at_some _ _ _ c.in_ok-strip_suffix.was (strip_suffix_is Decides-eqb c.args.text.now c.args.last.now _ c.strip_suffix.ensures.cases) in
    slash_cut c.args.text.now c.in_ok-strip_suffix.field-0.now c.args.last.now _ cut (strip_suffix_is Decides-eqb c.in_ok-strip_suffix.field-0.now (47 ∷ []) _ c.strip_suffix-2.ensures.cases)
