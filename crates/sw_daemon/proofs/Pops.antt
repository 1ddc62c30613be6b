-- The first item of a list is taken out of it.
use Rattle.std.proofs.Common.{◌≡◌, List, ◌++◌, Option, Some, None, ap, subst, ◌∙◌}
use Rattle.std.specs.List.{All}
use Rattle.std.specs.Option.{option_to_list}
use Rattle.std.proofs.lemmas.List.Elements.{All-head, All-tail}

module _ {X : Type 0} (P : X → Type 0) (xs rest : List X) where
  pub rest_all : (first : Option X) → xs ≡ option_to_list first ++ rest → All P xs → All P rest
  rest_all None is all = subst (All P) is all
  rest_all (Some x) is all = All-tail P x rest (subst (All P) is all)

  pub first_all : (first : Option X) (x : X) → xs ≡ option_to_list first ++ rest → first ≡ Some x → All P xs → P x
  first_all first x is some all = All-head P x rest (subst (All P) (is ∙ ap (λ (one : Option X). option_to_list one ++ rest) some) all)
