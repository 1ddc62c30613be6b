use Rattle.std.proofs.Common.{rules, ◌≡◌, ◌≢◌, ℕ, ◌==◌, Bool, false, List, length, map, get_or, ap, ◌∙◌, arith}
use Rattle.std.specs.List.{All, IsAnyAnswer}
use Rattle.std.proofs.lemmas.Bool.Decides.{Decides-eqb}
use Rattle.std.proofs.lemmas.List.{length-map, get_or-map}
use Rattle.std.proofs.lemmas.List.Elements.{contains_decides}
use Rattle.sw_cauchy.specs.Share.{Share}
use Rattle.sw_cauchy.proofs.tests.gather_fragments.Goals as goal

-- no share has an index that is not taken
new_index : (shares : List Share) (taken : List ℕ) (index : ℕ) (r : Bool) → taken ≡ map (λ (share : Share). share.index) shares → IsAnyAnswer (λ y t. (y == index) ≡ t) taken r → r ≡ false
    → All (λ (share : Share). share.index ≢ index) shares
new_index shares taken index r same answer none k d h e =
    let at : (x : ℕ) → get_or taken k x ≡ index = (λ x. ap (λ xs. get_or xs k x) same ∙ get_or-map (λ (share : Share). share.index) shares k d x h ∙ e) in
    let within : length taken ≡ length shares = ap length same ∙ length-map shares (λ (share : Share). share.index) in
    let found = (contains_decides (λ a b. a == b) Decides-eqb taken index r answer).1 (k, omega arith, at) in
    cc

pub add-requires-clause-new : goal.add-requires-clause-new
add-requires-clause-new g c = new_index c.loop-t.gather.shares c.deref.result.now _ c.contains.result (c.deref.ensures.value ∙ c.loop-t.invariant.taken) c.contains.ensures.cases (search rules)
