-- What a piece of several has.
use Rattle.std.proofs.Common.{◌≡◌, ℕ, ◌<◌, ◌≤◌, List, [], length, get_or, map, take, sym, ap, ◌∙◌, arith}
use Rattle.std.proofs.lemmas.List.{length-map, get_or-map, map-id, get_or-take}
use Rattle.sw_md5.specs.Side.{AllReach}

pub content_at : {V : Type 0} (content : V → List ℕ) (pieces : List V) (piece : V) (i : ℕ) → i < length pieces → piece ≡ get_or pieces i piece
    → get_or (map content pieces) i [] ≡ content piece
content_at content pieces piece i low is = get_or-map content pieces i piece [] low ∙ sym (ap content is)

pub reaches : {V : Type 0} (content : V → List ℕ) (pieces : List V) (piece : V) (i n : ℕ) → AllReach (map content pieces) n → i < length pieces → piece ≡ get_or pieces i piece
    → n ≤ length (content piece)
reaches content pieces piece i n reach low is =
    let there : i < length (map content pieces) = omega (arith, length-map pieces content) in
    let long = reach i there in
    rw (content_at content pieces piece i low is) at long

-- an item of the first ones, as they are
pub own_item : (lists : List (List ℕ)) (i n : ℕ) → i < n → get_or (map (λ x. x) (take n lists)) i [] ≡ get_or lists i []
own_item lists i n low = ap (λ l. get_or l i []) (map-id (take n lists)) ∙ get_or-take n lists i [] low
