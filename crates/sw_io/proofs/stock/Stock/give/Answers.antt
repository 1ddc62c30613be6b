use Rattle.std.proofs.Common.{◌≡◌, ℕ, List, ◌++◌, arith, length, take, drop, min}
use Rattle.std.proofs.lemmas.List.{drop-drop, take_rest}
use Rattle.std.proofs.lemmas.Grind.{common_steps}
use Rattle.sw_io.proofs.stock.Stock.give.Goals as goal

-- what was copied from the front of what is left is gone from it
moved : (left piece room : List ℕ) (count : ℕ) → piece ≡ take count left → count ≡ min (length left) (length room)
    → left ≡ take count (piece ++ drop count room) ++ drop count left
moved left piece room count copied least = grind (arith, common_steps)

pub returns-clause-bytes : goal.returns-clause-bytes
returns-clause-bytes c =
    let s = c.self.inside in
    let n = c.min-count.result in
    let left = take_rest s.all.items s.given in
    rw (← c.self.view_is, ← drop-drop) (moved (drop s.given s.all.items) c.copy_from_slice.new.self c.args.room.now n (grind (arith, common_steps, left)) (grind (arith, common_steps, left)))
