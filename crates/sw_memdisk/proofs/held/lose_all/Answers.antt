use Rattle.std.proofs.Common.{◌≡◌, ℕ, ◌<◌, ◌+◌, ◌++◌, List, drop, get_or, length, map, take, sym, ap, ◌∙◌, arith}
use Rattle.std.proofs.Math.ListN.{get_or-map, set}
use Rattle.std.proofs.lemmas.List.{length-map, map-set}
use Rattle.std.proofs.lemmas.List.Edits.{map_over_more}
use Rattle.sw_memdisk.specs.Held.{content_of}
use Rattle.sw_memdisk.specs.Log.{crashed_content}
use Rattle.sw_memdisk.specs.declared.held.MemContent.{MemContent}
use Rattle.sw_memdisk.proofs.held.lose_all.Goals as goal

one_more : (xs ys : List MemContent) (i : ℕ) (x y : MemContent) → i < length xs → map content_of ys ≡ map crashed_content (take i (map content_of xs)) ++ drop i (map content_of xs) → x ≡ get_or ys i x → content_of y ≡ crashed_content (content_of x)
    → map content_of (set ys i y) ≡ map crashed_content (take (i + 1) (map content_of xs)) ++ drop (i + 1) (map content_of xs)
one_more xs ys i x y less before is crashed =
    map-set content_of ys i y ∙ ap (set (map content_of ys) i) crashed
    ∙ map_over_more crashed_content (map content_of xs) (map content_of ys) i (content_of x) (let e = length-map xs content_of in omega (arith, e, less)) before (ap content_of is ∙ sym (get_or-map content_of ys i x))

pub loop-content-preserved : goal.loop-content-preserved
loop-content-preserved c = one_more c.args.contents.now c.loop-content.contents c.loop-content.content-index c.content-item.result c.lose_unsynced.new.content c.loop-content-test.true c.loop-content.invariant c.content-item.is (c.lose_unsynced.ensures ∙ ap (λ (content : MemContent). crashed_content (content_of content)) (sym c.content-item.is))
