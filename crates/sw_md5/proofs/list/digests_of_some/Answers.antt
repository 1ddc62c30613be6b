use Rattle.std.proofs.Common.{◌≡◌, List, ℕ, [], length, map, take, replicate, subst, ap, ◌∙◌}
use Rattle.std.proofs.lemmas.List.{map-id}
use Rattle.md5.specs.Md5.{md5}
use Rattle.sw_md5.specs.UnderWay.{joined}
use Rattle.sw_md5.proofs.Together.{joined_empty}
use Rattle.sw_md5.proofs.list.digests_of_some.Goals as goal

pub returns : goal.returns
returns c =
    let messages = c.args.messages.now in
    let all = ap (joined (replicate (length messages) [])) (map-id messages) ∙ joined_empty messages in
    subst (λ (l : List (List ℕ)). take (length l) c.finish.result ≡ map md5 l) all (c.finish.ensures _ (c.update.ensures.goes_on _ c.new-digests.ensures.empty))
