use Rattle.std.proofs.Common.{◌≡◌, ℕ, rules}
use Rattle.std.proofs.lemmas.Fn.{always_returns_same}
use Rattle.sw_message.specs.declared.target.Target.{Target}
use Rattle.sw_message.proofs.Ascents.{sorted_ascending}
use Rattle.sw_message.proofs.target.sort_targets.Goals as goal

abbrev key : Target → ℕ × ℕ
key target = (target.index, target.device)

pub returns : goal.returns
returns c = sorted_ascending _ _ c.sort_unstable_by_key.ensures.permutation
    (c.sort_unstable_by_key.ensures.sorted key (always_returns_same _ (λ a r. r ≡ key a.0.now) _ (λ a r q k. search rules)))
