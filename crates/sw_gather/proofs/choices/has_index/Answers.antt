use Rattle.std.proofs.Common.{reverse, sym, rules, ◌∙◌}
use borrow.Author.Tests.{tests}
use Rattle.std.proofs.lemmas.Iterator.Adapters.{YieldsList-from_rev_slice}
use Rattle.std.proofs.lemmas.Iterator.Search.{any_from_yields_List}
use Rattle.std.proofs.lemmas.List.Sorted.{IsPermutation-reverse, list_any-IsPermutation}
use Rattle.sw_gather.specs.Choices.{has_index}
use Rattle.sw_gather.proofs.choices.has_index.Goals as goal

pub returns : goal.returns
returns c =
    any_from_yields_List (has_index c.args.index) _ _ _ c.any.ensures.ran (YieldsList-from_rev_slice c.args.sources.now cc) (λ x b q k. search (rules, tests))
    ∙ sym (list_any-IsPermutation (has_index c.args.index) c.args.sources.now (reverse c.args.sources.now) (IsPermutation-reverse c.args.sources.now))
