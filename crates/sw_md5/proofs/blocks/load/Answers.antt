use Rattle.std.proofs.Common.{◌∷◌, [], ◌∙◌}
use Rattle.sw_md5.proofs.Lists.{four_items}
use Rattle.sw_md5.proofs.blocks.load.Goals as goal

pub returns : goal.returns
returns g c = λ j l within.
    (λ t. (c.from_words.ensures j l ∙ c.column.ensures.words j l within) t
    ∷ (c.from_words-2.ensures j l ∙ c.column-2.ensures.words j l within) t
    ∷ (c.from_words-3.ensures j l ∙ c.column-3.ensures.words j l within) t
    ∷ (c.from_words-4.ensures j l ∙ c.column-4.ensures.words j l within) t ∷ [])
    ∙ four_items _ (c.column.ensures.long j l within)
