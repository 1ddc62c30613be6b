use Rattle.std.proofs.Common.{◌≡◌, ℕ, ap, subst, ◌∙◌}
use Rattle.sw_words.specs.Counts.{one_more}
use Rattle.sw_memshelf.specs.Memory.{ShelfModel, faults_of, with_back}
use Rattle.sw_memshelf.proofs.Counting.{refused_more}
use Rattle.sw_memshelf.proofs.shelf.MemShelfShelf.disk.Goals as goal

pub returns-then-eq-clause-failed : goal.returns-then-eq-clause-failed
returns-then-eq-clause-failed c = λ _.
    subst (λ (before : ShelfModel). with_back c.saturating_add-self-inside.result c.self.inside.back.items ≡ one_more (faults_of before)) c.self.view_is
    (ap (λ (n : ℕ). with_back n c.self.inside.back.items) c.saturating_add-self-inside.ensures ∙ refused_more c.self.inside.refused c.self.inside.back.items)
