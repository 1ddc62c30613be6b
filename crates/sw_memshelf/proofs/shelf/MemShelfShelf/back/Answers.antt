use Rattle.std.proofs.Common.{rules, ◌≡◌, ◌++◌, ◌∷◌, [], Bool, true, cond, ap, subst, is_ok, ◌∙◌}
use Rattle.sw_shelf.specs.Shelf.{after_back}
use Rattle.sw_memshelf.specs.Memory.{ShelfModel, faults_of, with_back}
use Rattle.sw_memshelf.proofs.Counting.{back_more}
use Rattle.sw_memshelf.proofs.shelf.MemShelfShelf.back.Goals as goal

pub returns-clause-faults : goal.returns-clause-faults
returns-clause-faults c =
    let is_back : is_ok c.push.result ≡ true = search rules in
    let items : c.push.new.self.items ≡ c.self.inside.back.items ++ (c.args.device, c.args.disk) ∷ [] =
    c.push.ensures.items ∙ ap (λ (b : Bool). cond b (c.self.inside.back.items ++ (c.args.device, c.args.disk) ∷ []) c.self.inside.back.items) is_back in
    subst (λ (before : ShelfModel). with_back c.self.inside.refused c.push.new.self.items ≡ after_back c.args.disk.faults (faults_of before)) c.self.view_is
    (ap (with_back c.self.inside.refused) items ∙ back_more c.self.inside.refused c.self.inside.back.items c.args.device c.args.disk)
