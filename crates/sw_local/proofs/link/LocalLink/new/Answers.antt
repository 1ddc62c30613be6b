use Rattle.std.proofs.Common.{◌≡◌, Bool, Some, subst, sym}
use Rattle.sw_cell.specs.Learning.{HasLearnt}
use Rattle.sw_cell.proofs.Alone.{learnt_alone}
use Rattle.sw_local.specs.Link.{learnt_of, told_by}
use Rattle.sw_local.proofs.Telling.{told_all}
use Rattle.sw_local.proofs.link.LocalLink.new.Given as given
use Rattle.sw_local.proofs.link.LocalLink.new.Goals as goal

learnt : (g : given.Over) (c : goal.After-learn g) → HasLearnt g.C.OfCluster.cluster c.args.pass.known c.learn.new.self.known
learnt g c = learnt_alone g.C.OfCluster.cluster c.args.pass.known c.learn.new.self.known c.learn.ensures.known c.learn.ensures.learnt

pub returns-clause-learnt : goal.returns-clause-learnt
returns-clause-learnt g c = learnt g c

pub returns-clause-tells : goal.returns-clause-tells
returns-clause-tells g c = λ tells. subst (λ (b : Bool). told_by g.C.OfCluster.cluster b c.learn.new.self.known ≡ Some (learnt_of g.C.OfCluster.cluster c.learn.new.self.known)) (sym tells)
    (told_all g.C.OfCluster.cluster c.learn.new.self.known (let it = learnt g c in (it.sound, it.agree)))
