use Rattle.std.proofs.Common.{List, ℕ, subst, arith, Bor}
use Rattle.sw_md5.specs.UnderWay.{HoldsMessages}
use Rattle.sw_md5.proofs.Together.{for_all-alike, joined-for_all}
use Rattle.sw_md5.proofs.digests.Digests.update_all.Goals as goal

pub update-requires-clause-alike : goal.update-requires-clause-alike
update-requires-clause-alike c = for_all-alike (λ (piece : Bor (List ℕ)). piece.now) c.args.bytes c.args.self.now.count 32 (omega arith) (omega arith)

pub returns-clause-goes_on : goal.returns-clause-goes_on
returns-clause-goes_on c = λ messages held.
    subst (λ l. HoldsMessages c.update.new.self l) (joined-for_all (λ (piece : Bor (List ℕ)). piece.now) c.args.bytes messages c.args.self.now.count 32 (omega arith) held.each)
    (c.update.ensures.goes_on messages held)
