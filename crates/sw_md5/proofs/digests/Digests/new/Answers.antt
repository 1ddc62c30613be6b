use Rattle.std.proofs.Common.{◌<◌, ℕ, List, [], replicate, refl, arith}
use Rattle.std.proofs.lemmas.List.{length-replicate, get_or-replicate}
use Rattle.sw_md5.proofs.Together.{absorbed_none}
use Rattle.sw_md5.proofs.digests.Digests.new.Goals as goal

pub returns-clause-empty : goal.returns-clause-empty
returns-clause-empty c = record {
  each = length-replicate {A = List ℕ} c.args.count [];
  total = λ i low. let l : i < c.args.count = omega (arith, length-replicate {A = List ℕ} c.args.count []) in rw (get_or-replicate {A = List ℕ} c.args.count i [] [] l) refl;
  absorbed = λ i low. absorbed_none c.args.count i 32 (replicate 32 (replicate 64 0)) (omega (arith, length-replicate {A = List ℕ} c.args.count [])) c.requires.most;
}
