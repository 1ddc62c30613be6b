-- The rule as the table is made.
use Rattle.std.proofs.Common.{◌≡◌, ℕ, zero, suc, ◌+◌, true≢false, List, [], ◌∷◌, length, get_or, replicate, take, Contains, None, refl, sym, ap, subst, arith}
use mathlib.Core.Option.{some, some-injective, some-ne-none}
use lib.ListN.{get_elem?}
use Rattle.atomic_table.specs.Table.{opening}
use Rattle.sw_diskfile.proofs.Lists.{Contains-none}
use Rattle.sw_ring.specs.Cluster.{ClusterModel, KeepsRules}
use Rattle.sw_pass.specs.Known.{size_of}
use Rattle.sw_pass.specs.Rule.{Fits, IsKept, word_at}
use Rattle.sw_pass.specs.Steps.{newcomer}
use Rattle.sw_pass.specs.declared.known.Known.{Known}
use Rattle.sw_pass.proofs.Counts.{claims_none}
use Rattle.sw_pass.proofs.Histories.{continues_none}
use Rattle.sw_pass.proofs.Joining.{nothing_closed}

pub starts : (cluster : ClusterModel) (ws : List ℕ) (xs : List Unit) → KeepsRules cluster → length ws ≡ size_of cluster + 2 → ((i : ℕ) → ◌≡◌ {A = ℕ} (get_or ws i 0) 0) → IsKept cluster (opening ws xs newcomer)
starts cluster ws xs rules wide zeros = record {
  account = record { past = λ x. []; seat = λ x. 0; owed = λ x. None };
  rules = rules;
  wide = wide;
  each = one;
  agree = λ i j v w a b f g has. absurd (Contains-none f (subst (λ z. Contains z f) (sym (no_facts i v a)) has));
  device = λ x inside. record { claimed = zeros (x + 1); fresh = λ device stamp mark here least. tt; rises = tt; beneath = tt; unclaimed = λ _. refl };
  nodes = λ slot inside begun. absurd (omega (arith, begun));
  beyond = λ x out. (refl, refl);
  counts =
      let a = zeros 0 in
      let b = zeros (size_of cluster + 1) in
      let c = claims_none (word_at ws) (size_of cluster) (λ x. zeros (x + 1)) in
      record { passes = omega arith; pending = omega arith; clock = omega arith; lost = omega arith; nodes = sym c };
}
  where
    one : (id : ℕ) (v : Known) → get_elem? (newcomer ∷ []) id ≡ some v → Fits cluster (record { past = λ x. []; seat = λ x. 0; owed = λ x. None }) (get_or ws 0 0) (get_or ws (size_of cluster + 1) 0) id v
    one zero v e = subst (Fits cluster (record { past = λ x. []; seat = λ x. 0; owed = λ x. None }) (get_or ws 0 0) (get_or ws (size_of cluster + 1) 0) zero) (some-injective _ _ e) (record {
      kind = refl;
      drawn = λ x c. absurd (Contains-none x c);
      histories = λ x. continues_none [];
      closed = nothing_closed cluster;
      olds = λ o c. absurd (Contains-none o c);
      mark = omega arith;
      clock = omega arith;
      raising = omega arith;
      losing = omega arith;
      late = λ x c. absurd (Contains-none x c);
      full = λ is. absurd (true≢false (sym is));
    })
    one (suc id) v e = absurd (some-ne-none v (sym e))

    no_facts : (id : ℕ) (v : Known) → get_elem? (newcomer ∷ []) id ≡ some v → [] ≡ v.drawn
    no_facts zero v e = ap (λ (z : Known). z.drawn) (some-injective newcomer v e)
    no_facts (suc id) v e = absurd (some-ne-none v (sym e))

pub zeros : (n k i : ℕ) → ◌≡◌ {A = ℕ} (get_or (take k (replicate n 0)) i 0) 0
zeros zero zero i = refl
zeros zero (suc k) i = refl
zeros (suc n) zero i = refl
zeros (suc n) (suc k) zero = refl
zeros (suc n) (suc k) (suc i) = zeros n k i
