-- A node whose disk gets a fuse is still a node, and its disk's calls go on no longer than that.
use Rattle.std.proofs.Common.{◌≡◌, ⊎_elim, ℕ, ◌+◌, ◌≤◌, Bool, true, false, ◌||◌, ◌==◌, ltb, max, min, refl, sym, ap, ◌∙◌, arith}
use Rattle.std.specs.List.{list_any}
use Rattle.std.proofs.lemmas.Bool.{cases_lt, le-ltb, lt-ltb, true≢false}
use Rattle.sw_words.specs.Counts.{last_count}
use Rattle.sw_memdisk.specs.Memory.{MemDiskModel, fails, seen_of}
use Rattle.sw_ring.specs.Cluster.{ClusterModel}
use Rattle.sw_objsrv.specs.Node.{IsNode}
use Rattle.sw_sim_nodes.specs.Crashing.{fused}
use Rattle.sw_sim_nodes.specs.Nodes.{MemNode}

pub fused_node : (cluster : ClusterModel) (calls : ℕ) (node : MemNode) → IsNode cluster seen_of node → IsNode cluster seen_of (fused calls node)
fused_node cluster calls node is = record {
  rules = is.rules;
  power_is = is.power_is;
  member = is.member;
  in_order = is.in_order;
  accounted = λ none.
      let accounted = is.accounted none in
      record { names = accounted.names; distinct = accounted.distinct; others = accounted.others; used_is = accounted.used_is };
}

-- a node that is due for a mount, whatever its disk is
pub due_node : (cluster : ClusterModel) (node : MemNode) (disk : MemDiskModel) → IsNode cluster seen_of node → IsNode cluster seen_of (record node { disk = disk; is_due = true })
due_node cluster node disk is = record {
  rules = is.rules;
  power_is = is.power_is;
  member = is.member;
  in_order = λ none. absurd (true≢false none);
  accounted = λ none. absurd (true≢false none);
}

-- the call behind those that go on fails
pub fuse_fails : (calls : ℕ) (node : MemNode) → fails (fused calls node).disk (node.disk.calls + max calls 1 + 1) ≡ true
fuse_fails calls node =
    let number : ℕ = node.disk.calls + max calls 1 + 1 in
    ap (λ (b : Bool). ltb last_count number || (list_any (λ (k : ℕ). k == number) node.disk.failing || b)) (lt-ltb (min (node.disk.calls + max calls 1) last_count) number (omega arith))
    ∙ ends (ltb last_count number) (list_any (λ (k : ℕ). k == number) node.disk.failing)
  where
    ends : (a b : Bool) → (a || (b || true)) ≡ true
    ends true b = refl
    ends false true = refl
    ends false false = refl

-- Whether the calls of a fuse were used up does not depend on where the count of calls ends.
pub used_up : (begun calls ended last count : ℕ) → last ≡ min (begun + max calls 1) last_count → count ≡ ended → count ≤ last_count → ltb last count ≡ ltb (begun + max calls 1) ended
used_up begun calls ended last count is same within = ⊎_elim
    (λ more. lt-ltb last count (omega (arith, is, same, more, within)) ∙ sym (lt-ltb (begun + max calls 1) ended more))
    (λ few. le-ltb last count (omega (arith, is, same, few, within)) ∙ sym (le-ltb (begun + max calls 1) ended few))
    (cases_lt (begun + max calls 1) ended)
