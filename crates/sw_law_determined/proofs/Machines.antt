-- The machine of each operation says one thing after a transcript.
use Rattle.std.proofs.Common.{◌≡◌, List, sym, ◌∙◌}
use Rattle.sw_ring.specs.Cluster.{KeepsRules}
use Rattle.sw_message.specs.Transcript.{Next, Step}
use Rattle.sw_get.proofs.Machine as gets
use Rattle.sw_recon.proofs.Machine as reverts
use Rattle.sw_sync.proofs.Sameness as syncs
use Rattle.sw_operation.specs.Operating.{Begun, Delete, Get, Head, IsBegun, IsNext, Put, Revert, Sync, cluster_of}

-- what may be begun so is begun in a cluster that keeps the rules
pub rules_of : (begun : Begun) → IsBegun begun → KeepsRules (cluster_of begun)
rules_of (Put begun) valid = valid.rules
rules_of (Get begun) valid = valid.rules
rules_of (Head begun) valid = valid.rules
rules_of (Delete begun) valid = valid.rules
rules_of (Sync begun) valid = valid.rules
rules_of (Revert begun) valid = valid.rules

pub one_next : (begun : Begun) → KeepsRules (cluster_of begun) → (past : List Step) (one other : Next) → IsNext begun past one → IsNext begun past other → one ≡ other
one_next (Put begun) rules past one other x y = sym x ∙ y
one_next (Get begun) rules past one other x y = gets.one_next begun past one other x y
one_next (Head begun) rules past one other x y = gets.one_next begun past one other x y
one_next (Delete begun) rules past one other x y = sym x ∙ y
one_next (Sync begun) rules past one other x y = syncs.one_next begun rules past one other x y
one_next (Revert begun) rules past one other x y = reverts.one_next begun past one other x y
