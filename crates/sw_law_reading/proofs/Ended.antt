-- A get in whose last round k indices are listed by devices that are not out does not want for archives. (Of the transcript alone.)
use Rattle.std.proofs.Common.{◌≡◌, ◌≢◌, inl, inr, ⊎_elim, ℕ, ◌≤◌, All, AllPairs, Contains, List, [], length, refl, subst, arith}
use Rattle.std.proofs.lemmas.List.Elements.{All-contains}
use Rattle.std.proofs.lemmas.List.{length-map}
use Rattle.sw_diskfile.proofs.Lists.{Contains-first, Contains-map, Contains-none, mapped}
use Rattle.sw_message.specs.Transcript.{Step}
use Rattle.sw_message.specs.declared.target.Target.{Target}
use Rattle.sw_gather.proofs.Sources.{indices_apart, indices_of}
use Rattle.sw_get.specs.Causes.{AreShort, AreUsedUp, AreWanting, IsLoss, ListsAt, WasLost}
use Rattle.sw_get.specs.Get.{AreTurns, Begun, Hears, Turn, facts_in, fetch_message, lacking}
use Rattle.sw_get.specs.Meaning.{Brings, Lacks, Lists, Meaning, Misses}
use Rattle.sw_get.proofs.Turns.{now}
use Rattle.sw_law_rounds.specs.Missed.{HasMissed}
use Rattle.sw_law_rounds.proofs.Counting.{at_most}
use Rattle.sw_law_rounds.proofs.Handed.{in_whole}
use Rattle.sw_law_rounds.proofs.LastRound.{in_heard}

module _ (begun : Begun) (past : List Step) (turns : List Turn) (are : AreTurns begun past turns) (out : List ℕ) (missed_out : (device : ℕ) → HasMissed begun past device → Contains out device) (stamp : ℕ) where
  -- a device that is not out listed an entry of the index
  abbrev pub IsListed : Target → Type 0
  IsListed target = (Contains out target.device → ⊥) × ListsAt begun.cluster.policy (facts_in begun turns).lists stamp target

  module _ (targets : List Target) (enough : begun.cluster.policy.k ≤ length targets) (apart : AllPairs (λ one other. one.index ≢ other.index) targets) (all_listed : All IsListed targets) where
    is_listed : (target : Target) → Contains targets target → IsListed target
    is_listed target has = All-contains IsListed targets target all_listed has

    -- where their indices are all among some, these are as many
    as-many : (indices : List ℕ) → ((target : Target) → Contains targets target → Contains indices target.index) → begun.cluster.policy.k ≤ length indices
    as-many indices all =
        let fits = at_most (indices_of targets) indices (indices_apart targets apart) (λ index has.
        let from = mapped (λ (target : Target). target.index) targets index has in subst (Contains indices) from.2 (all from.0 from.1)) in
        omega (arith, fits, enough, length-map targets (λ (target : Target). target.index))

    -- so k indices are listed
    not-short : AreShort begun turns stamp → ⊥
    not-short short =
        let fits = as-many short.indices (λ target has. (short.are.listed target.index).1 (target.device, (is_listed target has).1)) in
        omega (arith, fits, short.few)

    -- none of their archives is lost where none is gone
    module _ (none_gone : (facts_in begun turns).gone ≡ []) (target : Target) (in_it : Contains out target.device → ⊥) where
      not-lost-by : (ticket : ℕ) (meaning : Meaning) → Contains (now begun turns) (Hears (fetch_message begun ticket stamp target) meaning) → IsLoss meaning → ⊥
      not-lost-by ticket (Lacks listing) heard loss =
          Contains-none target (subst (λ these. Contains these target) none_gone (in_heard lacking (now begun turns) (fetch_message begun ticket stamp target) (Lacks listing) target heard (Contains-first target [])))
      not-lost-by ticket (Misses how) heard loss = in_it (missed_out target.device (turns, are, how, (fetch_message begun ticket stamp target, in_whole begun turns _ heard, refl)))
      not-lost-by ticket (Lists listing) heard loss = loss
      not-lost-by ticket (Brings archive) heard loss = loss

      not-lost : WasLost begun (now begun turns) stamp target → ⊥
      not-lost lost = not-lost-by lost.ticket lost.meaning lost.heard lost.loss

    -- so k archives were brought
    not-used-up : AreUsedUp begun turns stamp → (facts_in begun turns).gone ≡ [] → ⊥
    not-used-up used none_gone =
        let sources = (facts_in begun turns).sources in
        let fits = as-many (indices_of sources) (λ target has.
        let listed = is_listed target has in
        ⊎_elim
        (λ lost. absurd (not-lost none_gone target listed.0 lost))
        (λ brought. subst (Contains (indices_of sources)) brought.2 (Contains-map (λ (source : Target). source.index) sources brought.0 brought.1))
        (used.spent target listed.1)) in
        omega (arith, fits, used.few, length-map sources (λ (source : Target). source.index))

    -- the archives are not wanting
    pub not-wanting : AreWanting begun turns stamp → ⊥
    not-wanting (inl short) = not-short short
    not-wanting (inr (used, none_gone)) = not-used-up used none_gone
