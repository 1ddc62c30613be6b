-- Suffixes of other primaries, and the pass that compares them.
use Rattle.std.proofs.Common.{◌≡◌, ◌≢◌, ◌⊎◌, inl, inr, ℕ, ◌<◌, ◌^◌, false, Contains, List, [], ◌∷◌, ◌++◌, filter, Option, Some, None, refl, sym, subst, arith}
use Rattle.std.specs.List.{All}
use Rattle.std.proofs.lemmas.List.Elements.{Contains-append_left, Contains-push, Contains-push_cases}
use Rattle.sw_gather.proofs.Lists.{none_in}
use Rattle.sw_hashpath.specs.Place.{PlaceModel}
use Rattle.sw_suffix.specs.Suffix.{suffix_number}
use Rattle.sw_suffix.specs.Table.{Hashed, hash_at}
use Rattle.sw_ring.specs.Cluster.{ClusterModel}
use Rattle.sw_message.specs.Message.{IsMember}
use Rattle.sw_daemon.specs.Comparing.{AreDiffering, Comparing, Differing, HasSuffix, MoreDiffer, has_suffix}
use Rattle.sw_daemon.specs.Coursing.{IsComparing, IsSoundTask, IsTask}
use Rattle.sw_daemon.specs.Pass as passes
use Rattle.sw_daemon.specs.Pass.{AreDue, Differs}
use Rattle.sw_daemon.specs.declared.task.Task.{Task}
use Rattle.sw_daemon.specs.declared.task.Task.TheVariants.{ListOther}

-- ---- what a comparison stands for

-- the comparison of a task stands for that of the course's
pub comparing_of : (task : Task) (of : passes.Task) (comparing : Comparing) (part : ℕ) (own : List Hashed) (heard : List (Option (List Hashed))) (device : ℕ) (others : List ℕ) → task ≡ ListOther comparing → of ≡ passes.ListOther part own heard device others
    → IsTask task of → IsComparing comparing part own heard device others
comparing_of task of comparing part own heard device others is of_is task_is =
    subst (λ (one : passes.Task). IsTask (ListOther comparing) one) of_is (subst (λ (one : Task). IsTask one of) is task_is)

-- the task of a course that compares
pub record Of (of : passes.Task) : Type 0 where
  pub part : ℕ
  pub own : List Hashed
  pub heard : List (Option (List Hashed))
  pub device : ℕ
  pub others : List ℕ
  pub same : of ≡ passes.ListOther part own heard device others

pub task_of : (task : Task) (of : passes.Task) (comparing : Comparing) → task ≡ ListOther comparing → IsTask task of → Of of
task_of task of comparing is task_is = by_task of (subst (λ (one : Task). IsTask one of) is task_is)
  where
    by_task : (of : passes.Task) → IsTask (ListOther comparing) of → Of of
    by_task (passes.ListOther part own heard device others) is = record { part = part; own = own; heard = heard; device = device; others = others; same = refl }
    by_task passes.ListParts is = absurd is
    by_task (passes.ListPlaces part) is = absurd is
    by_task (passes.ListOwn part) is = absurd is
    by_task (passes.Treat place) is = absurd is

pub sound_of : (cluster : ClusterModel) (task : Task) (comparing : Comparing) → task ≡ ListOther comparing → IsSoundTask cluster task → (comparing.part < 2 ^ cluster.part_power) × IsMember cluster comparing.device × All (IsMember cluster) comparing.others
sound_of cluster task comparing is sound = subst (IsSoundTask cluster) is sound

-- what is sound of a comparison stays so as other suffixes differ
pub sound_compared : (cluster : ClusterModel) (task : Task) (comparing : Comparing) → task ≡ ListOther comparing → (inside : Comparing) → comparing ≡ inside → IsSoundTask cluster task
    → (inside.part < 2 ^ cluster.part_power) × IsMember cluster inside.device × All (IsMember cluster) inside.others
sound_compared cluster task comparing is inside same sound =
    subst (λ (one : Comparing). (one.part < 2 ^ cluster.part_power) × IsMember cluster one.device × All (IsMember cluster) one.others) same (sound_of cluster task comparing is sound)

-- ---- suffixes that differ

-- none, before another primary was heard
pub none_differ : (differing : Differing) (own : List Hashed) → ((suffix : ℕ) → HasSuffix differing suffix → ⊥) → AreDiffering differing own []
none_differ differing own none suffix = (λ there. absurd (none suffix there), λ differs. absurd (none_in differs.0 differs.1))

-- all, once one missed
pub all_differ : (differing : Differing) (own : List Hashed) (heard : List (Option (List Hashed))) → ((suffix : ℕ) → HasSuffix differing suffix) → AreDiffering differing own (heard ++ None ∷ [])
all_differ differing own heard all suffix = (λ there. (None, Contains-push heard None, tt), λ differs. all suffix)

-- more, once one listed its own
pub more_heard : (before after : Differing) (own hashes : List Hashed) (heard : List (Option (List Hashed))) → AreDiffering before own heard → MoreDiffer before own hashes after → AreDiffering after own (heard ++ Some hashes ∷ [])
more_heard before after own hashes heard were more suffix = (λ there. from ((more suffix).0 there), λ differs. (more suffix).1 (to differs))
  where
    from : HasSuffix before suffix ⊎ (hash_at suffix own ≢ hash_at suffix hashes) → Differs own (heard ++ Some hashes ∷ []) suffix
    from (inl was) = let one = (were suffix).0 was in (one.0, Contains-append_left heard (Some hashes ∷ []) one.0 one.1, one.2)
    from (inr differs) = (Some hashes, Contains-push heard (Some hashes), differs)

    to : Differs own (heard ++ Some hashes ∷ []) suffix → HasSuffix before suffix ⊎ (hash_at suffix own ≢ hash_at suffix hashes)
    to (answer, there, differs) = by_place (Contains-push_cases heard (Some hashes) answer there)
      where
        by_place : Contains heard answer ⊎ (Some hashes ≡ answer) → HasSuffix before suffix ⊎ (hash_at suffix own ≢ hash_at suffix hashes)
        by_place (inl was) = inl ((were suffix).1 (answer, was, differs))
        by_place (inr is) = inr (subst (λ (one : Option (List Hashed)). passes.DiffersIn own suffix one) (sym is) differs)

-- ---- places

-- the places are due whose suffixes differ
pub are_due : (differing : Differing) (own : List Hashed) (heard : List (Option (List Hashed))) (places due : List PlaceModel) → AreDiffering differing own heard → due ≡ filter (λ (place : PlaceModel). has_suffix differing (suffix_number place.hash)) places
    → AreDue own heard places due
are_due differing own heard places due differ due_are = record {
  test = λ (place : PlaceModel). has_suffix differing (suffix_number place.hash);
  decides = λ place. differ (suffix_number place.hash);
  due_are = due_are;
}

filter_none : {A : Type 0} (xs : List A) → filter (λ (x : A). false) xs ≡ []
filter_none [] = refl
filter_none (x ∷ xs) = filter_none xs

-- none is due where there is no other primary
pub none_due : (own : List Hashed) (places : List PlaceModel) → AreDue own [] places []
none_due own places = record {
  test = λ place. false;
  decides = λ place. (λ is. absurd (cc), λ differs. absurd (none_in differs.0 differs.1));
  due_are = sym (filter_none places);
}
