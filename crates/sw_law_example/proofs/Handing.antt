-- A put hands out a fragment for each primary, and then waits.
use Rattle.std.proofs.Common.{◌≡◌, ℕ, suc, ◌+◌, ◌<◌, ◌==◌, List, [], ◌∷◌, ◌++◌, append-nil, length, Some, refl, ap, ◌∙◌, arith}
use Rattle.std.specs.List.{slice_get}
use Rattle.std.proofs.lemmas.Bool.{cond-false, ne_eqb}
use Rattle.std.proofs.lemmas.Option.{none-some, same_Some, slice_get_past}
use Rattle.sw_message.specs.Transcript.{Gave, Hand, Step, Wait, given, open_at}
use Rattle.sw_message.specs.declared.message.Msg.TheVariants as message
use Rattle.sw_message.specs.declared.sent.Sent.{Sent}
use Rattle.sw_message.specs.declared.target.Target.{Target}
use Rattle.sw_archive.specs.Put.{put_archive}
use Rattle.sw_quorum.specs.Answers.{missed}
use Rattle.sw_quorum.proofs.DueLaws as laws
use Rattle.sw_quorum.proofs.Lookups.{slice_get-front}
use Rattle.sw_quorum.specs.Targets.{targets_from}
use Rattle.sw_quorum.specs.Transcripts.{closed_count}
use Rattle.sw_put.specs.Put.{Begun, commits_due, due, handoffs, place_of, primaries, put_message, put_next, replacements, stores, stores_due}
use Rattle.sw_put.proofs.Dues.{length-targets_from, no_commits, store-at}
use Rattle.sw_put.proofs.Transcripts.{length-due}
use Rattle.sw_operation.specs.Operating.{Put as PutBegun}
use Rattle.sw_core.specs.World.{HandsOut}

-- a transcript once these were handed out, the first of them first
abbrev pub after_giving : List Sent → List Step → List Step
after_giving [] past = past
after_giving (sent ∷ sents) past = after_giving sents (Gave sent ∷ past)

-- no answer to a fragment is among them
pub gave-stores : (sents : List Sent) (past : List Step) → stores (after_giving sents past) ≡ stores past
gave-stores [] past = refl
gave-stores (sent ∷ sents) past = gave-stores sents (Gave sent ∷ past)

-- and none at all
pub gave-told : (sents : List Sent) (past : List Step) → closed_count (after_giving sents past) ≡ closed_count past
gave-told [] past = refl
gave-told (sent ∷ sents) past = gave-told sents (Gave sent ∷ past)

-- how many were handed out
pub gave-given : (sents : List Sent) (past : List Step) → length (given (after_giving sents past)) ≡ length sents + length (given past)
gave-given [] past = omega arith
gave-given (sent ∷ sents) past = omega (arith, gave-given sents (Gave sent ∷ past))

-- a list whose first item is known has others behind it
pub opened : (devices : List ℕ) (device : ℕ) → slice_get devices 0 ≡ Some device → (others : List ℕ) × (devices ≡ device ∷ others)
opened [] device is = absurd (none-some device is)
opened (first ∷ others) device is = (others, ap (λ d. d ∷ others) (same_Some first device is))

module _ (begun : Begun) where
  -- the fragment for a target
  abbrev pub fragment : ℕ → Target → Sent
  fragment ticket target = record {
    ticket = ticket;
    device = target.device;
    msg = message.PutFrag (place_of begun) begun.stamp target.index (put_archive begun.cluster.policy begun.stamp begun.name begun.object target.index);
  }

  -- the fragments for these targets, with tickets from this one on
  abbrev pub fragments : ℕ → List Target → List Sent
  fragments ticket [] = []
  fragments ticket (target ∷ targets) = fragment ticket target ∷ fragments (suc ticket) targets

  -- there is one for each target
  pub length-fragments : (ticket : ℕ) (targets : List Target) → length (fragments ticket targets) ≡ length targets
  length-fragments ticket [] = refl
  length-fragments ticket (target ∷ targets) = ap suc (length-fragments (suc ticket) targets)

  -- what is open at ticket 0 is so still once others were handed out
  pub gave-open : (ticket : ℕ) (targets : List Target) (past : List Step) → open_at 0 (after_giving (fragments (suc ticket) targets) past) ≡ open_at 0 past
  gave-open ticket [] past = refl
  gave-open ticket (target ∷ targets) past =
      gave-open (suc ticket) targets (Gave (fragment (suc ticket) target) ∷ past)
      ∙ cond-false (suc ticket == 0) (Some (fragment (suc ticket) target)) (open_at 0 past) (ne_eqb (suc ticket) 0 (λ same. absurd (omega (arith, same))))

  -- ---- what comes next

  -- the fragment of the primary whose index is the number of those that were handed out
  hands : (past : List Step) (ticket : ℕ) (target : Target) → length (given past) ≡ ticket → slice_get (targets_from 0 (primaries begun)) ticket ≡ Some target
      → put_next begun past ≡ Hand (fragment ticket target)
  hands past ticket target count at =
      let front = slice_get-front (targets_from 0 (primaries begun)) (replacements (missed (stores past)) (handoffs begun)) ticket target at in
      let there = store-at (stores_due begun past) (commits_due begun past) ticket target front in
      laws.hands (put_message begun) (due begun past) past _ (ap (slice_get (due begun past)) count ∙ there)
      ∙ ap (λ n. Hand (fragment n target)) count

  -- one after the other, where these targets are those of the primaries from that number on
  pub hands-out : (ticket : ℕ) (rest : List Target) (past : List Step) → length (given past) ≡ ticket → ((i : ℕ) → slice_get (targets_from 0 (primaries begun)) (ticket + i) ≡ slice_get rest i)
      → HandsOut (PutBegun begun) (fragments ticket rest) past (after_giving (fragments ticket rest) past)
  hands-out ticket [] past count at = refl
  hands-out ticket (target ∷ rest) past count at = (
    hands past ticket target count (ap (slice_get (targets_from 0 (primaries begun))) (omega arith) ∙ at 0),
    hands-out (suc ticket) rest (Gave (fragment ticket target) ∷ past) (ap suc count) (λ i. ap (slice_get (targets_from 0 (primaries begun))) (omega arith) ∙ at (suc i)),
  )

  -- nothing else is due while no fragment was missed and not all were answered
  due-count : (past : List Step) → missed (stores past) ≡ [] → length (stores past) < length (primaries begun) → length (due begun past) ≡ length (primaries begun)
  due-count past none few =
      let stored : stores_due begun past ≡ targets_from 0 (primaries begun) =
      ap (λ misses. targets_from 0 (primaries begun) ++ replacements misses (handoffs begun)) none ∙ append-nil (targets_from 0 (primaries begun)) in
      let size : length (stores_due begun past) ≡ length (primaries begun) = ap length stored ∙ length-targets_from 0 (primaries begun) in
      omega (arith, size, length-due begun past, ap length (no_commits begun (stores past) (omega (arith, few, size))))

  -- and so it waits once all were handed out
  pub waits : (past : List Step) → missed (stores past) ≡ [] → length (stores past) < length (primaries begun) → closed_count past < length (primaries begun)
      → length (given past) ≡ length (primaries begun) → put_next begun past ≡ Wait
  waits past none few told all =
      let size = due-count past none few in
      laws.waits (put_message begun) (due begun past) past (slice_get_past (due begun past) (length (given past)) (omega (arith, size, all))) (omega (arith, told, size))
