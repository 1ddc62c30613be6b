-- A put in the small cluster: it hands out two fragments, once both are stored two commits, and is over once both are made.
use Rattle.std.proofs.Common.{◌≡◌, ℕ, ◌+◌, nat_lt, ◌&&◌, not, cond, List, [], ◌∷◌, ◌++◌, length, map, Option, Some, refl, ap, ◌∙◌}
use Rattle.sw_types.specs.Name.{NameModel}
use Rattle.sw_types.specs.Object.{ObjectModel}
use Rattle.sw_archive.specs.Put.{put_archive}
use Rattle.sw_message.specs.Targets.{ascending}
use Rattle.sw_message.specs.Transcript.{Closed, Gave, Hand, Next, Over, Step, Wait}
use Rattle.sw_message.specs.declared.message.Msg.TheVariants as message
use Rattle.sw_message.specs.declared.reply.Reply.TheVariants as reply
use Rattle.sw_message.specs.declared.sent.Sent.{Sent}
use Rattle.sw_message.specs.declared.target.Target.{Target}
use Rattle.sw_quorum.specs.Answers.{done, missed}
use Rattle.sw_quorum.specs.Dues.{due_next}
use Rattle.sw_quorum.specs.Targets.{targets_from}
use Rattle.sw_put.specs.Put.{Begun, are_refused, due, end_at, handoffs, place_of, primaries, put_end, put_message, put_next, replacements, stores}
use Rattle.sw_put.proofs.Dues.{commit-at, store-at}
use Rattle.sw_put.specs.declared.end.PutEnd.TheVariants.{Created}
use Rattle.sw_core.specs.World.{first_clock}
use Rattle.sw_law_example.specs.Pair.{pair}
use Rattle.sw_law_example.proofs.Pairs.{both, primaries_are}

module _ (name : NameModel) (object : ObjectModel) where
  abbrev pub put_begun : Begun
  put_begun = record { cluster = pair; stamp = first_clock; name = name; object = object }

  -- ---- messages

  abbrev target : ℕ → Target
  target index = record { index = index; device = index }

  abbrev pub store : ℕ → Sent
  store index = record { ticket = index; device = index; msg = message.PutFrag (place_of put_begun) first_clock index (put_archive pair.policy first_clock name object index) }

  abbrev pub commit : ℕ → Sent
  commit index = record { ticket = index + 2; device = index; msg = message.Commit (place_of put_begun) first_clock index }

  -- ---- transcripts, one after the other

  abbrev pub handed : List Step
  handed = Gave (store 1) ∷ Gave (store 0) ∷ []

  abbrev pub stored_one : List Step
  stored_one = Closed (store 0) (Some reply.Synced) ∷ handed

  abbrev pub stored_both : List Step
  stored_both = Closed (store 1) (Some reply.Synced) ∷ stored_one

  abbrev pub handed_commits : List Step
  handed_commits = Gave (commit 1) ∷ Gave (commit 0) ∷ stored_both

  abbrev pub committed_one : List Step
  committed_one = Closed (commit 0) (Some reply.Committed) ∷ handed_commits

  abbrev pub committed_both : List Step
  committed_both = Closed (commit 1) (Some reply.Committed) ∷ committed_one

  -- ---- what comes next

  -- where fragments and commits have to go, by whatever devices are primaries
  abbrev stores_by : List ℕ → List Step → List Target
  stores_by these past = targets_from 0 these ++ replacements (missed (stores past)) (handoffs put_begun)

  abbrev commits_by : List ℕ → List Step → List Target
  commits_by these past = cond (not (nat_lt (length (stores past)) (length (stores_by these past))) && not (are_refused put_begun past)) (ascending (done (stores past))) []

  abbrev next_with : {D : Type 0} → (ℕ → D → Sent) → (at_store at_commit : Target → D) → List ℕ → List Step → Next
  next_with message at_store at_commit these past = due_next message (map at_store (stores_by these past) ++ map at_commit (commits_by these past)) past

  -- what is due is made of targets by two functions, whose messages are these; the first facts tell which they are
  abbrev IsMadeBy : {D : Type 0} → (ℕ → D → Sent) → (List Step → List D) → Type 0
  IsMadeBy {D} message due_after =
      (at_store at_commit : Target → D) × ((one : Target) → (found : Option D) × (found ≡ Some (at_store one))) × ((one : Target) → (found : Option D) × (found ≡ Some (at_commit one)))
      × ((past : List Step) → due_after past ≡ map at_store (stores_by (primaries put_begun) past) ++ map at_commit (commits_by (primaries put_begun) past))
      × ((index : ℕ) → message index (at_store (target index)) ≡ store index) × ((index : ℕ) → message (index + 2) (at_commit (target index)) ≡ commit index)

  made : IsMadeBy (put_message put_begun) (due put_begun)
  made = (_, _, λ one. (_, store-at (one ∷ []) [] 0 one refl), λ one. (_, commit-at [] (one ∷ []) 0 refl), λ past. refl, λ index. refl, λ index. refl)

  next_is : (past : List Step) (next : Next) → next_with (put_message put_begun) made.0 made.1 both past ≡ next → put_next put_begun past ≡ next
  next_is past next is = ap (λ errands. due_next (put_message put_begun) errands past) (made.4 past) ∙ ap (λ these. next_with (put_message put_begun) made.0 made.1 these past) (primaries_are name) ∙ is

  pub hands_first : put_next put_begun [] ≡ Hand (store 0)
  hands_first = next_is [] (Hand (store 0)) (ap Hand (made.5 0))

  pub hands_second : put_next put_begun (Gave (store 0) ∷ []) ≡ Hand (store 1)
  hands_second = next_is (Gave (store 0) ∷ []) (Hand (store 1)) (ap Hand (made.5 1))

  pub waits_for_both : put_next put_begun handed ≡ Wait
  waits_for_both = next_is handed Wait refl

  pub waits_for_second : put_next put_begun stored_one ≡ Wait
  waits_for_second = next_is stored_one Wait refl

  pub hands_commit : put_next put_begun stored_both ≡ Hand (commit 0)
  hands_commit = next_is stored_both (Hand (commit 0)) (ap Hand (made.6 0))

  pub hands_other_commit : put_next put_begun (Gave (commit 0) ∷ stored_both) ≡ Hand (commit 1)
  hands_other_commit = next_is (Gave (commit 0) ∷ stored_both) (Hand (commit 1)) (ap Hand (made.6 1))

  pub waits_for_commits : put_next put_begun handed_commits ≡ Wait
  waits_for_commits = next_is handed_commits Wait refl

  pub waits_for_last : put_next put_begun committed_one ≡ Wait
  waits_for_last = next_is committed_one Wait refl

  pub is_over : put_next put_begun committed_both ≡ Over
  is_over = next_is committed_both Over refl

  -- ---- how it ends

  pub is_created : put_end put_begun committed_both ≡ Some (Created first_clock 2)
  is_created = ap (end_at put_begun committed_both) is_over
