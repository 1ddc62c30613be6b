-- What a put hands out where each answer is that a write was done: its own archives to the primaries of their indices, and commits to
-- where archives were stored.
use Rattle.std.proofs.Common.{◌≡◌, ◌⊎◌, inl, inr, ⊎_elim, ℕ, suc, ◌+◌, ◌<◌, not, ◌&&◌, Contains, List, [], ◌∷◌, ◌++◌, length, map, Some, sym, ap, subst, ◌∙◌, arith}
use Rattle.std.specs.Prelude.{⊤}
use Rattle.std.specs.List.{All, slice_get}
use Rattle.std.proofs.lemmas.Bool.{cond_both}
use Rattle.std.proofs.lemmas.List.Elements.{All-append, All-contains, All-nil, All-weaker, Contains-append_cases}
use Rattle.sw_archive.specs.Put.{put_archive}
use Rattle.sw_diskfile.proofs.Lists.{Contains-cases, Contains-later, Contains-none, mapped}
use Rattle.sw_ring.proofs.Roles.{column_length}
use Rattle.sw_message.specs.Targets.{ascending}
use Rattle.sw_message.specs.Transcript.{Closed, Gave, IsRun, Step, given}
use Rattle.sw_message.specs.Warrant.{IsPrimaryOf}
use Rattle.sw_message.specs.declared.message.Msg.TheVariants as message
use Rattle.sw_message.specs.declared.miss.Miss.{Miss}
use Rattle.sw_message.specs.declared.reply.Reply.TheVariants as reply
use Rattle.sw_message.specs.declared.sent.Sent.{Sent}
use Rattle.sw_message.specs.declared.target.Target.{Target}
use Rattle.sw_message.proofs.Ascents.{all_ascending}
use Rattle.sw_quorum.specs.Answers.{done, missed}
use Rattle.sw_quorum.specs.Targets.{targets_from}
use Rattle.sw_put.specs.Causes.{WasMissed, WasStored}
use Rattle.sw_put.specs.Put.{Begun, IsBegun, IsNext, are_refused, are_settled, commits_due, due, handoffs, place_of, primaries, put_message, replacements, stores, stores_due}
use Rattle.sw_put.proofs.Causes.{told-all}
use Rattle.sw_put.proofs.Dues.{primaries-each, replacements-each}
use Rattle.sw_put.proofs.Homes.{IsFit, known}
use Rattle.sw_put.proofs.Transcripts.{IsPut, handed}
use Rattle.sw_core.proofs.Numbered.{numbered-contains}
use Rattle.sw_law_complete.proofs.PutTranscripts.{AreDone, none_missed}

-- what two functions make of two lists is made of one of them
either_made : {A B : Type 0} (f g : A → B) (xs ys : List A) (y : B) → Contains (map f xs ++ map g ys) y → ((x : A) × Contains xs x × (f x ≡ y)) ⊎ ((x : A) × Contains ys x × (g x ≡ y))
either_made f g xs ys y has = ⊎_elim (λ first. inl (mapped f xs y first)) (λ second. inr (mapped g ys y second)) (Contains-append_cases (map f xs) (map g ys) y has)

module _ (begun : Begun) where
  -- the target is the primary of its index
  abbrev pub IsPrimaryTarget : Target → Type 0
  IsPrimaryTarget target = IsPrimaryOf begun.cluster (place_of begun) target.index target.device × (target.index < begun.cluster.policy.k + begun.cluster.policy.m)

  -- the archive of an index to its primary
  abbrev pub store_message : ℕ → Target → Sent
  store_message ticket target = record {
    ticket = ticket;
    device = target.device;
    msg = message.PutFrag (place_of begun) begun.stamp target.index (put_archive begun.cluster.policy begun.stamp begun.name begun.object target.index);
  }

  -- a commit to where one was stored
  abbrev pub commit_message : ℕ → Target → Sent
  commit_message ticket target = record { ticket = ticket; device = target.device; msg = message.Commit (place_of begun) begun.stamp target.index }

  -- a message is one of these
  pub data IsRight (past : List Step) (sent : Sent) : Type 0 where
    Stores : (target : Target) → IsPrimaryTarget target → sent ≡ store_message sent.ticket target → IsRight past sent
    Commits : (target : Target) (ticket : ℕ) → Contains past (Closed (store_message ticket target) (Some reply.Synced)) → sent ≡ commit_message sent.ticket target → IsRight past sent

  -- so it stays
  later_right : (step : Step) (past : List Step) (sent : Sent) → IsRight past sent → IsRight (step ∷ past) sent
  later_right step past sent (Stores target primary is) = Stores target primary is
  later_right step past sent (Commits target ticket has is) = Commits target ticket (Contains-later step past _ has) is

  module _ (valid : IsBegun begun) where
    module _ (past : List Step) (run : IsRun (IsNext begun) past) (are : AreDone past) where
      front : All IsPrimaryTarget (targets_from 0 (primaries begun))
      front =
          All-weaker (λ (target : Target). (slice_get (primaries begun) target.index ≡ Some target.device) × (target.index < length (primaries begun))) IsPrimaryTarget
          (λ target is. (is.0, omega (arith, is.1, column_length begun.cluster (place_of begun).part valid.rules))) (targets_from 0 (primaries begun)) (primaries-each (primaries begun))

      -- no handoff takes the place of a primary
      stores_right : All IsPrimaryTarget (stores_due begun past)
      stores_right =
          All-append IsPrimaryTarget (targets_from 0 (primaries begun)) (replacements (missed (stores past)) (handoffs begun)) front
          (replacements-each IsPrimaryTarget (λ (one : Target × Miss). WasMissed begun past one.0 one.1) (λ handoff. ⊤) (λ miss handoff was there. absurd (none_missed begun past are miss was))
          (missed (stores past)) (handoffs begun) (told-all begun valid past run).misses (λ i d within. tt))

      commits_right : All (λ target. IsFit begun target × WasStored begun past target) (commits_due begun past)
      commits_right =
          cond_both (are_settled begun past && not (are_refused begun past)) (ascending (done (stores past))) [] (All (λ target. IsFit begun target × WasStored begun past target))
          (λ is. all_ascending (λ target. IsFit begun target × WasStored begun past target) (done (stores past)) (known begun valid past run).stored) (λ is. All-nil _)

      -- what is due is right
      due_right : (sent : Sent) → IsPut begun past sent → IsRight past sent
      due_right sent is = ⊎_elim
          (λ store. Stores store.0 (All-contains IsPrimaryTarget (stores_due begun past) store.0 stores_right store.1) (is.is ∙ ap (put_message begun sent.ticket) (sym store.2)))
          (λ commit.
          let was = All-contains (λ target. IsFit begun target × WasStored begun past target) (commits_due begun past) commit.0 commits_right commit.1 in
          Commits commit.0 was.1.0 was.1.1 (is.is ∙ ap (put_message begun sent.ticket) (sym commit.2)))
          (either_made _ _ (stores_due begun past) (commits_due begun past) is.about (numbered-contains (due begun past) (suc sent.ticket) is.about is.found))

    -- and so is each message that was handed out
    pub given_right : (past : List Step) → IsRun (IsNext begun) past → AreDone past → (sent : Sent) → Contains (given past) sent → IsRight past sent
    given_right [] run are sent has = absurd (Contains-none sent has)
    given_right (Gave first ∷ past) run are sent has = later_right (Gave first) past sent (⊎_elim
        (λ same. subst (IsRight past) same (due_right past run.1 earlier first (handed begun past first run.0).1))
        (λ later. given_right past run.1 earlier sent later)
        (Contains-cases first (given past) sent has))
      where
        earlier : AreDone past
        earlier other answer there = are other answer (Contains-later (Gave first) past (Closed other answer) there)
    given_right (Closed first answer ∷ past) run are sent has = later_right (Closed first answer) past sent
        (given_right past run.1 (λ other given there. are other given (Contains-later (Closed first answer) past (Closed other given) there)) sent has)
