-- Lists of device calls whose first one looks at a folder: their first parts, and those that do no more than look.
use Rattle.std.proofs.Common.{◌≡◌, ◌≢◌, ◌⊎◌, inl, inr, ⊎_elim, ℕ, zero, suc, ◌≤◌, List, [], ◌∷◌, ◌++◌, length, map, max, take, refl, sym, ap, subst, ◌∙◌, arith}
use Rattle.std.proofs.Math.Seq.{take-append_seam}
use Rattle.std.proofs.lemmas.List.{append-nil, take_all}
use Rattle.sw_disk.specs.Calls.{Call, ListNames, Do}
use Rattle.sw_disk.specs.State.{State, run}
use Rattle.sw_diskfile.proofs.Outcomes.{none_done}
use Rattle.sw_message.specs.declared.reply.Reply.{Reply}
use Rattle.sw_message.specs.declared.reply.Reply.TheVariants.{NoSpace}
use Rattle.sw_objsrv.specs.Handling.{IsAnswer}
use Rattle.sw_objsrv.proofs.RowCalls.{BeginsWithLook, PublishOwn}
use Rattle.sw_sim_nodes.specs.Crashing.{calls_done}

take_none : (calls : List Call) → take 0 calls ≡ []
take_none [] = refl
take_none (call ∷ calls) = refl

none_taken : (count : ℕ) → take {A = Call} count [] ≡ []
none_taken zero = refl
none_taken (suc count) = refl

-- all calls of an answer are done
pub answer_done : (reply : Reply) (calls : List Call) → IsAnswer reply → calls_done reply calls ≡ calls
answer_done (NoSpace need free) calls answers = absurd answers
answer_done reply calls answers = refl

module _ (folder : List ℕ) where
  abbrev look : Call
  look = ListNames folder

  abbrev pub IsLook : List Call → Type 0
  IsLook calls = (calls ≡ []) ⊎ (calls ≡ look ∷ [])

  -- they change no folder
  pub looked : (calls : List Call) → IsLook calls → (state : State) → (run (map Do calls) state).folder folder ≡ state.folder folder
  looked calls (inl is) state = ap (λ (cs : List Call). (run (map Do cs) state).folder folder) is
  looked calls (inr is) state = ap (λ (cs : List Call). (run (map Do cs) state).folder folder) is

  pub own_look : (calls : List Call) → IsLook calls → PublishOwn calls
  own_look calls (inl is) = subst PublishOwn (sym is) tt
  own_look calls (inr is) = subst PublishOwn (sym is) tt

  -- ---- first parts

  -- one call at most
  one_look : (done rest behind : List Call) → look ∷ behind ≡ done ++ rest → length done ≤ 1 → IsLook done
  one_look [] rest behind split few = inl refl
  one_look (call ∷ []) rest behind split few = let first : call ≡ look = cc in inr (ap (λ (c : Call). c ∷ []) first)
  one_look (call ∷ other ∷ done) rest behind split few = absurd (omega (arith, few))

  -- some of the first two, but not both
  pub two_look : (calls done rest : List Call) → BeginsWithLook folder calls → take 2 calls ≡ done ++ rest → rest ≢ [] → IsLook done
  two_look calls done rest begins split some = behind begins.0 done (sym (ap (take 2) begins.1) ∙ split)
    where
      nothing : (xs : List Call) → [] ≡ xs ++ rest → rest ≡ []
      nothing [] is = sym is
      nothing (x ∷ xs) is = absurd (cc)

      behind : (more done : List Call) → take 2 (look ∷ more) ≡ done ++ rest → IsLook done
      behind [] done split = inl (none_done look done rest split some)
      behind (call ∷ more) [] split = inl refl
      behind (call ∷ more) (first ∷ []) split = let is : first ≡ look = cc in inr (ap (λ (c : Call). c ∷ []) is)
      behind (call ∷ more) (first ∷ second ∷ tail) split = let left : take 0 more ≡ tail ++ rest = cc in absurd (some (nothing tail (sym (take_none more) ∙ left)))

  -- what a disk does with a fuse of that many calls, at least one, is what it does before that many, but for a look
  pub same_cut : (count : ℕ) (calls done rest : List Call) → BeginsWithLook folder calls → calls ≡ done ++ rest → ((rest ≡ []) × (length done ≤ max count 1)) ⊎ (length done ≡ max count 1)
      → (take count calls ≡ done) ⊎ (IsLook (take count calls) × IsLook done)
  same_cut zero calls done rest begins split much =
      let few : length done ≤ 1 = ⊎_elim (λ all. omega (arith, all.1)) (λ just. omega (arith, just)) much in
      inr (inl (take_none calls), one_look done rest begins.0 (sym begins.1 ∙ split) few)
  same_cut (suc count) calls done rest begins split (inl all) =
      let whole : calls ≡ done = split ∙ ap (λ (cs : List Call). done ++ cs) all.0 ∙ append-nil done in
      inl (ap (take (suc count)) whole ∙ take_all (suc count) done (omega (arith, all.1)))
  same_cut (suc count) calls done rest begins split (inr just) =
      let same : suc count ≡ length done = omega (arith, just) in
      inl (ap (take (suc count)) split ∙ ap (λ (n : ℕ). take n (done ++ rest)) same ∙ take-append_seam done rest)

  -- ---- the calls that are done of a row

  done_begins : (reply : Reply) (calls : List Call) → BeginsWithLook folder calls → BeginsWithLook folder (calls_done reply calls)
  done_begins (NoSpace need free) calls begins = (take 0 begins.0, ap (take 1) begins.1)
  done_begins reply calls begins = begins

  -- of one call at most
  first_look : (count : ℕ) (calls : List Call) → BeginsWithLook folder calls → count ≤ 1 → IsLook (take count calls)
  first_look zero calls begins few = inl (take_none calls)
  first_look (suc zero) calls begins few = inr (ap (take 1) begins.1 ∙ ap (λ (cs : List Call). look ∷ cs) (take_none begins.0))
  first_look (suc (suc count)) calls begins few = absurd (omega (arith, few))

  pub done_look : (reply : Reply) (count : ℕ) (calls done : List Call) → BeginsWithLook folder calls → IsLook done → length done ≡ max count 1 → IsLook (take count (calls_done reply calls))
  done_look reply count calls done begins only just = first_look count (calls_done reply calls) (done_begins reply calls begins) (omega (arith, just, few only))
    where
      few : IsLook done → length done ≤ 1
      few (inl is) = omega (arith, ap length is)
      few (inr is) = omega (arith, ap length is)

  -- where the disk is full
  pub full_look : (need free count : ℕ) (calls : List Call) → BeginsWithLook folder calls → IsLook (take count (calls_done (NoSpace need free) calls))
  full_look need free count calls begins =
      let only : take 1 calls ≡ look ∷ [] = ap (take 1) begins.1 ∙ ap (λ (cs : List Call). look ∷ cs) (take_none begins.0) in
      subst (λ (cs : List Call). IsLook (take count cs)) (sym only) (first count)
    where
      first : (n : ℕ) → IsLook (take n (look ∷ []))
      first zero = inl refl
      first (suc n) = inr (ap (λ (cs : List Call). look ∷ cs) (none_taken n))
