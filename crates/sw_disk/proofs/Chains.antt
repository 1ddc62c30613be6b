-- Runs of device calls, one after the other.
use Rattle.std.proofs.Common.{◌≡◌, ◌≢◌, ◌⊎◌, inl, inr, ⊎_elim, ℕ, suc, ◌+◌, ◌-◌, ◌<◌, ◌≤◌, false, List, [], ◌∷◌, ◌++◌, length, map, take, Option, Some, None, refl, sym, ◌∙◌, ap, subst, arith, append_assoc, length-append}
use Rattle.std.specs.Prelude.{IsSome}
use Rattle.std.proofs.lemmas.List.{append-nil, map-append, take-append-le}
use Rattle.std.proofs.Math.Seq.{take-append-add}
use Rattle.sw_words.specs.Counts.{one_more}
use Rattle.sw_disk.specs.Calls.{Call, ListFolders, ListNames, ReadFile, WriteTmp, SyncTmp, PublishTmp, RenameFile, RemoveFile, SyncDir, Step, Do, Settle, calls_in}
use Rattle.sw_disk.specs.Folder.{Content, File, IsImage}
use Rattle.sw_disk.specs.State.{Schedule, State, after, run, stopped, tick}
use Rattle.sw_disk.specs.Runs.{FailsNext, GoOn, IfTold, IsExact, IsUntouched, IsWithin, KeepsTemporary, LeavesOnly, NoneUnasked, Past, Runs, Seen, Stops, StopsTold, is_write}
use Rattle.sw_disk.specs.declared.refusal.DiskRefusal.{DiskRefusal}
use Rattle.sw_disk.specs.declared.refusal.DiskRefusal.TheVariants.{Failed}

-- ---- steps, one list after another

pub calls_in-append : (xs ys : List Step) → calls_in (xs ++ ys) ≡ calls_in xs ++ calls_in ys
calls_in-append [] ys = refl
calls_in-append (Do call ∷ xs) ys = ap (λ (calls : List Call). call ∷ calls) (calls_in-append xs ys)
calls_in-append (Settle folder ∷ xs) ys = calls_in-append xs ys

pub run-append : (xs ys : List Step) (state : State) → run (xs ++ ys) state ≡ run ys (run xs state)
run-append [] ys state = refl
run-append (x ∷ xs) ys state = run-append xs ys (after x state)

-- ---- the calls of an exact disk

-- a schedule, so many calls later
abbrev pub ticks : ℕ → Option Schedule → Option Schedule
ticks n None = None
ticks n (Some schedule) = Some (record schedule { calls = schedule.calls + n })

ticks-zero : (schedule : Option Schedule) → schedule ≡ ticks 0 schedule
ticks-zero None = refl
ticks-zero (Some schedule) = let e : schedule.calls ≡ schedule.calls + 0 = omega arith in ap (λ (n : ℕ). Some (record schedule { calls = n })) e

ticks-tick : (n : ℕ) (schedule : Option Schedule) → ticks n (tick schedule) ≡ ticks (suc n) schedule
ticks-tick n None = refl
ticks-tick n (Some schedule) = let e : schedule.calls + 1 + n ≡ schedule.calls + suc n = omega arith in ap (λ (k : ℕ). Some (record schedule { calls = k })) e

pub run-schedule : (xs : List Step) (state : State) → (run xs state).schedule ≡ ticks (length (calls_in xs)) state.schedule
run-schedule [] state = ticks-zero state.schedule
run-schedule (Do call ∷ xs) state = run-schedule xs (after (Do call) state) ∙ ticks-tick (length (calls_in xs)) state.schedule
run-schedule (Settle folder ∷ xs) state = run-schedule xs (after (Settle folder) state)

some-ticks : (n : ℕ) (schedule : Option Schedule) → IsSome schedule → IsSome (ticks n schedule)
some-ticks n None some = some
some-ticks n (Some schedule) some = refl

go_on-ticks : (schedule : Option Schedule) (m n : ℕ) → GoOn schedule m → GoOn (ticks m schedule) n → GoOn schedule (m + n)
go_on-ticks None m n first next = tt
go_on-ticks (Some schedule) m n first next = λ k below. ⊎_elim (λ less. first k less) (λ more. at_most k below more) (below_or k)
  where
    below_or : (k : ℕ) → (k < m) ⊎ (m ≤ k)
    below_or k = grind arith

    at_most : (k : ℕ) → k < m + n → m ≤ k → schedule.fails (schedule.calls + k + 1) ≡ false
    at_most k below more =
        let e : schedule.calls + m + (k - m) + 1 ≡ schedule.calls + k + 1 = omega arith in
        ap schedule.fails (sym e) ∙ next (k - m) (omega arith)

go_on-append : (xs ys : List Step) (state : State) → GoOn state.schedule (length (calls_in xs)) → GoOn (run xs state).schedule (length (calls_in ys)) → GoOn state.schedule (length (calls_in (xs ++ ys)))
go_on-append xs ys state first next =
    let count : length (calls_in xs) + length (calls_in ys) ≡ length (calls_in (xs ++ ys)) = sym (ap length (calls_in-append xs ys) ∙ length-append (calls_in xs) (calls_in ys)) in
    subst (GoOn state.schedule) count
    (go_on-ticks state.schedule (length (calls_in xs)) (length (calls_in ys)) first (subst (λ (s : Option Schedule). GoOn s (length (calls_in ys))) (run-schedule xs state) next))

unasked-ticks : (schedule : Option Schedule) (n : ℕ) (xs ys : List Step) → NoneUnasked schedule xs → NoneUnasked (ticks n schedule) ys → NoneUnasked schedule (xs ++ ys)
unasked-ticks None n xs ys first next = tt
unasked-ticks (Some schedule) n xs ys first next =
    ap (λ (s : List Step). s ++ ys) first ∙ ap (λ (s : List Step). map Do (calls_in xs) ++ s) next ∙ sym (map-append Do (calls_in xs) (calls_in ys)) ∙ ap (map Do) (sym (calls_in-append xs ys))

unasked-append : (xs ys : List Step) (state : State) → NoneUnasked state.schedule xs → NoneUnasked (run xs state).schedule ys → NoneUnasked state.schedule (xs ++ ys)
unasked-append xs ys state first next =
    unasked-ticks state.schedule (length (calls_in xs)) xs ys first (subst (λ (s : Option Schedule). NoneUnasked s ys) (run-schedule xs state) next)

keeps-ticks : (schedule : Option Schedule) (n : ℕ) (rest : List Call) (old new : Option Content) → KeepsTemporary (ticks n schedule) rest old new → KeepsTemporary schedule rest old new
keeps-ticks None n rest old new keeps = keeps
keeps-ticks (Some schedule) n rest old new keeps = keeps

go_on-none : (schedule : Option Schedule) → GoOn schedule 0
go_on-none None = tt
go_on-none (Some schedule) = λ k below. absurd (omega arith)

unasked-none : (schedule : Option Schedule) → NoneUnasked schedule []
unasked-none None = tt
unasked-none (Some schedule) = refl

-- the first of some calls is that of these and more
same_write : (rest more : List Call) → rest ≢ [] → is_write (rest ++ more) ≡ is_write rest
same_write [] more some = absurd (some refl)
same_write (ListFolders ∷ rest) more some = refl
same_write (ListNames folder ∷ rest) more some = refl
same_write (ReadFile folder name ∷ rest) more some = refl
same_write (WriteTmp bytes ∷ rest) more some = refl
same_write (SyncTmp ∷ rest) more some = refl
same_write (PublishTmp folder name ∷ rest) more some = refl
same_write (RenameFile folder from to ∷ rest) more some = refl
same_write (RemoveFile folder name ∷ rest) more some = refl
same_write (SyncDir folder ∷ rest) more some = refl

keeps-more : (schedule : Option Schedule) (rest more : List Call) (old new : Option Content) → rest ≢ [] → KeepsTemporary schedule rest old new → KeepsTemporary schedule (rest ++ more) old new
keeps-more None rest more old new some keeps = λ no. keeps (sym (same_write rest more some) ∙ no)
keeps-more (Some schedule) rest more old new some keeps = keeps

-- ---- moments within

pub within_front : (xs ys : List Step) (state : State) (folder : List ℕ) (image : List File) → IsWithin xs state folder image → IsWithin (xs ++ ys) state folder image
within_front xs ys state folder image w = record {
  count = w.count;
  within = let e = length-append xs ys in omega (arith, e, w.within);
  left = subst (λ (steps : List Step). IsImage ((run steps state).folder folder) image) (sym (take-append-le w.count xs ys w.within)) w.left;
}

pub within_back : (xs ys : List Step) (state : State) (folder : List ℕ) (image : List File) → IsWithin ys (run xs state) folder image → IsWithin (xs ++ ys) state folder image
within_back xs ys state folder image w = record {
  count = length xs + w.count;
  within = let e = length-append xs ys in omega (arith, e, w.within);
  left =
      let same : run (take (length xs + w.count) (xs ++ ys)) state ≡ run (take w.count ys) (run xs state) =
      ap (λ (steps : List Step). run steps state) (take-append-add xs ys w.count) ∙ run-append xs (take w.count ys) state in
      subst (λ (s : State). IsImage (s.folder folder) image) (sym same) w.left;
}

-- ---- stops

stops-append : (xs ys : List Step) (none rest : List Call) (refusal : Option DiskRefusal) (a b c : State) → Stops xs none None a b → Stops ys rest refusal b c → Stops (xs ++ ys) rest refusal a c
stops-append xs ys none rest refusal a b c first second =
    let next = subst (λ (s : State). Stops ys rest refusal s c) (first.whole refl) second in
    let n : ℕ = length (calls_in xs) in
    let joined : run ys (run xs a) ≡ run (xs ++ ys) a = sym (run-append xs ys a) in
    record {
      whole = λ none. next.whole none ∙ joined;
      is_counted = next.is_counted;
      temporary = next.temporary;
      refused = λ reason is. next.refused reason is ∙ ap (stopped next.is_counted next.temporary) joined;
      kept = λ reason is.
          subst (λ (s : State). KeepsTemporary a.schedule rest s.temporary next.temporary) joined
          (keeps-ticks a.schedule n rest (run ys (run xs a)).temporary next.temporary
          (subst (λ (s : Option Schedule). KeepsTemporary s rest (run ys (run xs a)).temporary next.temporary) (run-schedule xs a) (next.kept reason is)));
      go_on = go_on-append xs ys a first.go_on next.go_on;
      fails = λ is. subst (λ (s : State). FailsNext s.schedule) joined (next.fails is);
      unasked = unasked-append xs ys a first.unasked next.unasked;
    }

stops_told-append : (xs ys : List Step) (none rest : List Call) (refusal : Option DiskRefusal) (a b c : Option State) → StopsTold xs none None a b → StopsTold ys rest refusal b c → StopsTold (xs ++ ys) rest refusal a c
stops_told-append xs ys none rest refusal None b c first second = subst (λ (o : Option State). StopsTold ys rest refusal o c) first second
stops_told-append xs ys none rest refusal (Some a) b c first second =
    let next = subst (λ (o : Option State). StopsTold ys rest refusal o c) first.1 second in
    (next.0, next.1, stops-append xs ys none rest refusal a first.0 next.0 first.2 next.2)

stops_told-more : (steps : List Step) (rest more : List Call) (reason : DiskRefusal) (a b : Option State) → rest ≢ [] → StopsTold steps rest (Some reason) a b → StopsTold steps (rest ++ more) (Some reason) a b
stops_told-more steps rest more reason None b some stops = stops
stops_told-more steps rest more reason (Some a) b some stops =
    let s = stops.2 in (
      stops.0,
      stops.1,
      record {
        whole = s.whole;
        is_counted = s.is_counted;
        temporary = s.temporary;
        refused = s.refused;
        kept = λ other is. keeps-more a.schedule rest more (run steps a).temporary s.temporary some (s.kept other is);
        go_on = s.go_on;
        fails = s.fails;
        unasked = s.unasked;
      },
    )

-- a disk that is exact stays so
exact_after : (steps : List Step) (none : List Call) (a b : Option State) → StopsTold steps none None a b → IsExact a → IsExact b
exact_after steps none None b stops exact = absurd (cc)
exact_after steps none (Some a) b stops exact =
    let told : b ≡ Some (run steps a) = stops.1 ∙ ap (λ (s : State). Some s) (stops.2.whole refl) in
    subst IsExact (sym told) (subst (λ (s : Option Schedule). IsSome s) (sym (run-schedule steps a)) (some-ticks (length (calls_in steps)) a.schedule exact))

front_told : (xs ys : List Step) (folder : List ℕ) (image : List File) (a : Option State) → IfTold a (λ s. IsWithin xs s folder image) → IfTold a (λ s. IsWithin (xs ++ ys) s folder image)
front_told xs ys folder image None w = tt
front_told xs ys folder image (Some a) w = within_front xs ys a folder image w

back_told : (xs ys : List Step) (none : List Call) (folder : List ℕ) (image : List File) (a b : Option State) → StopsTold xs none None a b → IfTold b (λ s. IsWithin ys s folder image)
    → IfTold a (λ s. IsWithin (xs ++ ys) s folder image)
back_told xs ys none folder image None b told w = tt
back_told xs ys none folder image (Some a) b told w =
    let at_b = subst (λ (o : Option State). IfTold o (λ s. IsWithin ys s folder image)) told.1 w in
    within_back xs ys a folder image (subst (λ (s : State). IsWithin ys s folder image) (told.2.whole refl) at_b)

abbrev no_refusal : Option DiskRefusal
no_refusal = None

none_not_some : (reason : DiskRefusal) → no_refusal ≡ Some reason → ⊥
none_not_some reason is = cc

none_not_failed : no_refusal ≢ Some Failed
none_not_failed is = none_not_some Failed is

not_none : (reason : DiskRefusal) → Some reason ≡ no_refusal → ⊥
not_none reason is = cc

-- nothing was done, and then maybe a call was refused before it was made
stops-none : (rest : List Call) (refusal : Option DiskRefusal) (state : State) → refusal ≢ Some Failed → Stops [] rest refusal state state
stops-none rest refusal state not_failed = record {
  whole = λ _. refl;
  is_counted = false;
  temporary = state.temporary;
  refused = λ reason is. refl;
  kept = λ reason is no. refl;
  go_on = go_on-none state.schedule;
  fails = λ is. absurd (not_failed is);
  unasked = unasked-none state.schedule;
}

stops_told-none : (rest : List Call) (refusal : Option DiskRefusal) (told : Option State) → refusal ≢ Some Failed → StopsTold [] rest refusal told told
stops_told-none rest refusal None not_failed = refl
stops_told-none rest refusal (Some state) not_failed = (state, refl, stops-none rest refusal state not_failed)

at_start : (steps : List Step) (folder : List ℕ) (image : List File) (told : Option State) → IfTold told (λ s. IsImage (s.folder folder) image) → IfTold told (λ s. IsWithin steps s folder image)
at_start steps folder image None now = tt
at_start steps folder image (Some state) now = record { count = 0; within = omega arith; left = now }

pub told_map : (told : Option State) (P Q : State → Type 0) → IfTold told P → ((s : State) → P s → Q s) → IfTold told Q
told_map None P Q has more = tt
told_map (Some state) P Q has more = more state has

told_all : (told : Option State) (L : List File → Type 0) (W : State → List File → Type 0) → ((image : List File) → L image → IfTold told (λ s. W s image)) → IfTold told (λ s. (image : List File) → L image → W s image)
told_all None L W any = tt
told_all (Some state) L W any = any

empty_front : {A : Type 0} (xs ys : List A) → xs ++ ys ≡ [] → xs ≡ []
empty_front [] ys is = refl
empty_front (x ∷ xs) ys is = cc

-- ---- runs

module _ {D : Type 0} (seen : D → Seen) (left_since : D → Past) where
  -- before the first call, or where it was refused before it was made
  begun : (calls : List Call) (refusal : Option DiskRefusal) (disk : D) → refusal ≢ Some Failed → (refusal ≡ None → calls ≡ []) → ((reason : DiskRefusal) → refusal ≡ Some reason → calls ≢ [])
      → Runs seen left_since calls refusal disk disk
  begun calls refusal disk not_failed all some = record {
    steps = [];
    rest = calls;
    split = refl;
    all = all;
    some = some;
    told = stops_told-none calls refusal (seen disk).told not_failed;
    later = omega arith;
    nothing_else = λ t folder image le left. inl left;
    keeps = λ exact t folder image le left. left;
    failed = λ is. absurd (not_failed is);
    quiet = λ _. refl;
  }

  pub runs_none : (disk : D) → Runs seen left_since [] None disk disk
  runs_none disk = begun [] None disk none_not_failed (λ _. refl) (λ reason is. absurd (none_not_some reason is))

  pub not_begun : (calls : List Call) (reason : DiskRefusal) (disk : D) → reason ≢ Failed → calls ≢ [] → Runs seen left_since calls (Some reason) disk disk
  not_begun calls reason disk not_failed some = begun calls (Some reason) disk (λ is. not_failed (cc)) (λ is. absurd (not_none reason is)) (λ _ _. some)

  -- a run of a disk that was left as it was
  pub runs_after : (calls : List Call) (refusal : Option DiskRefusal) (a b c : D) → IsUntouched seen left_since a b → Runs seen left_since calls refusal b c → Runs seen left_since calls refusal a c
  runs_after calls refusal a b c same run = record {
    steps = run.steps;
    rest = run.rest;
    split = run.split;
    all = run.all;
    some = run.some;
    told = subst (λ (o : Option State). StopsTold run.steps run.rest refusal o (seen c).told) same.told run.told;
    later = omega (arith, run.later, same.moment);
    nothing_else = λ t folder image le left. ⊎_elim
        (λ past. inl ((same.left t folder image).0 past))
        (λ w. inr (subst (λ (o : Option State). IfTold o (λ s. IsWithin run.steps s folder image)) same.told w))
        (run.nothing_else t folder image (omega (arith, le, same.moment)) left);
    keeps = λ exact t folder image le left. run.keeps (subst IsExact (sym same.told) exact) t folder image (omega (arith, le, same.moment)) ((same.left t folder image).1 left);
    failed = λ is. run.failed is ∙ ap one_more same.faults;
    quiet = λ is. run.quiet is ∙ same.faults;
  }

  -- the steps of calls that were all done
  pub steps_of : (calls : List Call) (a b : D) → (run : Runs seen left_since calls None a b) → calls ≡ calls_in run.steps
  steps_of calls a b run = run.split ∙ ap (λ (l : List Call). calls_in run.steps ++ l) (run.all refl) ∙ append-nil (calls_in run.steps)

  -- one run after another
  pub runs_more : (xs ys : List Call) (refusal : Option DiskRefusal) (a b c : D) → Runs seen left_since xs None a b → Runs seen left_since ys refusal b c → Runs seen left_since (xs ++ ys) refusal a c
  runs_more xs ys refusal a b c first second =
      let quiet : (seen b).faults ≡ (seen a).faults = first.quiet none_not_failed in
      record {
        steps = first.steps ++ second.steps;
        rest = second.rest;
        split = ap (λ (l : List Call). l ++ ys) (steps_of xs a b first) ∙ ap (λ (l : List Call). calls_in first.steps ++ l) second.split
            ∙ sym (append_assoc (calls_in first.steps) (calls_in second.steps) second.rest) ∙ ap (λ (l : List Call). l ++ second.rest) (sym (calls_in-append first.steps second.steps));
        all = second.all;
        some = second.some;
        told = stops_told-append first.steps second.steps first.rest second.rest refusal (seen a).told (seen b).told (seen c).told first.told second.told;
        later = omega (arith, first.later, second.later);
        nothing_else = λ t folder image le left. ⊎_elim
            (λ past. ⊎_elim
            (λ before. inl before)
            (λ w. inr (front_told first.steps second.steps folder image (seen a).told w))
            (first.nothing_else t folder image le past))
            (λ w. inr (back_told first.steps second.steps first.rest folder image (seen a).told (seen b).told first.told w))
            (second.nothing_else t folder image (omega (arith, le, first.later)) left);
        keeps = λ exact t folder image le left.
            second.keeps (exact_after first.steps first.rest (seen a).told (seen b).told first.told exact) t folder image (omega (arith, le, first.later)) (first.keeps exact t folder image le left);
        failed = λ is. second.failed is ∙ ap one_more quiet;
        quiet = λ is. second.quiet is ∙ quiet;
      }

  -- a run that was refused, of a longer list
  pub runs_stop : (xs ys : List Call) (reason : DiskRefusal) (a b : D) → Runs seen left_since xs (Some reason) a b → Runs seen left_since (xs ++ ys) (Some reason) a b
  runs_stop xs ys reason a b first = record {
    steps = first.steps;
    rest = first.rest ++ ys;
    split = ap (λ (l : List Call). l ++ ys) first.split ∙ append_assoc (calls_in first.steps) first.rest ys;
    all = λ is. absurd (not_none reason is);
    some = λ other is none. first.some other is (empty_front first.rest ys none);
    told = stops_told-more first.steps first.rest ys reason (seen a).told (seen b).told (first.some reason refl) first.told;
    later = first.later;
    nothing_else = first.nothing_else;
    keeps = first.keeps;
    failed = first.failed;
    quiet = first.quiet;
  }

  -- what a crash within a run leaves
  pub leaves : (calls : List Call) (refusal : Option DiskRefusal) (a b : D) (folder : List ℕ)
      → ((image : List File) → left_since a (seen a).moment folder image → IfTold (seen a).told (λ s. IsImage (s.folder folder) image))
      → (run : Runs seen left_since calls refusal a b)
      → IfTold (seen a).told (λ s. LeavesOnly left_since b (seen a).moment folder (IsWithin run.steps s folder))
  leaves calls refusal a b folder now run =
      told_all (seen a).told (λ image. left_since b (seen a).moment folder image) (λ s image. IsWithin run.steps s folder image)
      (λ image left. ⊎_elim
      (λ past. at_start run.steps folder image (seen a).told (now image past))
      (λ w. w)
      (run.nothing_else (seen a).moment folder image (omega arith) left))

-- one call of a disk that tells nothing
pub untold : {D : Type 0} (seen : D → Seen) (left_since : D → Past) (call : Call) (refusal : Option DiskRefusal) (a b : D)
    → (seen a).told ≡ None → (seen b).told ≡ None → (seen a).moment ≤ (seen b).moment
    → ((t : ℕ) (folder : List ℕ) (image : List File) → left_since b t folder image → left_since a t folder image)
    → ((t : ℕ) (folder : List ℕ) (image : List File) → left_since a t folder image → left_since b t folder image)
    → (refusal ≡ Some Failed → (seen b).faults ≡ one_more (seen a).faults) → (refusal ≢ Some Failed → (seen b).faults ≡ (seen a).faults)
    → Runs seen left_since (call ∷ []) refusal a b
untold seen left_since call None a b told_a told_b later back on failed quiet = record {
  steps = Do call ∷ [];
  rest = [];
  split = refl;
  all = λ _. refl;
  some = λ reason is. absurd (none_not_some reason is);
  told = subst (λ (o : Option State). StopsTold (Do call ∷ []) [] None o (seen b).told) (sym told_a) told_b;
  later = later;
  nothing_else = λ t folder image le left. inl (back t folder image left);
  keeps = λ exact t folder image le left. on t folder image left;
  failed = failed;
  quiet = quiet;
}
untold seen left_since call (Some reason) a b told_a told_b later back on failed quiet = record {
  steps = [];
  rest = call ∷ [];
  split = refl;
  all = λ is. absurd (not_none reason is);
  some = λ other is none. cc;
  told = subst (λ (o : Option State). StopsTold [] (call ∷ []) (Some reason) o (seen b).told) (sym told_a) told_b;
  later = later;
  nothing_else = λ t folder image le left. inl (back t folder image left);
  keeps = λ exact t folder image le left. on t folder image left;
  failed = failed;
  quiet = quiet;
}
