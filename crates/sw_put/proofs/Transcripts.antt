-- What every transcript of a put keeps.
use Rattle.std.proofs.Common.{◌≡◌, ℕ, ◌+◌, ◌≤◌, ◌<◌, List, [], ◌∷◌, ◌++◌, append-nil, append_assoc, drop, length, map, Option, Some, refl, sym, ap, subst, ◌∙◌, arith}
use Rattle.std.specs.List.{sum_by}
use Rattle.std.proofs.lemmas.List.{length-append, length-map, map-append}
use Rattle.std.proofs.lemmas.List.Sums.{sum_by-append}
use Rattle.std.proofs.lemmas.Option.{none-some}
use Rattle.sw_message.specs.Transcript.{Closed, Gave, Hand, IsRun, Next, Over, Step, Wait, given, open_at, opens}
use Rattle.sw_message.specs.declared.reply.Reply.{Reply}
use Rattle.sw_message.specs.declared.sent.Sent.{Sent}
use Rattle.sw_message.specs.declared.target.Target.{Target}
use Rattle.sw_quorum.specs.Answers.{Judged, missed, missed_in}
use Rattle.sw_quorum.proofs.DueLaws as laws
use Rattle.sw_quorum.specs.Dues.{Grew, IsDue, IsLonger}
use Rattle.sw_quorum.proofs.Laws.{counts-within, judged, missed-more, sum-ones}
use Rattle.sw_quorum.proofs.Transcripts.{answers-weigh, numbered, one_less}
use Rattle.sw_quorum.specs.Transcripts.{closed_count}
use Rattle.sw_put.specs.Put.{Begun, IsNext, commits, commits_due, due, end_at, handoffs, judge_commit, judge_store, primaries, put_end, put_message, put_next, replacements, stores, stores_due}
use Rattle.sw_quorum.specs.Targets.{targets_from}
use Rattle.sw_quorum.specs.Verdicts.{store_verdict}
use Rattle.sw_put.specs.declared.end.PutEnd.{PutEnd}
use Rattle.sw_put.specs.declared.errand.Errand.{Errand}
use Rattle.sw_put.specs.declared.errand.Errand.TheVariants.{CommitAt, StoreAt}
use Rattle.sw_put.proofs.Dues.{commits_due_by, due_by, length-commits_due, no_commits, replacements-more, stores_due-few, stores_due_by}
use Rattle.sw_put.proofs.Weights.{commit_weight, commits-of_commits, commits-of_stores, judged-commit, judged-store, store_weight, stores-of_commits, stores-of_stores, weight_of}

ended_or : (begun : Begun) (past : List Step) (next : Next) (end : PutEnd) → end_at begun past next ≡ Some end → next ≡ Over
ended_or begun past Over end is = refl
ended_or begun past Wait end is = absurd (none-some end is)
ended_or begun past (Hand sent) end is = absurd (none-some end is)

pub ended : (begun : Begun) (past : List Step) (end : PutEnd) → put_end begun past ≡ Some end → put_next begun past ≡ Over
ended begun past end is = ended_or begun past (put_next begun past) end is

-- a message of a put, of what is due at its ticket
abbrev pub IsPut : Begun → List Step → Sent → Type 0
IsPut begun past = IsDue (put_message begun) (due begun past)

pub own : (begun : Begun) (ticket : ℕ) (errand : Errand) → (put_message begun ticket errand).ticket ≡ ticket
own begun ticket (StoreAt target) = refl
own begun ticket (CommitAt target) = refl

-- what a message counts, by its errand
abbrev pub counts_as : (Errand → ℕ) → Sent → ℕ
counts_as h sent = weight_of h sent.device sent.msg

counts : (begun : Begun) (h : Errand → ℕ) (ticket : ℕ) (errand : Errand) → counts_as h (put_message begun ticket errand) ≡ h errand
counts begun h ticket (StoreAt target) = refl
counts begun h ticket (CommitAt target) = refl

pub length-due : (begun : Begun) (past : List Step) → length (due begun past) ≡ length (stores_due begun past) + length (commits_due begun past)
length-due begun past =
    omega (arith, length-append (map StoreAt (stores_due begun past)) (map CommitAt (commits_due begun past)), length-map (stores_due begun past) StoreAt, length-map (commits_due begun past) CommitAt)

-- ---- what was answered, is open, or is still to be handed out

module _ (begun : Begun) (past : List Step) (run : IsRun (IsNext begun) past) (grown : Grew (due begun) past) (w : Target → ℕ) where
  pub stores-balance : sum_by (λ (one : Judged Target). w one.about) (stores past) + sum_by (counts_as (store_weight w)) (opens past) + sum_by (store_weight w) (drop (length (given past)) (due begun past))
      ≡ sum_by w (stores_due begun past)
  stores-balance =
      omega (
        arith,
        laws.spent (put_message begun) (own begun) (due begun) (counts_as (store_weight w)) (store_weight w) (counts begun (store_weight w)) past run grown,
        answers-weigh (λ sent answer. judge_store sent.device sent.msg answer) w (counts_as (store_weight w)) (λ sent answer. judged-store w sent.device sent.msg answer) past,
        sum_by-append (store_weight w) (map StoreAt (stores_due begun past)) (map CommitAt (commits_due begun past)),
        stores-of_stores w (stores_due begun past),
        stores-of_commits w (commits_due begun past),
      )

  pub commits-balance : sum_by (λ (one : Judged Target). w one.about) (commits past) + sum_by (counts_as (commit_weight w)) (opens past) + sum_by (commit_weight w) (drop (length (given past)) (due begun past))
      ≡ sum_by w (commits_due begun past)
  commits-balance =
      omega (
        arith,
        laws.spent (put_message begun) (own begun) (due begun) (counts_as (commit_weight w)) (commit_weight w) (counts begun (commit_weight w)) past run grown,
        answers-weigh (λ sent answer. judge_commit sent.device sent.msg answer) w (counts_as (commit_weight w)) (λ sent answer. judged-commit w sent.device sent.msg answer) past,
        sum_by-append (commit_weight w) (map StoreAt (stores_due begun past)) (map CommitAt (commits_due begun past)),
        commits-of_stores w (stores_due begun past),
        commits-of_commits w (commits_due begun past),
      )

-- ---- what is due grows at its end

module _ (begun : Begun) (past : List Step) (ticket : ℕ) (target : Target) where
  -- where a fragment is open, fragments' answers are missing
  pub fewer-stored : (sent : Sent) → IsRun (IsNext begun) past → Grew (due begun) past → open_at sent.ticket past ≡ Some sent → sent ≡ put_message begun ticket (StoreAt target)
      → length (stores past) < length (stores_due begun past)
  fewer-stored sent run grown is same =
      let w : Target → ℕ = λ _. 1 in
      let weight : counts_as (store_weight w) sent ≡ 1 = ap (counts_as (store_weight w)) same in
      omega (
        arith,
        weight,
        stores-balance begun past run grown w,
        one_less (counts_as (store_weight w)) sent.ticket (opens past) sent is (numbered (IsNext begun) (laws.numbers (put_message begun) (own begun) (due begun)) past run).apart,
        sum-ones (stores past),
        sum-ones (stores_due begun past),
      )

  -- and where a commit is open, commits' answers
  pub fewer-committed : (sent : Sent) → IsRun (IsNext begun) past → Grew (due begun) past → open_at sent.ticket past ≡ Some sent → sent ≡ put_message begun ticket (CommitAt target)
      → length (commits past) < length (commits_due begun past)
  fewer-committed sent run grown is same =
      let w : Target → ℕ = λ _. 1 in
      let weight : counts_as (commit_weight w) sent ≡ 1 = ap (counts_as (commit_weight w)) same in
      omega (
        arith,
        weight,
        commits-balance begun past run grown w,
        one_less (counts_as (commit_weight w)) sent.ticket (opens past) sent is (numbered (IsNext begun) (laws.numbers (put_message begun) (own begun) (due begun)) past run).apart,
        sum-ones (commits past),
        sum-ones (commits_due begun past),
      )

module _ (begun : Begun) (past : List Step) (ticket : ℕ) (target : Target) (answer : Option Reply) where
  told-store : length (stores past) < length (stores_due begun past) → IsLonger (due begun past) (due begun (Closed (put_message begun ticket (StoreAt target)) answer ∷ past))
  told-store few =
      let after : List (Judged Target) = stores past ++ judged target (store_verdict begun.stamp answer) ∷ [] in
      let front : List Target = targets_from 0 (primaries begun) in
      let grows = replacements-more (missed (stores past)) (missed_in target (store_verdict begun.stamp answer)) (handoffs begun) in
      let more : stores_due_by begun after ≡ stores_due begun past ++ grows.0 =
      ap (λ these. front ++ replacements these (handoffs begun)) (missed-more (stores past) target (store_verdict begun.stamp answer))
      ∙ ap (λ these. front ++ these) grows.1
      ∙ sym (append_assoc front (replacements (missed (stores past)) (handoffs begun)) grows.0) in
      let later : List Errand = map CommitAt (commits_due_by begun after) in
      let before : due begun past ≡ map StoreAt (stores_due begun past) =
      ap (λ these. map StoreAt (stores_due begun past) ++ map CommitAt these) (no_commits begun (stores past) few) ∙ append-nil (map StoreAt (stores_due begun past)) in (
        map StoreAt grows.0 ++ later,
        ap (λ these. map StoreAt these ++ later) more
            ∙ ap (λ these. these ++ later) (map-append StoreAt (stores_due begun past) grows.0)
            ∙ append_assoc (map StoreAt (stores_due begun past)) (map StoreAt grows.0) later
            ∙ ap (λ these. these ++ (map StoreAt grows.0 ++ later)) (sym before),
      )

  told-commit : IsLonger (due begun past) (due begun (Closed (put_message begun ticket (CommitAt target)) answer ∷ past))
  told-commit = ([], ap (due_by begun) (append-nil (stores past)) ∙ sym (append-nil (due begun past)))

module _ (begun : Begun) where
  grows-by : (past : List Step) (sent : Sent) (answer : Option Reply) (ticket : ℕ) (errand : Errand) → sent ≡ put_message begun ticket errand → IsRun (IsNext begun) (Closed sent answer ∷ past) → Grew (due begun) past
      → IsLonger (due begun past) (due begun (Closed sent answer ∷ past))
  grows-by past sent answer ticket (StoreAt target) same run grown =
      subst (λ (one : Sent). IsLonger (due begun past) (due begun (Closed one answer ∷ past))) (sym same)
      (told-store begun past ticket target answer (fewer-stored begun past ticket target sent run.1 grown run.0 same))
  grows-by past sent answer ticket (CommitAt target) same run grown =
      subst (λ (one : Sent). IsLonger (due begun past) (due begun (Closed one answer ∷ past))) (sym same) (told-commit begun past ticket target answer)

  pub grew : (past : List Step) → IsRun (IsNext begun) past → Grew (due begun) past
  grew [] run = tt
  grew (Gave sent ∷ past) run = (([], sym (append-nil (due begun past))), grew past run.1)
  grew (Closed sent answer ∷ past) run =
      let grown = grew past run.1 in
      let known = laws.open-due (put_message begun) (own begun) (due begun) past sent.ticket sent run.1 grown run.0 in
      (grows-by past sent answer sent.ticket known.0.about known.0.is run grown, grown)

  -- ---- every transcript

  pub handed : (past : List Step) (sent : Sent) → put_next begun past ≡ Hand sent → (sent.ticket ≡ length (given past)) × IsPut begun past sent
  handed past sent is = laws.handed (put_message begun) (own begun) (due begun past) past sent is

  pub open-put : (past : List Step) (ticket : ℕ) (sent : Sent) → IsRun (IsNext begun) past → open_at ticket past ≡ Some sent → IsPut begun past sent × (sent.ticket ≡ ticket)
  open-put past ticket sent run is = laws.open-due (put_message begun) (own begun) (due begun) past ticket sent run (grew past run) is

  judged-one : (ticket : ℕ) (errand : Errand) (answer : Option Reply)
      → length (judge_store (put_message begun ticket errand).device (put_message begun ticket errand).msg answer) + length (judge_commit (put_message begun ticket errand).device (put_message begun ticket errand).msg answer) ≡ 1
  judged-one ticket (StoreAt target) answer = refl
  judged-one ticket (CommitAt target) answer = refl

  -- each answer is that to a fragment or to a commit
  pub answers-are : (past : List Step) → IsRun (IsNext begun) past → length (stores past) + length (commits past) ≡ closed_count past
  answers-are [] run = refl
  answers-are (Gave sent ∷ past) run = answers-are past run.1
  answers-are (Closed sent answer ∷ past) run =
      let known = (open-put past sent.ticket sent run.1 run.0).0 in
      let one : length (judge_store sent.device sent.msg answer) + length (judge_commit sent.device sent.msg answer) ≡ 1 =
      ap (λ (one : Sent). length (judge_store one.device one.msg answer) + length (judge_commit one.device one.msg answer)) known.is ∙ judged-one sent.ticket known.about answer in
      omega (arith, answers-are past run.1, one, length-append (stores past) (judge_store sent.device sent.msg answer), length-append (commits past) (judge_commit sent.device sent.msg answer))

  pub given-within : (past : List Step) → IsRun (IsNext begun) past → length (given past) ≤ length (due begun past)
  given-within past run = laws.given-within (put_message begun) (own begun) (due begun) past run (grew past run)

  -- no more fragments are answered than go out, and no more commits
  pub stores-within : (past : List Step) → IsRun (IsNext begun) past → length (stores past) ≤ length (stores_due begun past)
  stores-within past run = omega (arith, stores-balance begun past run (grew past run) (λ _. 1), sum-ones (stores past), sum-ones (stores_due begun past))

  pub commits-within : (past : List Step) → IsRun (IsNext begun) past → length (commits past) ≤ length (commits_due begun past)
  commits-within past run = omega (arith, commits-balance begun past run (grew past run) (λ _. 1), sum-ones (commits past), sum-ones (commits_due begun past))

  -- commits go out for what is stored
  pub commits_due-few : (past : List Step) → IsRun (IsNext begun) past → length (commits_due begun past) ≤ length (primaries begun) + length (handoffs begun)
  commits_due-few past run =
      omega (arith, length-commits_due begun (stores past), (counts-within (stores past)).done, stores-within past run, stores_due-few begun (stores past))

  pub over-closed : (past : List Step) → IsRun (IsNext begun) past → put_next begun past ≡ Over → opens past ≡ []
  over-closed past run is = laws.over-closed (put_message begun) (own begun) (due begun) past run (grew past run) is

  -- where it is over, each fragment and each commit was answered
  pub over-all : (past : List Step) → IsRun (IsNext begun) past → put_next begun past ≡ Over → (length (stores past) ≡ length (stores_due begun past)) × (length (commits past) ≡ length (commits_due begun past))
  over-all past run is =
      let all : length (due begun past) ≤ closed_count past = (laws.over (put_message begun) (due begun past) past is).1 in
      let size : length (due begun past) ≡ length (stores_due begun past) + length (commits_due begun past) = length-due begun past in
      (omega (arith, all, size, answers-are past run, stores-within past run, commits-within past run), omega (arith, all, size, answers-are past run, stores-within past run, commits-within past run))
