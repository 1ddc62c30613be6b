-- What primaries did not do, by their answers, and how often something was done.
use Rattle.std.proofs.Common.{◌≡◌, ◌≢◌, ◌⊎◌, inl, inr, ℕ, ◌+◌, ◌-◌, ◌^◌, Bool, true, false, Contains, List, [], ◌∷◌, ◌++◌, append-nil, Option, Some, None, refl, sym, ap, subst, ◌∙◌, arith}
use Rattle.std.specs.Prelude.{if◌then◌else◌, min}
use Rattle.std.specs.List.{All, AllPairs}
use Rattle.std.proofs.lemmas.List.Elements.{All-append, All-cons, All-nil, All-weaker, Contains-append_left, Contains-append_right}
use Rattle.std.proofs.lemmas.List.Quantifiers.{all_pairs_push}
use Rattle.sw_hashpath.specs.Place.{PlaceModel}
use Rattle.sw_hashdir.specs.declared.floor.Floor.{Floor}
use Rattle.sw_message.specs.Floors.{refuses, stands_above}
use Rattle.sw_message.specs.Message.{is_primary}
use Rattle.sw_message.specs.Miss.{miss_of}
use Rattle.sw_message.specs.Transcript.{Closed, Gave, Step}
use Rattle.sw_message.specs.declared.message.Msg.{Msg}
use Rattle.sw_message.specs.declared.message.Msg.TheVariants as message
use Rattle.sw_message.specs.declared.miss.Miss.{Miss}
use Rattle.sw_message.specs.declared.miss.Miss.TheVariants as miss
use Rattle.sw_message.specs.declared.reply.Reply.{Reply}
use Rattle.sw_message.specs.declared.reply.Reply.TheVariants as reply
use Rattle.sw_message.specs.declared.sent.Sent.{Sent}
use Rattle.sw_quorum.specs.Answers.{forbidden_if}
use Rattle.sw_quorum.proofs.Refusals.{not-done}
use Rattle.sw_quorum.specs.Verdicts.{commit_verdict, delete_verdict, store_verdict}
use Rattle.sw_quorum.specs.declared.verdict.Verdict.{Verdict}
use Rattle.sw_quorum.specs.declared.verdict.Verdict.TheVariants as verdict
use Rattle.sw_gather.proofs.Lists.{here}
use Rattle.sw_sync.specs.Answers.{MissedAsk, WasTold}
use Rattle.sw_sync.specs.Causes.{AreFailures, HasFailed, IsForbidden, IsMissedWrite, capped, failed_device, is_committed, is_marked}
use Rattle.sw_sync.specs.Sync.{Begun, counted, failed_by}
use Rattle.sw_sync.specs.declared.sync_end.Failure.{Failure}
use Rattle.sw_sync.specs.declared.sync_end.Failure.TheVariants.{Missed, Superseded}
use Rattle.sw_sync.proofs.Messages.{told-cases, told-gave, told-later}
use Rattle.sw_sync.proofs.Surveys.{missed-before, missed-later, no-question}

-- ---- what an answer to a write means

pub record IsJudged (msg : Msg) (answer : Option Reply) (means : Verdict) : Type 0 where
  pub missed : (how : Miss) → IsMissedWrite msg answer how → means ≡ verdict.Missed how
  pub was_missed : (how : Miss) → means ≡ verdict.Missed how → IsMissedWrite msg answer how
  pub forbidden : (floor : Floor) → answer ≡ Some (reply.Superseded floor) → IsForbidden msg floor → means ≡ verdict.Forbidden floor
  pub was_forbidden : (floor : Floor) → means ≡ verdict.Forbidden floor → (answer ≡ Some (reply.Superseded floor)) × IsForbidden msg floor

same-miss : (a b : Miss) → ◌≡◌ {A = Verdict} (verdict.Missed a) (verdict.Missed b) → b ≡ a
same-miss a b is = cc

-- a floor that is told
module _ (msg : Msg) (told : Floor) (forbids : Floor → Bool) (missed_is : (how : Miss) → IsMissedWrite msg (Some (reply.Superseded told)) how → (forbids told ≡ false) × (how ≡ miss.Odd))
    (is_missed : forbids told ≡ false → IsMissedWrite msg (Some (reply.Superseded told)) miss.Odd) (forbidden_is : (floor : Floor) → IsForbidden msg floor → forbids floor ≡ true)
    (is_forbidden : (floor : Floor) → forbids floor ≡ true → IsForbidden msg floor) where
  judged-by : (b : Bool) → forbids told ≡ b → IsJudged msg (Some (reply.Superseded told)) (forbidden_if b told)
  judged-by true is = record {
    missed = λ how missed. absurd (let other = (missed_is how missed).0 in cc (sym is ∙ other));
    was_missed = λ how same. absurd (cc);
    forbidden = λ floor same forbidden. let floors : told ≡ floor = cc in ap (λ (one : Floor). verdict.Forbidden one) floors;
    was_forbidden = λ floor same.
        let floors : told ≡ floor = cc in
        (ap (λ (one : Floor). Some (reply.Superseded one)) floors, is_forbidden floor (ap forbids (sym floors) ∙ is));
  }
  judged-by false is = record {
    missed = λ how missed. ap (λ (one : Miss). verdict.Missed one) (sym (missed_is how missed).1);
    was_missed = λ how same. subst (IsMissedWrite msg (Some (reply.Superseded told))) (sym (same-miss miss.Odd how same)) (is_missed is);
    forbidden = λ floor same forbidden.
        let floors : told ≡ floor = cc in
        absurd (let yes = forbidden_is floor forbidden in cc (sym is ∙ ap forbids floors ∙ yes));
    was_forbidden = λ floor same. absurd (cc);
  }

  pub judged-floor : IsJudged msg (Some (reply.Superseded told)) (forbidden_if (forbids told) told)
  judged-floor = judged-by (forbids told) refl

-- another answer, which is a miss
judged-miss : (msg : Msg) (answer : Option Reply) (how : Miss) → ((other : Miss) → IsMissedWrite msg answer other → other ≡ how) → IsMissedWrite msg answer how → ((floor : Floor) → answer ≡ Some (reply.Superseded floor) → ⊥)
    → IsJudged msg answer (verdict.Missed how)
judged-miss msg answer how one is none = record {
  missed = λ other missed. ap (λ (one : Miss). verdict.Missed one) (sym (one other missed));
  was_missed = λ other same. subst (IsMissedWrite msg answer) (sym (same-miss how other same)) is;
  forbidden = λ floor same forbidden. absurd (none floor same);
  was_forbidden = λ floor same. absurd (cc);
}

judged-done : (msg : Msg) (answer : Option Reply) → ((how : Miss) → IsMissedWrite msg answer how → ⊥) → ((floor : Floor) → answer ≡ Some (reply.Superseded floor) → ⊥) → IsJudged msg answer verdict.Done
judged-done msg answer never none = record {
  missed = λ how missed. absurd (never how missed);
  was_missed = λ how same. absurd (cc);
  forbidden = λ floor same forbidden. absurd (none floor same);
  was_forbidden = λ floor same. absurd (cc);
}

module _ (place : PlaceModel) (stamp : ℕ) where
  pub judged-delete : (answer : Option Reply) → IsJudged (message.Delete place stamp) answer (delete_verdict stamp answer)
  judged-delete None = judged-miss (message.Delete place stamp) None miss.NoReply (λ other is. is) refl (λ floor same. cc)
  judged-delete (Some (reply.Deleted existed)) = judged-done (message.Delete place stamp) (Some (reply.Deleted existed)) (λ how is. is) (λ floor same. cc)
  judged-delete (Some (reply.Superseded floor)) =
      judged-floor (message.Delete place stamp) floor (λ one. refuses one stamp) (λ how is. is) (λ is. (is, refl)) (λ one is. is) (λ one is. is)
  judged-delete (Some other) = judged-miss (message.Delete place stamp) (Some other) (miss_of other) (λ how is. is) refl (λ floor same. cc)

  module _ (index : ℕ) where
    pub judged-store : (bytes : List ℕ) (answer : Option Reply) → IsJudged (message.PutFrag place stamp index bytes) answer (store_verdict stamp answer)
    judged-store bytes None = judged-miss (message.PutFrag place stamp index bytes) None miss.NoReply (λ other is. is) refl (λ floor same. cc)
    judged-store bytes (Some reply.Synced) = judged-done (message.PutFrag place stamp index bytes) (Some reply.Synced) (λ how is. is) (λ floor same. cc)
    judged-store bytes (Some (reply.Superseded floor)) =
        judged-floor (message.PutFrag place stamp index bytes) floor (λ one. stands_above one stamp) (λ how is. is) (λ is. (is, refl)) (λ one is. is) (λ one is. is)
    judged-store bytes (Some other) = judged-miss (message.PutFrag place stamp index bytes) (Some other) (miss_of other) (λ how is. is) refl (λ floor same. cc)

    pub judged-commit : (answer : Option Reply) → IsJudged (message.Commit place stamp index) answer (commit_verdict stamp answer)
    judged-commit None = judged-miss (message.Commit place stamp index) None miss.NoReply (λ other is. is) refl (λ floor same. cc)
    judged-commit (Some reply.Committed) = judged-done (message.Commit place stamp index) (Some reply.Committed) (λ how is. is) (λ floor same. cc)
    judged-commit (Some (reply.Superseded floor)) =
        judged-floor (message.Commit place stamp index) floor (λ one. stands_above one stamp) (λ how is. is) (λ is. (is, refl)) (λ one is. is) (λ one is. is)
    judged-commit (Some reply.Missing) = judged-miss (message.Commit place stamp index) (Some reply.Missing) miss.Missing (λ how is. is) refl (λ floor same. cc)
    judged-commit (Some other) = judged-miss (message.Commit place stamp index) (Some other) (miss_of other) (λ how is. is) refl (λ floor same. cc)

-- what was stored
pub stored-done : (stamp : ℕ) (answer : Option Reply) → store_verdict stamp answer ≡ verdict.Done → answer ≡ Some reply.Synced
stored-done stamp None is = absurd (cc)
stored-done stamp (Some reply.Synced) is = refl
stored-done stamp (Some (reply.Superseded floor)) is = absurd (not-done (stands_above floor stamp) floor is)
stored-done stamp (Some other) is = absurd (cc)

-- ---- failures

abbrev pub IsOfPrimary : Begun → Failure → Type 0
IsOfPrimary begun one = is_primary begun.cluster (failed_device one) begun.place ≡ true

abbrev pub AreApart : Failure → Failure → Type 0
AreApart one other = failed_device one ≢ failed_device other

-- a device did not do what it was told
abbrev pub HasRefused : Msg → Option Reply → Type 0
HasRefused msg answer = ((how : Miss) × IsMissedWrite msg answer how) ⊎ ((floor : Floor) × (answer ≡ Some (reply.Superseded floor)) × IsForbidden msg floor)

pub asks-refused : (place : PlaceModel) (answer : Option Reply) → HasRefused (message.Ask place) answer → ⊥
asks-refused place answer (inl missed) = missed.1
asks-refused place answer (inr forbidden) = forbidden.2

pub fetch-refused : (place : PlaceModel) (stamp index : ℕ) (answer : Option Reply) → HasRefused (message.Fetch place stamp index) answer → ⊥
fetch-refused place stamp index answer (inl missed) = missed.1
fetch-refused place stamp index answer (inr forbidden) = forbidden.2

pub synced-refused : (place : PlaceModel) (stamp index : ℕ) (bytes : List ℕ) → HasRefused (message.PutFrag place stamp index bytes) (Some reply.Synced) → ⊥
synced-refused place stamp index bytes (inl missed) = missed.1
synced-refused place stamp index bytes (inr forbidden) = let same = forbidden.1 in cc

-- a device that answered as it was asked, and refused nothing, is none of those that failed
pub none-failed : (begun : Begun) (past : List Step) (device : ℕ) → ((how : Miss) → MissedAsk begun past device how → ⊥) → ((msg : Msg) (answer : Option Reply) → WasTold past device msg answer → HasRefused msg answer → ⊥)
    → (failed : List Failure) → All (HasFailed begun past) failed → All (λ one. failed_device one ≢ device) failed
none-failed begun past device asked refused failed each = All-weaker (HasFailed begun past) (λ one. failed_device one ≢ device) differs failed each
  where
    differs : (one : Failure) → HasFailed begun past one → failed_device one ≢ device
    differs (Missed other how) (inl missed) same = asked how (subst (λ n. MissedAsk begun past n how) same missed)
    differs (Missed other how) (inr (msg, answer, told, missed)) same = refused msg answer (subst (λ n. WasTold past n msg answer) same told) (inl (how, missed))
    differs (Superseded other floor) (msg, told, forbidden) same =
        refused msg (Some (reply.Superseded floor)) (subst (λ n. WasTold past n msg (Some (reply.Superseded floor))) same told) (inr (floor, refl, forbidden))

module _ (begun : Begun) (past : List Step) (step : Step) where
  failed-later : (failure : Failure) → HasFailed begun past failure → HasFailed begun (step ∷ past) failure
  failed-later (Missed device how) (inl ask) = inl (missed-later begun past step device how ask)
  failed-later (Missed device how) (inr (msg, answer, told, is)) = inr (msg, answer, told-later past step device msg answer told, is)
  failed-later (Superseded device floor) (msg, told, is) = (msg, told-later past step device msg (Some (reply.Superseded floor)) told, is)

-- a message is handed out
pub failures-gave : (begun : Begun) (past : List Step) (sent : Sent) (failed : List Failure) → AreFailures begun past failed → AreFailures begun (Gave sent ∷ past) failed
failures-gave begun past sent failed are = record {
  primaries = are.primaries;
  each = All-weaker (HasFailed begun past) (HasFailed begun (Gave sent ∷ past)) (failed-later begun past (Gave sent)) failed are.each;
  once = are.once;
  asks = λ device how primary is. are.asks device how primary (missed-before begun past (Gave sent) (λ device answer ticket same. cc) device how is);
  misses = λ device msg answer how told is. are.misses device msg answer how (told-gave past sent device msg answer told) is;
  forbidden = λ device msg floor told is. are.forbidden device msg floor (told-gave past sent device msg (Some (reply.Superseded floor)) told) is;
}

-- an answer to what is no question comes
module _ (begun : Begun) (past : List Step) (ticket device : ℕ) (msg : Msg) (answer : Option Reply) (failed : List Failure) (are : AreFailures begun past failed) (other : msg ≡ message.Ask begun.place → ⊥) where
  abbrev sent : Sent
  sent = record { ticket = ticket; device = device; msg = msg }

  abbrev after : List Step
  after = Closed sent answer ∷ past

  asks-before : (primary : ℕ) (how : Miss) → MissedAsk begun after primary how → MissedAsk begun past primary how
  asks-before = missed-before begun past (Closed sent answer) (no-question begun sent answer other)

  each-later : All (HasFailed begun after) failed
  each-later = All-weaker (HasFailed begun past) (HasFailed begun after) (failed-later begun past (Closed sent answer)) failed are.each

  -- to a write
  module _ (means : Verdict) (judged : IsJudged msg answer means) (primary : is_primary begun.cluster device begun.place ≡ true) (new : All (λ one. failed_device one ≢ device) failed) where
    told-now : WasTold after device msg answer
    told-now = (ticket, here (Closed sent answer) past)

    failed-now : (how : Verdict) → means ≡ how → All (HasFailed begun after) (failed_by device how)
    failed-now verdict.Done is = All-nil (HasFailed begun after)
    failed-now (verdict.Forbidden floor) is =
        let was = judged.was_forbidden floor is in
        All-cons (HasFailed begun after) (Superseded device floor) [] (msg, subst (WasTold after device msg) was.0 told-now, was.1) (All-nil (HasFailed begun after))
    failed-now (verdict.Missed how) is =
        All-cons (HasFailed begun after) (Missed device how) [] (inr (msg, answer, told-now, judged.was_missed how is)) (All-nil (HasFailed begun after))

    of-primary : (how : Verdict) → All (IsOfPrimary begun) (failed_by device how)
    of-primary verdict.Done = All-nil (IsOfPrimary begun)
    of-primary (verdict.Forbidden floor) = All-cons (IsOfPrimary begun) (Superseded device floor) [] primary (All-nil (IsOfPrimary begun))
    of-primary (verdict.Missed how) = All-cons (IsOfPrimary begun) (Missed device how) [] primary (All-nil (IsOfPrimary begun))

    once-more : (how : Verdict) → AllPairs AreApart (failed ++ failed_by device how)
    once-more verdict.Done = subst (AllPairs AreApart) (sym (append-nil failed)) are.once
    once-more (verdict.Forbidden floor) = all_pairs_push AreApart failed (Superseded device floor) are.once new
    once-more (verdict.Missed how) = all_pairs_push AreApart failed (Missed device how) are.once new

    pub failures-told : AreFailures begun after (failed ++ failed_by device means)
    failures-told = record {
      primaries = All-append (IsOfPrimary begun) failed (failed_by device means) are.primaries (of-primary means);
      each = All-append (HasFailed begun after) failed (failed_by device means) each-later (failed-now means refl);
      once = once-more means;
      asks = λ one how of is. Contains-append_left failed (failed_by device means) (Missed one how) (are.asks one how of (asks-before one how is));
      misses = λ one of told how was is. elim (told-cases past sent answer one of told was) [
        | inr before ↦ Contains-append_left failed (failed_by device means) (Missed one how) (are.misses one of told how before is)
        | inl this ↦
            let missed : IsMissedWrite msg answer how = subst (λ (m : Msg). IsMissedWrite m answer how) (sym this.1) (subst (λ (a : Option Reply). IsMissedWrite of a how) (sym this.2) is) in
            Contains-append_right failed (failed_by device means) (Missed one how)
            (subst (λ (v : Verdict). Contains (failed_by device v) (Missed one how)) (sym (judged.missed how missed))
            (subst (λ n. Contains (Missed device how ∷ []) (Missed n how)) this.0 (here (Missed device how) [])))
      ];
      forbidden = λ one of floor was is. elim (told-cases past sent answer one of (Some (reply.Superseded floor)) was) [
        | inr before ↦ Contains-append_left failed (failed_by device means) (Superseded one floor) (are.forbidden one of floor before is)
        | inl this ↦
            let forbidden : IsForbidden msg floor = subst (λ (m : Msg). IsForbidden m floor) (sym this.1) is in
            Contains-append_right failed (failed_by device means) (Superseded one floor)
            (subst (λ (v : Verdict). Contains (failed_by device v) (Superseded one floor)) (sym (judged.forbidden floor this.2 forbidden))
            (subst (λ n. Contains (Superseded device floor ∷ []) (Superseded n floor)) this.0 (here (Superseded device floor) [])))
      ];
    }

  -- to a fetch
  pub failures-fetched : ((how : Miss) → IsMissedWrite msg answer how → ⊥) → ((floor : Floor) → IsForbidden msg floor → ⊥) → AreFailures begun after failed
  failures-fetched no_miss no_floor = record {
    primaries = are.primaries;
    each = each-later;
    once = are.once;
    asks = λ one how of is. are.asks one how of (asks-before one how is);
    misses = λ one of told how was is. elim (told-cases past sent answer one of told was) [
      | inr before ↦ are.misses one of told how before is
      | inl this ↦ absurd (no_miss how (subst (λ (m : Msg). IsMissedWrite m answer how) (sym this.1) (subst (λ (a : Option Reply). IsMissedWrite of a how) (sym this.2) is)))
    ];
    forbidden = λ one of floor was is. elim (told-cases past sent answer one of (Some (reply.Superseded floor)) was) [
      | inr before ↦ are.forbidden one of floor before is
      | inl this ↦ absurd (no_floor floor (subst (λ (m : Msg). IsForbidden m floor) (sym this.1) is))
    ];
  }

-- ---- counts

abbrev pub is_done : Verdict → Bool
is_done verdict.Done = true
is_done other = false

up-to : (most count : ℕ) → min (min count most + 1) most ≡ min (count + 1) most
up-to most count = omega arith

-- a count after an answer that does it, or does nothing of it
pub counted-more : (n count : ℕ) (means : Verdict) (b : Bool) → n ≡ capped count → b ≡ is_done means → counted n means ≡ capped (count + (if b then 1 else 0))
counted-more n count means b is same = by_verdict means ∙ ap {B = ℕ} (λ b. capped (count + (if b then 1 else 0))) (sym same)
  where
    by_verdict : (one : Verdict) → counted n one ≡ capped (count + (if is_done one then 1 else 0))
    by_verdict verdict.Done = ap (λ m. min (m + 1) (2 ^ 32 - 1)) is ∙ up-to (2 ^ 32 - 1) count
    by_verdict (verdict.Forbidden floor) = is ∙ ap capped (omega arith)
    by_verdict (verdict.Missed how) = is ∙ ap capped (omega arith)

pub counted-same : (n count : ℕ) (b : Bool) → n ≡ capped count → b ≡ false → n ≡ capped (count + (if b then 1 else 0))
counted-same n count b is none = is ∙ ap {A = ℕ} capped (omega arith) ∙ ap {B = ℕ} (λ b. capped (count + (if b then 1 else 0))) (sym none)

floor-not-done : (b : Bool) (floor : Floor) → is_done (forbidden_if b floor) ≡ false
floor-not-done true floor = refl
floor-not-done false floor = refl

pub marked-is : (place : PlaceModel) (stamp : ℕ) (answer : Option Reply) → is_marked (message.Delete place stamp) answer ≡ is_done (delete_verdict stamp answer)
marked-is place stamp None = refl
marked-is place stamp (Some (reply.Deleted existed)) = refl
marked-is place stamp (Some (reply.Superseded floor)) = sym (floor-not-done (refuses floor stamp) floor)
marked-is place stamp (Some other) = refl

-- of an index that is counted, and of another
module _ (of : ℕ → Bool) (place : PlaceModel) (stamp index : ℕ) where
  pub committed-is : (answer : Option Reply) → of index ≡ true → is_committed of (message.Commit place stamp index) answer ≡ is_done (commit_verdict stamp answer)
  committed-is None is = refl
  committed-is (Some reply.Committed) is = is
  committed-is (Some (reply.Superseded floor)) is = sym (floor-not-done (stands_above floor stamp) floor)
  committed-is (Some other) is = refl

  pub committed-not : (answer : Option Reply) → of index ≡ false → is_committed of (message.Commit place stamp index) answer ≡ false
  committed-not None is = refl
  committed-not (Some reply.Committed) is = is
  committed-not (Some other) is = refl
