-- Archives are fetched: each that was brought, each source that was lost, and which are tried.
use Rattle.std.proofs.Common.{◌≡◌, ◌≢◌, ◌⊎◌, inl, inr, ℕ, ◌+◌, ◌≤◌, ◌==◌, Bool, true, false, cond, Contains, List, [], ◌∷◌, ◌++◌, append_assoc, length, map, Option, Some, None, refl, sym, ap, subst, ◌∙◌, arith}
use Rattle.std.specs.Prelude.{if◌then◌else◌}
use Rattle.std.specs.List.{All, count_by}
use Rattle.std.proofs.lemmas.Bool.{true≢false}
use Rattle.std.proofs.lemmas.List.{length-append}
use Rattle.std.proofs.lemmas.List.Elements.{All-push, All-weaker, Contains-append_left, Contains-push}
use Rattle.std.proofs.lemmas.List.Quantifiers.{all_pairs_push}
use Rattle.std.proofs.lemmas.List.Sums.{sum_by-append, sum_by-cons}
use Rattle.sw_archive.specs.Archive.{ArchiveModel}
use Rattle.sw_archive.specs.Assemble as assemble
use Rattle.sw_message.specs.Transcript.{Closed, Gave, Step, given}
use Rattle.sw_message.specs.declared.message.Msg.{Msg}
use Rattle.sw_message.specs.declared.message.Msg.TheVariants as message
use Rattle.sw_message.specs.declared.miss.Miss.{Miss}
use Rattle.sw_message.specs.declared.miss.Miss.TheVariants as miss
use Rattle.sw_message.specs.declared.reply.Reply.{Reply}
use Rattle.sw_message.specs.declared.reply.Reply.TheVariants as reply
use Rattle.sw_message.specs.declared.sent.Sent.{Sent}
use Rattle.sw_message.specs.declared.spoil.Foreign.TheVariants as foreign
use Rattle.sw_message.specs.declared.spoil.Spoil.TheVariants as spoil
use Rattle.sw_message.specs.declared.target.Target.{Target}
use Rattle.sw_quorum.specs.Transcripts.{closed}
use Rattle.sw_gather.proofs.Lists.{here, none_passes}
use Rattle.sw_sync.specs.Answers.{AreBrought, IsArchiveAt, IsMissedFetch, IsSpoilt, MissedAsk, MissedFetch, WasBrought, WasTold}
use Rattle.sw_sync.specs.Causes.{AreMisses, lost_misses}
use Rattle.sw_sync.specs.Parts.{Repair}
use Rattle.sw_sync.specs.Sync.{Begun, Brings, IsFetched, IsRead, IsWanted, Loses, brought, due_brought, due_retried, free_in, is_empty, is_free, lost, retried}
use Rattle.sw_sync.specs.declared.errand.Errand.{Errand}
use Rattle.sw_sync.specs.declared.errand.Errand.TheVariants.{Ask, Commit, Delete, Fetch, Store}
use Rattle.sw_sync.proofs.Errands.{IsFor, sent_for}
use Rattle.sw_sync.proofs.Freeing.{found-free, none-left}
use Rattle.sw_sync.proofs.Living.{Living, WasFetched, living-brought, living-later, living-lost, living-retried, others-differ}
use Rattle.sw_sync.proofs.Messages.{told-cases, told-gave, told-later}
use Rattle.sw_sync.proofs.Surveys.{IsNoQuestion, missed-before, missed-later, no-question}

-- ---- fetches are counted

abbrev pub fetches : Msg → Bool
fetches (message.Fetch place stamp index) = true
fetches other = false

abbrev pub is_fetch : Sent → Bool
is_fetch sent = fetches sent.msg

abbrev pub to_fetch : Errand → Bool
to_fetch (Fetch source) = true
to_fetch other = false

fetch-for : (begun : Begun) (stamp ticket : ℕ) (bytes : List ℕ) (errand : Errand) → is_fetch (sent_for begun stamp ticket bytes errand) ≡ to_fetch errand
fetch-for begun stamp ticket bytes (Ask device) = refl
fetch-for begun stamp ticket bytes (Delete device) = refl
fetch-for begun stamp ticket bytes (Fetch source) = refl
fetch-for begun stamp ticket bytes (Store target) = refl
fetch-for begun stamp ticket bytes (Commit target) = refl

-- ---- what is known

-- a source was lost by one of these misses, or has brought its archive
abbrev pub IsSpent : List (Target × Miss) → Repair → Target → Type 0
IsSpent missed repair source =
    (((how : Miss) × Contains missed (source, how)) × Contains repair.lost source) ⊎ ((archive : ArchiveModel) × Contains repair.archives archive × (archive.index ≡ source.index))

abbrev pub NoneFree : Repair → Type 0
NoneFree repair = (source : Target) → Contains repair.choices source → is_free repair source ≡ false

pub record Gathers (begun : Begun) (past : List Step) (repair : Repair) (due : List Errand) : Type 0 where
  pub brought : AreBrought begun past repair.stamp repair.archives
  pub few : length repair.archives ≤ begun.cluster.policy.k
  pub missed : List (Target × Miss)
  pub spent : (source : Target) (answer : Option Reply) → WasTold past source.device (message.Fetch begun.place repair.stamp source.index) answer → IsSpent missed repair source
  -- each source that is tried is due, open or spent
  pub tries : count_by is_fetch (given past) + count_by to_fetch due ≡ length repair.tried
  pub losses : length repair.archives + length repair.lost ≡ count_by is_fetch (closed past)
  pub chosen : All (Contains repair.choices) repair.tried
  pub lost_tried : All (Contains repair.tried) repair.lost
  -- where there is something to be fetched, each that was lost had another tried in its place, or there was none
  pub free : is_empty repair.lacking ≡ false → begun.cluster.policy.k ≤ repair.listed → NoneFree repair ⊎ (length repair.tried ≡ begun.cluster.policy.k + length repair.lost)
  -- sources are tried only then
  pub worth : (source : Target) → Contains repair.tried source → (is_empty repair.lacking ≡ false) × (begun.cluster.policy.k ≤ repair.listed)
  pub misses : AreMisses begun past repair.stamp missed repair.misses
  pub living : Living begun past repair.stamp repair.tried repair.lost repair.archives

-- ---- it stays known

module _ (begun : Begun) (past : List Step) (step : Step) (stamp : ℕ) where
  pub brought-later : (archives : List ArchiveModel) → AreBrought begun past stamp archives → AreBrought begun (step ∷ past) stamp archives
  brought-later archives are = record {
    each = All-weaker (WasBrought begun past stamp) (WasBrought begun (step ∷ past) stamp)
        (λ archive was. record {
          device = was.device;
          bytes = was.bytes;
          told = told-later past step was.device (message.Fetch begun.place stamp archive.index) (Some (reply.Fragment was.bytes)) was.told;
          is = was.is;
        }) archives are.each;
    distinct = are.distinct;
  }

  fetch-later : (source : Target) (how : Miss) → MissedFetch begun past stamp source how → MissedFetch begun (step ∷ past) stamp source how
  fetch-later source how was = record { later = step ∷ was.later; before = was.before; ticket = was.ticket; answer = was.answer; told = ap (λ these. step ∷ these) was.told; missed = was.missed }

  misses-later : IsNoQuestion begun step → (missed : List (Target × Miss)) (misses : List (ℕ × Miss)) → AreMisses begun past stamp missed misses → AreMisses begun (step ∷ past) stamp missed misses
  misses-later other missed misses are = record {
    asked = are.asked;
    misses_are = are.misses_are;
    asked_are = All-weaker (λ (one : ℕ × Miss). MissedAsk begun past one.0 one.1) (λ (one : ℕ × Miss). MissedAsk begun (step ∷ past) one.0 one.1) (λ one is. missed-later begun past step one.0 one.1 is) are.asked are.asked_are;
    all_asked = λ device how is. are.all_asked device how (missed-before begun past step other device how is);
    lost_are = All-weaker (λ (one : Target × Miss). MissedFetch begun past stamp one.0 one.1) (λ (one : Target × Miss). MissedFetch begun (step ∷ past) stamp one.0 one.1) (λ one is. fetch-later one.0 one.1 is) missed are.lost_are;
  }

-- a message is handed out
pub gathers-gave : (begun : Begun) (past : List Step) (repair : Repair) (errand : Errand) (later : List Errand) (sent : Sent) → IsFor begun repair.stamp errand sent → Gathers begun past repair (errand ∷ later)
    → Gathers begun (Gave sent ∷ past) repair later
gathers-gave begun past repair errand later sent (ticket, bytes, is) gathers =
    let same : is_fetch sent ≡ to_fetch errand = ap is_fetch is ∙ fetch-for begun repair.stamp ticket bytes errand in
    record {
      brought = brought-later begun past (Gave sent) repair.stamp repair.archives gathers.brought;
      few = gathers.few;
      missed = gathers.missed;
      spent = λ source answer was. gathers.spent source answer (told-gave past sent source.device (message.Fetch begun.place repair.stamp source.index) answer was);
      tries = omega (
        arith,
        gathers.tries,
        ap {B = ℕ} (λ b. cond b 1 0) same,
        sum_by-cons (λ (one : Sent). cond (is_fetch one) 1 0) sent (given past),
        sum_by-cons (λ (one : Errand). cond (to_fetch one) 1 0) errand later,
      );
      losses = gathers.losses;
      chosen = gathers.chosen;
      lost_tried = gathers.lost_tried;
      free = gathers.free;
      worth = gathers.worth;
      misses = misses-later begun past (Gave sent) repair.stamp (λ device answer ticket same. cc) gathers.missed repair.misses gathers.misses;
      living = living-later begun past repair.stamp repair.tried repair.lost repair.archives gathers.living (Gave sent);
    }

-- ---- an answer that is not to a question

module _ (begun : Begun) (past : List Step) (repair : Repair) (due : List Errand) (gathers : Gathers begun past repair due) (ticket device : ℕ) (msg : Msg) (answer : Option Reply) (other : msg ≡ message.Ask begun.place → ⊥) where
  abbrev sent : Sent
  sent = record { ticket = ticket; device = device; msg = msg }

  abbrev after : List Step
  after = Closed sent answer ∷ past

  misses-told : AreMisses begun after repair.stamp gathers.missed repair.misses
  misses-told = misses-later begun past (Closed sent answer) repair.stamp (no-question begun sent answer other) gathers.missed repair.misses gathers.misses

  none-more : (more : List Errand) → count_by to_fetch more ≡ 0 → count_by to_fetch (due ++ more) ≡ count_by to_fetch due
  none-more more none = omega (arith, none, sum_by-append (λ (one : Errand). cond (to_fetch one) 1 0) due more)

  -- nor to a fetch
  pub gathers-other : (more : List Errand) (commits rebuilt : ℕ) (failed : List _) → fetches msg ≡ false → count_by to_fetch more ≡ 0
      → Gathers begun after (record repair { commits = commits; rebuilt = rebuilt; failed = failed }) (due ++ more)
  gathers-other more commits rebuilt failed no_fetch none = record {
    brought = brought-later begun past (Closed sent answer) repair.stamp repair.archives gathers.brought;
    few = gathers.few;
    missed = gathers.missed;
    spent = λ source told was. elim (told-cases past sent answer source.device (message.Fetch begun.place repair.stamp source.index) told was) [
      | inl this ↦ absurd (true≢false (sym (ap fetches this.1) ∙ no_fetch))
      | inr before ↦ gathers.spent source told before
    ];
    tries = omega (arith, gathers.tries, none-more more none);
    losses = omega (arith, gathers.losses, sum_by-cons (λ (one : Sent). cond (is_fetch one) 1 0) sent (closed past), ap {B = ℕ} (λ b. cond b 1 0) no_fetch);
    chosen = gathers.chosen;
    lost_tried = gathers.lost_tried;
    free = gathers.free;
    worth = gathers.worth;
    misses = misses-told;
    living = living-later begun past repair.stamp repair.tried repair.lost repair.archives gathers.living (Closed sent answer);
  }

-- ---- an answer to a fetch

as-archive : (begun : Begun) (stamp index : ℕ) (bytes : List ℕ) (archive : ArchiveModel) → IsWanted begun.cluster begun.place stamp index bytes archive → IsArchiveAt begun stamp index bytes archive
as-archive begun stamp index bytes archive wanted = record { is = wanted.0; asked = wanted.1 }

-- what brings an archive
pub fetched-brings : (begun : Begun) (repair : Repair) (index : ℕ) (answer : Option Reply) (archive : ArchiveModel) → IsFetched begun.cluster begun.place repair index answer (Brings archive)
    → (bytes : List ℕ) × (answer ≡ Some (reply.Fragment bytes)) × IsWanted begun.cluster begun.place repair.stamp index bytes archive × assemble.IsNext repair.archives archive
fetched-brings begun repair index (Some (reply.Fragment bytes)) archive is = (bytes, refl, is.0, is.1)
fetched-brings begun repair index None archive is = absurd (cc)
fetched-brings begun repair index (Some (reply.Gone listing)) archive is = absurd (cc)
fetched-brings begun repair index (Some other) archive is = absurd (cc)

-- and what is lost
module _ (begun : Begun) (past : List Step) (repair : Repair) (brought : AreBrought begun past repair.stamp repair.archives) (index : ℕ) (others : All (λ (other : ArchiveModel). other.index ≢ index) repair.archives) where
  read-loses : (bytes : List ℕ) (how : Miss) → IsRead begun.cluster begun.place repair index bytes (Loses how) → IsSpoilt begun past repair.stamp index bytes how
  read-loses bytes (miss.Spoiled (spoil.Foreign foreign.Object)) is = (is.0, as-archive begun repair.stamp index bytes is.0 is.1, repair.archives, brought, others, is.2)
  read-loses bytes (miss.Spoiled other) is = is
  read-loses bytes other is = absurd is

  fetched-loses : (answer : Option Reply) (how : Miss) → IsFetched begun.cluster begun.place repair index answer (Loses how) → IsMissedFetch begun past repair.stamp index answer how
  fetched-loses None how is = cc
  fetched-loses (Some (reply.Fragment bytes)) how is = read-loses bytes how is
  fetched-loses (Some (reply.Gone listing)) how is = cc
  fetched-loses (Some other) how is = cc

lost-push : (missed : List (Target × Miss)) (one : Target × Miss) → lost_misses (missed ++ one ∷ []) ≡ lost_misses missed ++ (one.0.device, one.1) ∷ []
lost-push [] one = refl
lost-push (other ∷ missed) one = ap (λ these. (other.0.device, other.1) ∷ these) (lost-push missed one)

no-fetches : (targets : List Target) (b : Bool) → count_by to_fetch (if b then map Store targets else []) ≡ 0
no-fetches targets false = refl
no-fetches [] true = refl
no-fetches (target ∷ targets) true = omega (arith, no-fetches targets true, sum_by-cons (λ (one : Errand). cond (to_fetch one) 1 0) (Store target) (map Store targets))

module _ (begun : Begun) (past : List Step) (repair : Repair) (due : List Errand) (gathers : Gathers begun past repair due) (ticket : ℕ) (source : Target) (answer : Option Reply) (there : Contains repair.tried source)
    (untold : WasFetched begun past repair.stamp source → ⊥) where
  abbrev msg : Msg
  msg = message.Fetch begun.place repair.stamp source.index

  abbrev fetched : Sent
  fetched = record { ticket = ticket; device = source.device; msg = msg }

  abbrev now : List Step
  now = Closed fetched answer ∷ past

  told-now : WasTold now source.device msg answer
  told-now = (ticket, here (Closed fetched answer) past)

  -- an answer to a fetch from another source was there before
  by-source : (P : Target → Type 0) → P source → ((other : Target) (told : Option Reply) → WasTold past other.device (message.Fetch begun.place repair.stamp other.index) told → P other)
      → (other : Target) (told : Option Reply) → WasTold now other.device (message.Fetch begun.place repair.stamp other.index) told → P other
  by-source P this before other told was = elim (told-cases past fetched answer other.device (message.Fetch begun.place repair.stamp other.index) told was) [
    | inr earlier ↦ before other told earlier
    | inl same ↦
        let indices : source.index ≡ other.index = cc (same.1) in
        subst (λ n. P (record { index = other.index; device = n })) same.0 (subst (λ n. P (record { index = n; device = source.device })) indices this)
  ]

  one-more : count_by is_fetch (closed now) ≡ count_by is_fetch (closed past) + 1
  one-more = omega (arith, sum_by-cons (λ (one : Sent). cond (is_fetch one) 1 0) fetched (closed past))

  pub gathers-brought : (archive : ArchiveModel) → IsFetched begun.cluster begun.place repair source.index answer (Brings archive)
      → Gathers begun now (brought repair archive) (due ++ due_brought begun.cluster.policy.k (brought repair archive))
  gathers-brought archive is =
      let brings = fetched-brings begun repair source.index answer archive is in
      let asked = brings.2.1 in
      let new : WasBrought begun now repair.stamp archive = record {
        device = source.device;
        bytes = brings.0;
        told = subst (λ n. WasTold now source.device (message.Fetch begun.place repair.stamp n) (Some (reply.Fragment brings.0))) (sym asked.index_is) (subst (WasTold now source.device msg) brings.1 told-now);
        is = as-archive begun repair.stamp archive.index brings.0 archive (subst (λ n. IsWanted begun.cluster begun.place repair.stamp n brings.0 archive) (sym asked.index_is) brings.2);
      } in
      let before = brought-later begun past (Closed fetched answer) repair.stamp repair.archives gathers.brought in
      let after = brought repair archive in
      record {
        brought = record {
          each = All-push (WasBrought begun now repair.stamp) repair.archives archive before.each new;
          distinct = all_pairs_push (λ (a b : ArchiveModel). a.index ≢ b.index) repair.archives archive before.distinct (λ n d within. brings.3.new n d within);
        };
        few = omega (arith, brings.3.few, asked.code.0, length-append repair.archives (archive ∷ []));
        missed = gathers.missed;
        spent = by-source (IsSpent gathers.missed after) (inr (archive, Contains-push repair.archives archive, asked.index_is)) (λ other told was. still other (gathers.spent other told was));
        tries = omega (
          arith,
          gathers.tries,
          none-more begun past repair due gathers ticket source.device msg answer (λ same. cc) (due_brought begun.cluster.policy.k after) (no-fetches repair.lacking (length after.archives == begun.cluster.policy.k)),
        );
        losses = omega (arith, gathers.losses, one-more, length-append repair.archives (archive ∷ []));
        chosen = gathers.chosen;
        lost_tried = gathers.lost_tried;
        free = gathers.free;
        worth = gathers.worth;
        living = living-brought begun past repair.stamp repair.tried repair.lost repair.archives gathers.living source there untold (Closed fetched answer) (answer, told-now) archive (sym asked.index_is);
        misses = misses-told begun past repair due gathers ticket source.device msg answer (λ same. cc);
      }
    where
      still : (other : Target) → IsSpent gathers.missed repair other → IsSpent gathers.missed (brought repair archive) other
      still other (inl lost) = inl lost
      still other (inr one) = inr (one.0, Contains-append_left repair.archives (archive ∷ []) one.0 one.1, one.2)

  module _ (how : Miss) (is : IsFetched begun.cluster begun.place repair source.index answer (Loses how)) where
    abbrev without : Repair
    without = lost repair source how

    others : All (λ (other : ArchiveModel). other.index ≢ source.index) repair.archives
    others = others-differ begun past repair.stamp repair.tried repair.lost repair.archives gathers.living source there untold

    missed : MissedFetch begun now repair.stamp source how
    missed = record { later = []; before = past; ticket = ticket; answer = answer; told = refl; missed = fetched-loses begun past repair gathers.brought source.index others answer how is }

    abbrev all_missed : List (Target × Miss)
    all_missed = gathers.missed ++ (source, how) ∷ []

    still-spent : (other : Target) → IsSpent gathers.missed repair other → IsSpent all_missed without other
    still-spent other (inl one) = inl ((one.0.0, Contains-append_left gathers.missed ((source, how) ∷ []) (other, one.0.0) one.0.1), Contains-append_left repair.lost (source ∷ []) other one.1)
    still-spent other (inr one) = inr one

    spent-lost : (other : Target) (told : Option Reply) → WasTold now other.device (message.Fetch begun.place repair.stamp other.index) told → IsSpent all_missed without other
    spent-lost = by-source (IsSpent all_missed without) (inl ((how, Contains-push gathers.missed (source, how)), Contains-push repair.lost source)) (λ other told was. still-spent other (gathers.spent other told was))

    misses-lost : AreMisses begun now repair.stamp all_missed without.misses
    misses-lost =
        let before = misses-told begun past repair due gathers ticket source.device msg answer (λ same. cc) in
        record {
          asked = before.asked;
          misses_are = ap (λ these. these ++ (source.device, how) ∷ []) before.misses_are ∙ append_assoc before.asked (lost_misses gathers.missed) ((source.device, how) ∷ [])
              ∙ ap (λ these. before.asked ++ these) (sym (lost-push gathers.missed (source, how)));
          asked_are = before.asked_are;
          all_asked = before.all_asked;
          lost_are = All-push (λ (one : Target × Miss). MissedFetch begun now repair.stamp one.0 one.1) gathers.missed (source, how) before.lost_are missed;
        }

    lost-more : length without.lost ≡ length repair.lost + 1
    lost-more = length-append repair.lost (source ∷ [])

    lost-now : All (Contains repair.tried) without.lost
    lost-now = All-push (Contains repair.tried) repair.lost source gathers.lost_tried there

    -- by the first that is free
    gathers-retried : (found : Option Target) → free_in without ≡ found → Gathers begun now (retried without found) (due ++ due_retried found)
    gathers-retried None none = record {
      brought = brought-later begun past (Closed fetched answer) repair.stamp repair.archives gathers.brought;
      few = gathers.few;
      missed = all_missed;
      spent = spent-lost;
      tries = omega (arith, gathers.tries, none-more begun past repair due gathers ticket source.device msg answer (λ same. cc) [] refl);
      losses = omega (arith, gathers.losses, one-more, lost-more);
      chosen = gathers.chosen;
      lost_tried = lost-now;
      free = λ lacking listed. inl (λ other among. none_passes (is_free without) repair.choices other none among);
      worth = gathers.worth;
      misses = misses-lost;
      living = living-lost begun past repair.stamp repair.tried repair.lost repair.archives gathers.living source there untold (Closed fetched answer) (answer, told-now);
    }
    gathers-retried (Some first) at =
        let free_one = found-free (is_free without) repair.choices first at in
        let tried : List Target = repair.tried ++ first ∷ [] in
        record {
          brought = brought-later begun past (Closed fetched answer) repair.stamp repair.archives gathers.brought;
          few = gathers.few;
          missed = all_missed;
          spent = spent-lost;
          tries = omega (
            arith,
            gathers.tries,
            length-append repair.tried (first ∷ []),
            sum_by-append (λ (one : Errand). cond (to_fetch one) 1 0) due (Fetch first ∷ []),
            sum_by-cons (λ (one : Errand). cond (to_fetch one) 1 0) (Fetch first) [],
          );
          losses = omega (arith, gathers.losses, one-more, lost-more);
          chosen = All-push (Contains repair.choices) repair.tried first gathers.chosen free_one.0;
          lost_tried = All-weaker (Contains repair.tried) (Contains tried) (λ other was. Contains-append_left repair.tried (first ∷ []) other was) without.lost lost-now;
          free = λ lacking listed. elim (gathers.free lacking listed) [
            | inl none ↦ inl (none-left repair.choices repair.tried repair.lost none source there gathers.lost_tried first free_one.0 free_one.1)
            | inr count ↦ inr (omega (arith, count, lost-more, length-append repair.tried (first ∷ [])))
          ];
          worth = λ other was. gathers.worth source there;
          misses = misses-lost;
          living = living-retried begun past repair.stamp repair.tried repair.lost repair.archives gathers.living source there untold (Closed fetched answer) (answer, told-now) first free_one.1;
        }

    pub gathers-lost : Gathers begun now (retried without (free_in without)) (due ++ due_retried (free_in without))
    gathers-lost = gathers-retried (free_in without) refl
