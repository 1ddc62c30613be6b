-- What is known as a repair begins.
use Rattle.std.proofs.Common.{◌≡◌, inl, inr, ℕ, ◌≤◌, ◌||◌, Bool, true, false, not, cond, Contains, List, [], ◌∷◌, ◌++◌, append-nil, length, map, take, Option, Some, refl, sym, ap, ◌∙◌, arith}
use Rattle.std.specs.Prelude.{if◌then◌else◌, min, nat_lt}
use Rattle.std.specs.List.{All, count_by, filter}
use Rattle.std.proofs.lemmas.Bool.{le-ltb, ltb-false, or_parts}
use Rattle.std.proofs.lemmas.List.{length-take-le}
use Rattle.std.proofs.lemmas.List.Elements.{All-append, All-contains_itself, All-head, All-tail, All-map, All-nil, All-take, All-weaker, Contains-append_left, Contains-append_right}
use Rattle.std.proofs.lemmas.List.Kept.{AllPairs-filter}
use Rattle.std.proofs.lemmas.List.Sums.{sum_by-append, sum_by-cons, sum_by-take-le}
use Rattle.sw_message.specs.Floors.{durable_at}
use Rattle.sw_message.specs.Transcript.{IsRun, Step, given, opens}
use Rattle.sw_message.specs.declared.message.Msg.{Msg}
use Rattle.sw_message.specs.declared.message.Msg.TheVariants as message
use Rattle.sw_message.specs.declared.miss.Miss.{Miss}
use Rattle.sw_message.specs.declared.reply.Reply.{Reply}
use Rattle.sw_message.specs.declared.reply.Reply.TheVariants as reply
use Rattle.sw_message.specs.declared.sent.Sent.{Sent}
use Rattle.sw_message.specs.declared.target.Target.{Target}
use Rattle.sw_quorum.specs.Targets.{targets_from}
use Rattle.sw_quorum.specs.Transcripts.{closed}
use Rattle.sw_gather.specs.Choices.{firsts}
use Rattle.sw_gather.proofs.Lists.{from_filter, from_map, in_filter, in_map, none_in}
use Rattle.sw_gather.proofs.Sources.{firsts-kept, firsts_apart}
use Rattle.sw_sync.specs.Answers.{MissedFetch, WasBrought, WasTold}
use Rattle.sw_sync.specs.Causes.{AreMisses, capped, is_committed}
use Rattle.sw_sync.specs.Parts.{Heard, Repair}
use Rattle.sw_sync.specs.Sync.{Begun, IsNext, first_tried, is_empty, is_lacking, primaries, repair_with, shows_plain, total}
use Rattle.sw_sync.specs.declared.errand.Errand.{Errand}
use Rattle.sw_sync.specs.declared.errand.Errand.TheVariants.{Ask, Commit, Delete, Fetch, Store}
use Rattle.sw_sync.proofs.Asking.{IsQuestion, Surveyed}
use Rattle.sw_sync.proofs.Burying.{failures-begun, none-counted, was-asked}
use Rattle.sw_sync.proofs.Counting.{counted-map, passes-either}
use Rattle.sw_sync.proofs.Errands.{does-begun}
use Rattle.sw_sync.proofs.Firsts.{each-once, once-begun, one-same, same_errand}
use Rattle.sw_sync.proofs.Gathers.{Gathers, fetches, is_fetch, to_fetch}
use Rattle.sw_sync.proofs.Living.{living-begun}
use Rattle.sw_sync.proofs.Messages.{closed-each}
use Rattle.sw_sync.proofs.Plans.{OwnFloor}
use Rattle.sw_sync.proofs.Repairing.{Repairing, ToRepair}
use Rattle.sw_sync.proofs.Shows.{HaveOtherIndex, targets-apart}

-- no question is a fetch
no-fetch : (begun : Begun) (sents : List Sent) → All (IsQuestion begun) sents → count_by is_fetch sents ≡ 0
no-fetch begun [] all = refl
no-fetch begun (sent ∷ sents) all =
    omega (
      arith,
      no-fetch begun sents (All-tail (IsQuestion begun) sent sents all),
      sum_by-cons (λ (one : Sent). cond (is_fetch one) 1 0) sent sents,
      ap {B = ℕ} (λ (one : Msg). cond (fetches one) 1 0) (All-head (IsQuestion begun) sent sents all),
    )

commits-no-fetch : (targets : List Target) → count_by to_fetch (map Commit targets) ≡ 0
commits-no-fetch [] = refl
commits-no-fetch (target ∷ targets) = omega (arith, commits-no-fetch targets, sum_by-cons (λ (one : Errand). cond (to_fetch one) 1 0) (Commit target) (map Commit targets))

all-fetches : (targets : List Target) → count_by to_fetch (map Fetch targets) ≡ length targets
all-fetches [] = refl
all-fetches (target ∷ targets) = omega (arith, all-fetches targets, sum_by-cons (λ (one : Errand). cond (to_fetch one) 1 0) (Fetch target) (map Fetch targets))

-- the sources that are tried first are choices, and k of them where there are so many and some archive is lacking
module _ (k : ℕ) (lacking choices : List Target) where
  first-chosen : All (Contains choices) (first_tried k lacking (firsts choices))
  first-chosen = by_test (is_empty lacking || nat_lt (length (firsts choices)) k)
    where
      by_test : (b : Bool) → All (Contains choices) (if b then [] else take k (firsts choices))
      by_test true = All-nil (Contains choices)
      by_test false = All-take (Contains choices) k (firsts choices) (firsts-kept (Contains choices) choices (All-contains_itself choices))

  first-count : is_empty lacking ≡ false → k ≤ min (length (firsts choices)) k → length (first_tried k lacking (firsts choices)) ≡ k
  first-count some enough =
      let many : k ≤ length (firsts choices) = omega (arith, enough) in
      ap (λ b. length (if b || nat_lt (length (firsts choices)) k then [] else take k (firsts choices))) some
      ∙ ap (λ b. length (if b then [] else take k (firsts choices))) (le-ltb (length (firsts choices)) k many)
      ∙ length-take-le k (firsts choices) many

  first-worth : (source : Target) → Contains (first_tried k lacking (firsts choices)) source → (is_empty lacking ≡ false) × (k ≤ min (length (firsts choices)) k)
  first-worth source = by_test (is_empty lacking || nat_lt (length (firsts choices)) k) refl
    where
      by_test : (b : Bool) → (is_empty lacking || nat_lt (length (firsts choices)) k) ≡ b → Contains (if b then [] else take k (firsts choices)) source → (is_empty lacking ≡ false) × (k ≤ min (length (firsts choices)) k)
      by_test true is there = absurd (none_in source there)
      by_test false is there =
          let both = or_parts (is_empty lacking) (nat_lt (length (firsts choices)) k) is in
          let many = ltb-false (length (firsts choices)) k both.1 in
          (both.0, omega (arith, many))

module _ (begun : Begun) (past : List Step) (run : IsRun (IsNext begun) past) (none : opens past ≡ []) (questions : All (IsQuestion begun) (given past)) (heard : Heard) (surveyed : Surveyed begun past heard) (stamp : ℕ) where
  abbrev policy_k : ℕ
  policy_k = begun.cluster.policy.k

  abbrev planned : Repair
  planned = repair_with policy_k (total begun) (primaries begun) heard stamp

  abbrev plain : List Target
  plain = filter (shows_plain stamp heard.lists) (targets_from 0 (primaries begun))

  abbrev planned_due : List Errand
  planned_due = map Commit plain ++ map Fetch planned.tried

  nothing-told : (device : ℕ) (msg : Msg) (answer : Option Reply) → (msg ≡ message.Ask begun.place → ⊥) → WasTold past device msg answer → ⊥
  nothing-told device msg answer other was = other (was-asked begun past run questions device msg answer was)

  misses-begun : AreMisses begun past stamp [] heard.misses
  misses-begun = record {
    asked = heard.misses;
    misses_are = sym (append-nil heard.misses);
    asked_are = surveyed.survey.misses;
    all_asked = surveyed.survey.all_misses;
    lost_are = All-nil (λ (one : Target × Miss). MissedFetch begun past stamp one.0 one.1);
  }

  gathers-begun : Gathers begun past planned planned_due
  gathers-begun = record {
    brought = record { each = All-nil (WasBrought begun past stamp); distinct = λ i j d less within. absurd (omega (arith, within)) };
    few = omega arith;
    missed = [];
    spent = λ source answer was. absurd (nothing-told source.device (message.Fetch begun.place stamp source.index) answer (λ same. cc) was);
    tries = omega (
      arith,
      no-fetch begun (given past) questions,
      sum_by-append (λ (one : Errand). cond (to_fetch one) 1 0) (map Commit plain) (map Fetch planned.tried),
      commits-no-fetch plain,
      all-fetches planned.tried,
    );
    losses = omega (arith, no-fetch begun (closed past) (closed-each begun (IsQuestion begun) past run questions));
    chosen = first-chosen policy_k planned.lacking planned.choices;
    lost_tried = All-nil (Contains planned.tried);
    free = λ lacking listed. inr (omega (arith, first-count policy_k planned.lacking planned.choices lacking listed));
    worth = first-worth policy_k planned.lacking planned.choices;
    misses = misses-begun;
    living = living-begun begun past stamp policy_k planned.lacking planned.choices;
  }

  abbrev Planned : Errand → Type 0
  Planned = ToRepair begun past heard planned

  planned-sought : All Planned planned_due
  planned-sought = All-append Planned (map Commit plain) (map Fetch planned.tried)
      (All-map Planned Commit plain
      (All-weaker (Contains plain) (λ (target : Target). Planned (Commit target)) (λ target there. inl (from_filter (shows_plain stamp heard.lists) (targets_from 0 (primaries begun)) target there)) plain (All-contains_itself plain)))
      (All-map Planned Fetch planned.tried (All-contains_itself planned.tried))

  planned-all : 1 ≤ policy_k → (errand : Errand) → Planned errand → Contains planned_due errand
  planned-all some (Commit target) (inl is) =
      Contains-append_left (map Commit plain) (map Fetch planned.tried) (Commit target)
      (in_map Commit plain target (in_filter (shows_plain stamp heard.lists) (targets_from 0 (primaries begun)) target is.0 is.1))
  planned-all some (Commit target) (inr (lacking, was)) = absurd (nothing-told target.device (message.PutFrag begun.place stamp target.index was.0) (Some reply.Synced) (λ same. cc) was.1)
  planned-all some (Store target) is = absurd (omega (arith, some, is.1))
  planned-all some (Fetch source) is = Contains-append_right (map Commit plain) (map Fetch planned.tried) (Fetch source) (in_map Fetch planned.tried source is)
  planned-all some (Ask device) is = absurd is
  planned-all some (Delete device) is = absurd is

  planned-once : (errand : Errand) → count_by (same_errand errand) planned_due ≤ 1
  planned-once errand =
      passes-either (same_errand errand) (map Commit plain) (map Fetch planned.tried)
      (each-once Commit HaveOtherIndex (λ a b other same. other (cc)) plain (AllPairs-filter HaveOtherIndex (shows_plain stamp heard.lists) (targets_from 0 (primaries begun)) (targets-apart 0 (primaries begun))) errand) tried-once
      (λ one other there among first second.
      let commit = from_map Commit plain one there in
      let fetch = from_map Fetch planned.tried other among in
      let same : Commit commit.0 ≡ Fetch fetch.0 = commit.2 ∙ sym (one-same errand one first) ∙ one-same errand other second ∙ sym fetch.2 in
      cc)
    where
      by_test : (b : Bool) → count_by (λ (source : Target). same_errand errand (Fetch source)) (if b then [] else take policy_k (firsts planned.choices)) ≤ 1
      by_test true = omega arith
      by_test false =
          omega (
            arith,
            sum_by-take-le (λ (source : Target). cond (same_errand errand (Fetch source)) 1 0) (firsts planned.choices) policy_k,
            counted-map Fetch (same_errand errand) (firsts planned.choices),
            each-once Fetch HaveOtherIndex (λ a b other same. other (cc)) (firsts planned.choices) (firsts_apart planned.choices) errand,
          )

      tried-once : count_by (same_errand errand) (map Fetch planned.tried) ≤ 1
      tried-once = omega (arith, counted-map Fetch (same_errand errand) planned.tried, by_test (is_empty planned.lacking || nat_lt (length (firsts planned.choices)) policy_k))

  pub repairing-begun : 1 ≤ policy_k → OwnFloor begun heard (durable_at stamp) → Repairing begun past planned planned_due
  repairing-begun some own = record {
    heard = heard;
    surveyed = surveyed;
    own = own;
    lacking = refl;
    choices = refl;
    listed = refl;
    does = does-begun begun stamp Planned past planned_due none planned-sought (planned-all some);
    once = once-begun begun stamp Planned past planned_due (λ device is. is) questions planned-once;
    commits = ap capped (sym (none-counted begun past run questions (is_committed (λ index. not (is_lacking planned index))) (λ answer. refl)));
    rebuilt = ap capped (sym (none-counted begun past run questions (is_committed (is_lacking planned)) (λ answer. refl)));
    failures = failures-begun begun past run questions heard surveyed;
    gathers = gathers-begun;
  }
