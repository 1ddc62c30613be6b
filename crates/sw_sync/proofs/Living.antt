-- Sources that are live, of which each index has at most one.
use Rattle.std.proofs.Common.{◌≡◌, ◌≢◌, ◌⊎◌, inl, inr, ℕ, ◌||◌, Bool, true, false, Contains, List, [], ◌∷◌, ◌++◌, length, take, Option, sym, ap, subst, ◌∙◌}
use Rattle.std.specs.Prelude.{if◌then◌else◌, nat_lt}
use Rattle.std.specs.List.{All}
use Rattle.std.proofs.lemmas.List.Elements.{All-contains, All-contains_itself, All-nil, All-take, All-weaker, Contains-append_left, Contains-push_cases}
use Rattle.sw_archive.specs.Archive.{ArchiveModel}
use Rattle.sw_message.specs.Transcript.{Step}
use Rattle.sw_message.specs.declared.message.Msg.TheVariants as message
use Rattle.sw_message.specs.declared.reply.Reply.{Reply}
use Rattle.sw_message.specs.declared.target.Target.{Target}
use Rattle.sw_gather.specs.Choices.{firsts}
use Rattle.sw_gather.proofs.Lists.{none_in}
use Rattle.sw_gather.proofs.Sources.{firsts_apart}
use Rattle.sw_sync.specs.Answers.{WasTold}
use Rattle.sw_sync.specs.Sync.{Begun, first_tried, is_empty, is_live}
use Rattle.sw_sync.proofs.Counting.{one-apart}
use Rattle.sw_sync.proofs.Freeing.{free-untaken, free_by, live-not_lost, not-lost_live}
use Rattle.sw_sync.proofs.Messages.{told-later}
use Rattle.sw_sync.proofs.Shows.{HaveOtherIndex}

abbrev pub WasFetched : Begun → List Step → (stamp : ℕ) → Target → Type 0
WasFetched begun past stamp source = (answer : Option Reply) × WasTold past source.device (message.Fetch begun.place stamp source.index) answer

-- an archive was brought by a source that is live
pub record IsFrom (begun : Begun) (past : List Step) (stamp : ℕ) (tried lost : List Target) (archive : ArchiveModel) : Type 0 where
  pub source : Target
  pub tries : Contains tried source
  pub same : source.index ≡ archive.index
  pub live : is_live lost source ≡ true
  pub fetched : WasFetched begun past stamp source

-- No two sources of an index are live; each archive is from one that is; and those that were lost have answered.
pub record Living (begun : Begun) (past : List Step) (stamp : ℕ) (tried lost : List Target) (archives : List ArchiveModel) : Type 0 where
  pub apart : (a b : Target) → Contains tried a → Contains tried b → a.index ≡ b.index → is_live lost a ≡ true → is_live lost b ≡ true → a ≡ b
  pub from : (archive : ArchiveModel) → Contains archives archive → IsFrom begun past stamp tried lost archive
  pub lost_fetched : (source : Target) → Contains lost source → WasFetched begun past stamp source

-- as a repair begins
pub living-begun : (begun : Begun) (past : List Step) (stamp k : ℕ) (lacking choices : List Target) → Living begun past stamp (first_tried k lacking (firsts choices)) [] []
living-begun begun past stamp k lacking choices = record {
  apart = λ a b there among same live lives. one-apart HaveOtherIndex (firsts choices) a b (firsts_apart choices) (chosen a there) (chosen b among) (λ other. other same) (λ other. other (sym same));
  from = λ archive there. absurd (none_in archive there);
  lost_fetched = λ source there. absurd (none_in source there);
}
  where
    by_test : (b : Bool) → All (Contains (firsts choices)) (if b then [] else take k (firsts choices))
    by_test true = All-nil (Contains (firsts choices))
    by_test false = All-take (Contains (firsts choices)) k (firsts choices) (All-contains_itself (firsts choices))

    chosen : (source : Target) → Contains (first_tried k lacking (firsts choices)) source → Contains (firsts choices) source
    chosen source there = All-contains (Contains (firsts choices)) (first_tried k lacking (firsts choices)) source (by_test (is_empty lacking || nat_lt (length (firsts choices)) k)) there

module _ (begun : Begun) (past : List Step) (stamp : ℕ) (tried lost : List Target) (archives : List ArchiveModel) (living : Living begun past stamp tried lost archives) where
  -- ---- a step

  module _ (step : Step) where
    fetched-later : (source : Target) → WasFetched begun past stamp source → WasFetched begun (step ∷ past) stamp source
    fetched-later source (answer, was) = (answer, told-later past step source.device (message.Fetch begun.place stamp source.index) answer was)

    from-later : (archive : ArchiveModel) → IsFrom begun past stamp tried lost archive → IsFrom begun (step ∷ past) stamp tried lost archive
    from-later archive is = record { source = is.source; tries = is.tries; same = is.same; live = is.live; fetched = fetched-later is.source is.fetched }

    pub living-later : Living begun (step ∷ past) stamp tried lost archives
    living-later = record {
      apart = living.apart;
      from = λ archive there. from-later archive (living.from archive there);
      lost_fetched = λ source there. fetched-later source (living.lost_fetched source there);
    }

  -- ---- a source that was tried and did not answer before

  module _ (source : Target) (there : Contains tried source) (untold : WasFetched begun past stamp source → ⊥) where
    is-live : is_live lost source ≡ true
    is-live = not-lost_live lost source (λ gone. untold (living.lost_fetched source gone))

    -- no archive has its index
    pub others-differ : All (λ (other : ArchiveModel). other.index ≢ source.index) archives
    others-differ = All-weaker (Contains archives) (λ (other : ArchiveModel). other.index ≢ source.index) differs archives (All-contains_itself archives)
      where
        differs : (other : ArchiveModel) → Contains archives other → other.index ≢ source.index
        differs other among same =
            let is = living.from other among in
            untold (subst (WasFetched begun past stamp) (living.apart is.source source is.tries there (is.same ∙ same) is.live is-live) is.fetched)

    module _ (step : Step) (now : WasFetched begun (step ∷ past) stamp source) where
      -- it brings its archive
      pub living-brought : (archive : ArchiveModel) → source.index ≡ archive.index → Living begun (step ∷ past) stamp tried lost (archives ++ archive ∷ [])
      living-brought archive same = record {
        apart = living.apart;
        from = λ other among. elim (Contains-push_cases archives archive other among) [
          | inl before ↦ from-later step other (living.from other before)
          | inr this ↦
              subst (λ (one : ArchiveModel). IsFrom begun (step ∷ past) stamp tried lost one) this (record { source = source; tries = there; same = same; live = is-live; fetched = now })
        ];
        lost_fetched = λ other gone. fetched-later step other (living.lost_fetched other gone);
      }

      -- it is lost
      abbrev more : List Target
      more = lost ++ source ∷ []

      still-live : (other : Target) → is_live more other ≡ true → is_live lost other ≡ true
      still-live other live = not-lost_live lost other (λ gone. live-not_lost more other live (Contains-append_left lost (source ∷ []) other gone))

      lives-on : (other : Target) → WasFetched begun past stamp other → is_live lost other ≡ true → is_live more other ≡ true
      lives-on other was live = not-lost_live more other (λ gone. by_lost (Contains-push_cases lost source other gone))
        where
          by_lost : Contains lost other ⊎ (source ≡ other) → ⊥
          by_lost (inl before) = live-not_lost lost other live before
          by_lost (inr same) = untold (subst (WasFetched begun past stamp) (sym same) was)

      from-lost : (archive : ArchiveModel) (with_it : List Target) → ((other : Target) → Contains tried other → Contains with_it other) → IsFrom begun past stamp tried lost archive → IsFrom begun (step ∷ past) stamp with_it more archive
      from-lost archive with_it kept is =
          record { source = is.source; tries = kept is.source is.tries; same = is.same; live = lives-on is.source is.fetched is.live; fetched = fetched-later step is.source is.fetched }

      lost-now : (other : Target) → Contains more other → WasFetched begun (step ∷ past) stamp other
      lost-now other gone = elim (Contains-push_cases lost source other gone) [
        | inl before ↦ fetched-later step other (living.lost_fetched other before)
        | inr same ↦ subst (WasFetched begun (step ∷ past) stamp) same now
      ]

      pub living-lost : Living begun (step ∷ past) stamp tried more archives
      living-lost = record {
        apart = λ a b at bt same live lives. living.apart a b at bt same (still-live a live) (still-live b lives);
        from = λ archive among. from-lost archive tried (λ other is. is) (living.from archive among);
        lost_fetched = lost-now;
      }

      -- and another is tried in its place
      pub living-retried : (first : Target) → free_by tried more first ≡ true → Living begun (step ∷ past) stamp (tried ++ first ∷ []) more archives
      living-retried first free = record {
        apart = λ a b at bt same live lives. by_first a b (Contains-push_cases tried first a at) (Contains-push_cases tried first b bt) same live lives;
        from = λ archive among. from-lost archive (tried ++ first ∷ []) (λ other is. Contains-append_left tried (first ∷ []) other is) (living.from archive among);
        lost_fetched = lost-now;
      }
        where
          by_first : (a b : Target) → Contains tried a ⊎ (first ≡ a) → Contains tried b ⊎ (first ≡ b) → a.index ≡ b.index → is_live more a ≡ true → is_live more b ≡ true → a ≡ b
          by_first a b (inl at) (inl bt) same live lives = living.apart a b at bt same (still-live a live) (still-live b lives)
          by_first a b (inr this) (inr that) same live lives = sym this ∙ that
          by_first a b (inl at) (inr that) same live lives = absurd (free-untaken tried more first a free at (same ∙ sym (ap (λ (one : Target). one.index) that)) live)
          by_first a b (inr this) (inl bt) same live lives = absurd (free-untaken tried more first b free bt (sym same ∙ sym (ap (λ (one : Target). one.index) this)) lives)
