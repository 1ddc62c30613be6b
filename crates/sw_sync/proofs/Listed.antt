-- What devices listed of the stamp of a repair, in the words of the causes.
use Rattle.std.proofs.Common.{◌≡◌, ℕ, ◌==◌, ◌≤◌, true, false, Contains, List, [], ◌∷◌, length, refl, sym, ap, subst, arith}
use Rattle.std.specs.Prelude.{nat_lt}
use Rattle.std.specs.List.{All}
use Rattle.std.proofs.lemmas.Bool.{and_parts, eqb-true, ltb-true}
use Rattle.std.proofs.lemmas.List.{length-map}
use Rattle.std.proofs.lemmas.List.Elements.{All-map, All-weaker}
use Rattle.sw_hashdir.specs.Listing.{ListingModel}
use Rattle.sw_hashdir.specs.declared.entry.Entry.{Entry}
use Rattle.sw_message.specs.Transcript.{Step}
use Rattle.sw_message.specs.declared.target.Target.{Target}
use Rattle.sw_gather.specs.Choices.{firsts, is_listed}
use Rattle.sw_gather.proofs.Lists.{here}
use Rattle.sw_gather.proofs.Sources.{OfEntries, choices-of, firsts-kept, firsts_apart, in_choices, in_firsts, indices_apart, indices_of}
use Rattle.sw_sync.specs.Answers.{AreIndices, IsListed, IsSource, ListsNone, WasListed}
use Rattle.sw_sync.specs.Parts.{Repair}
use Rattle.sw_sync.specs.Sync.{Begun, is_empty, total}
use Rattle.sw_sync.specs.declared.errand.Errand.{Errand}
use Rattle.sw_sync.proofs.Repairing.{Repairing, lacking-target}
use Rattle.sw_sync.proofs.Shows.{lists-none}

-- some archive is lacking
pub some-lacking : (repair : Repair) → is_empty repair.lacking ≡ false → (target : Target) × Contains repair.lacking target
some-lacking repair some = first-of repair.lacking some
  where
    first-of : (targets : List Target) → is_empty targets ≡ false → (target : Target) × Contains targets target
    first-of [] some = absurd (cc)
    first-of (target ∷ targets) some = (target, here target targets)

module _ (begun : Begun) (past : List Step) (repair : Repair) (due : List Errand) (repairing : Repairing begun past repair due) where
  pub lacks : (target : Target) → Contains repair.lacking target → ListsNone begun past repair.stamp target
  lacks target there =
      let at = lacking-target begun past repair due repairing target there in lists-none begun past repairing.heard repairing.surveyed repair.stamp target at.0 at.1

  -- the choices are the sources
  pub choices-all : (source : Target) → IsSource begun past repair.stamp source → Contains repair.choices source
  choices-all source is =
      subst (λ these. Contains these source) (sym repairing.choices)
      (in_choices (total begun) repair.stamp repairing.heard.lists source.device is.listing (record { stamp = repair.stamp; index = source.index; durable = is.durable })
      (repairing.surveyed.survey.all_lists source.device is.listing is.listed) is.entry refl is.below)

  pub choices-listed : All (IsSource begun past repair.stamp) repair.choices
  choices-listed =
      let Q : Target → Type 0 = IsSource begun past repair.stamp in
      subst (All Q) (sym repairing.choices)
      (choices-of Q (total begun) repair.stamp repairing.heard.lists
      (All-weaker (λ (one : ℕ × ListingModel). WasListed begun past one.0 one.1) (OfEntries Q (total begun) repair.stamp) each repairing.heard.lists repairing.surveyed.survey.lists))
    where
      each : (one : ℕ × ListingModel) → WasListed begun past one.0 one.1 → (entry : Entry) → Contains one.1.entries entry → is_listed (total begun) repair.stamp entry ≡ true
          → IsSource begun past repair.stamp (record { index = entry.index; device = one.0 })
      each one was entry among listed =
          let both = and_parts (entry.stamp == repair.stamp) (nat_lt entry.index (total begun)) listed in
          record {
            listing = one.1;
            listed = was;
            durable = entry.durable;
            entry = subst (Contains one.1.entries) (ap (λ n. record { stamp = n; index = entry.index; durable = entry.durable }) (eqb-true entry.stamp repair.stamp both.0)) among;
            below = ltb-true entry.index (total begun) both.1;
          }

  -- the indices that were listed are those of the first choices
  pub are-indices : AreIndices begun past repair.stamp (indices_of (firsts repair.choices))
  are-indices =
      let Q : Target → Type 0 = IsSource begun past repair.stamp in
      record {
        each = All-map (IsListed begun past repair.stamp) (λ (target : Target). target.index) (firsts repair.choices)
            (All-weaker Q (λ (target : Target). IsListed begun past repair.stamp target.index) (λ target is. (target.device, is)) (firsts repair.choices) (firsts-kept Q repair.choices choices-listed));
        all = λ index is. in_firsts repair.choices (record { index = index; device = is.0 }) (choices-all (record { index = index; device = is.0 }) is.1);
        distinct = indices_apart (firsts repair.choices) (firsts_apart repair.choices);
      }

  pub many-indices : begun.cluster.policy.k ≤ repair.listed → begun.cluster.policy.k ≤ length (indices_of (firsts repair.choices))
  many-indices many = omega (arith, many, repairing.listed, length-map (firsts repair.choices) (λ (target : Target). target.index))
