-- The indices of candidates: no two the same, and each that is listed.
use Rattle.std.proofs.Common.{◌≡◌, ℕ, ◌+◌, ◌==◌, true, Contains, List, nat_lt, refl, ap, subst}
use Rattle.std.specs.Prelude.{◌↔◌}
use Rattle.std.specs.List.{All}
use Rattle.std.proofs.lemmas.Bool.{and_parts, eqb-true, ltb-true}
use Rattle.std.proofs.lemmas.List.Elements.{All-contains_itself, All-map, All-weaker}
use Rattle.sw_types.specs.Policy.{PolicyModel}
use Rattle.sw_hashdir.specs.Listing.{ListingModel}
use Rattle.sw_hashdir.specs.declared.entry.Entry.{Entry}
use Rattle.sw_message.specs.declared.target.Target.{Target}
use Rattle.sw_get.specs.Causes.{AreIndices, ListsAt}
use Rattle.sw_get.specs.Round.{Facts, candidates}
use Rattle.sw_gather.specs.Choices.{firsts, is_listed}
use Rattle.sw_gather.proofs.Lists.{All-contains}
use Rattle.sw_get.proofs.Members.{candidates-of}
use Rattle.sw_gather.proofs.Sources.{OfEntries, firsts-kept, firsts_apart, in_choices, in_firsts, indices_apart, indices_of}

-- ---- what a round lists at a stamp

module _ (policy : PolicyModel) (facts : Facts) (stamp : ℕ) where
  abbrev total : ℕ
  total = policy.k + policy.m

  abbrev choices : List Target
  choices = candidates policy stamp facts

  abbrev pub first_indices : List ℕ
  first_indices = indices_of (firsts choices)

  abbrev At : Target → Type 0
  At target = ListsAt policy facts.lists stamp target

  abbrev SomeAt : ℕ → Type 0
  SomeAt index = (device : ℕ) × At (record { index = index; device = device })

  listed_entry : (one : ℕ × ListingModel) → Contains facts.lists one → (entry : Entry) → Contains one.1.entries entry → is_listed total stamp entry ≡ true → At (record { index = entry.index; device = one.0 })
  listed_entry one held entry among listed =
      let both = and_parts (entry.stamp == stamp) (nat_lt entry.index total) listed in record {
        below = ltb-true entry.index total both.1;
        listing = one.1;
        listed = held;
        durable = entry.durable;
        entry = subst (Contains one.1.entries) (ap (λ n. record { stamp = n; index = entry.index; durable = entry.durable }) (eqb-true entry.stamp stamp both.0)) among;
      }

  -- each candidate is listed by its device
  pub all_listed : All At choices
  all_listed = candidates-of At policy stamp facts
      (All-weaker (Contains facts.lists) (OfEntries At total stamp) (λ one held entry among listed. listed_entry one held entry among listed) facts.lists (All-contains_itself facts.lists))

  -- and what is listed is a candidate
  pub in_candidates : (target : Target) → At target → Contains choices target
  in_candidates target is = in_choices total stamp facts.lists target.device is.listing (record { stamp = stamp; index = target.index; durable = is.durable }) is.listed is.entry refl is.below

  some_at : (index : ℕ) → SomeAt index → Contains first_indices index
  some_at index (device, is) = let target : Target = record { index = index; device = device } in in_firsts choices target (in_candidates target is)

  listed_indices : (index : ℕ) → Contains first_indices index ↔ SomeAt index
  listed_indices index = (
    All-contains SomeAt first_indices index
        (All-map SomeAt (λ (target : Target). target.index) (firsts choices) (All-weaker At (λ (target : Target). SomeAt target.index) (λ target is. (target.device, is)) (firsts choices) (firsts-kept At choices all_listed))),
    some_at index,
  )

  pub are_indices : AreIndices policy facts.lists stamp first_indices
  are_indices = record { apart = indices_apart (firsts choices) (firsts_apart choices); listed = listed_indices }
