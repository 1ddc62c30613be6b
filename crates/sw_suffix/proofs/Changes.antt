-- Entries after one was put in or taken out.
use Rattle.std.proofs.Common.{◌≡◌, Bool, true, false, Option, None, cond, List, [], ◌∷◌, filter, refl, sym, ap, subst, ◌∙◌}
use Rattle.std.specs.BTreeMap.{insert_entry, is_at}
use Rattle.std.specs.Cmp.{Equal-is}
use Rattle.std.specs.List.{All}
use Rattle.std.specs.Map.{lookup, remove_entry}
use Rattle.std.specs.Ordering.{is_eq, match_ordering}
use Rattle.std.specs.declared.cmp.Ordering.TheVariants.{Equal, Greater, Less}
use Rattle.std.proofs.lemmas.List.Elements.{All-cons, All-head, All-nil, All-tail}
use Rattle.sw_hashpath.specs.Place.{PlaceModel}
use Rattle.sw_hashdir.specs.declared.floor.Floor.{Floor}
use Rattle.sw_suffix.specs.Entries.{AreSound, Entries, IsKey, floors_of, key_cmp, key_of, key_place}
use Rattle.sw_suffix.specs.Table.{IsSet, floor_at}
use Rattle.sw_suffix.specs.declared.key.Key.{Key}
use Rattle.sw_suffix.proofs.Keys.{floor_found, key_again, same_key}

module _ (P : Key → Type 0) where
  abbrev OfEntry : Key × Floor → Type 0
  OfEntry entry = P entry.0

  pub All-insert : (entries : Entries) (key : Key) (floor : Floor) → P key → All (λ e. P e.0) entries → All (λ e. P e.0) (insert_entry key_cmp entries key floor)
  All-insert [] key floor here all = All-cons OfEntry (key, floor) [] here (All-nil OfEntry)
  All-insert (entry ∷ entries) key floor here all =
      let first = All-head OfEntry entry entries all in
      let rest = All-tail OfEntry entry entries all in
      elim (key_cmp key entry.0) as (λ o. All OfEntry (match_ordering o ((key, floor) ∷ entry ∷ entries) ((entry.0, floor) ∷ entries) (entry ∷ insert_entry key_cmp entries key floor))) [
        | Less ↦ All-cons OfEntry (key, floor) (entry ∷ entries) here all
        | Equal ↦ All-cons OfEntry (entry.0, floor) entries first rest
        | Greater ↦ All-cons OfEntry entry (insert_entry key_cmp entries key floor) first (All-insert entries key floor here rest)
      ]

  pub All-remove : (entries : Entries) (test : Key → Bool) → All (λ e. P e.0) entries → All (λ e. P e.0) (remove_entry test entries)
  All-remove [] test all = all
  All-remove (entry ∷ entries) test all =
      let rest = All-tail OfEntry entry entries all in
      elim (test entry.0) as (λ b. All OfEntry (cond b entries (entry ∷ remove_entry test entries))) [
        | true ↦ rest
        | false ↦ All-cons OfEntry entry (remove_entry test entries) (All-head OfEntry entry entries all) (All-remove entries test rest)
      ]

abbrev Placed : Type 0
Placed = PlaceModel × Floor

-- floors at a place that does not pass make no difference
module _ (p : Placed → Bool) (key : Key) (never : (floor : Floor) → p (key_place key, floor) ≡ false) where
  skip : (floor : Floor) (floors : List Placed) → filter p ((key_place key, floor) ∷ floors) ≡ filter p floors
  skip floor floors = ap (λ (b : Bool). cond b ((key_place key, floor) ∷ filter p floors) (filter p floors)) (never floor)

  skip_same : (other : Key) → key ≡ other → (floor : Floor) (floors : List Placed) → filter p ((key_place other, floor) ∷ floors) ≡ filter p floors
  skip_same other same floor floors = subst (λ (k : Key). filter p ((key_place k, floor) ∷ floors) ≡ filter p floors) same (skip floor floors)

  longer : (entry : Key × Floor) (a b : List Placed) → filter p a ≡ filter p b → filter p ((key_place entry.0, entry.1) ∷ a) ≡ filter p ((key_place entry.0, entry.1) ∷ b)
  longer entry a b same = ap (λ (rest : List Placed). cond (p (key_place entry.0, entry.1)) ((key_place entry.0, entry.1) ∷ rest) rest) same

  pub filter-insert : (entries : Entries) (floor : Floor) → filter p (floors_of (insert_entry key_cmp entries key floor)) ≡ filter p (floors_of entries)
  filter-insert [] floor = skip floor []
  filter-insert (entry ∷ entries) floor =
      elim (key_cmp key entry.0) as (λ o. key_cmp key entry.0 ≡ o
      → filter p (floors_of (match_ordering o ((key, floor) ∷ entry ∷ entries) ((entry.0, floor) ∷ entries) (entry ∷ insert_entry key_cmp entries key floor))) ≡ filter p (floors_of (entry ∷ entries))) [
        | Less ↦ λ is. skip floor (floors_of (entry ∷ entries))
        | Equal ↦ λ is.
            let same = (same_key key entry.0).0 ((Equal-is (key_cmp key entry.0)).1 is) in
            skip_same entry.0 same floor (floors_of entries) ∙ sym (skip_same entry.0 same entry.1 (floors_of entries))
        | Greater ↦ λ is. longer entry (floors_of (insert_entry key_cmp entries key floor)) (floors_of entries) (filter-insert entries floor)
      ] refl

  pub filter-remove : (entries : Entries) → filter p (floors_of (remove_entry (is_at (key_cmp key)) entries)) ≡ filter p (floors_of entries)
  filter-remove [] = refl
  filter-remove (entry ∷ entries) =
      elim (is_eq (key_cmp key entry.0)) as (λ b. is_eq (key_cmp key entry.0) ≡ b
      → filter p (floors_of (cond b entries (entry ∷ remove_entry (is_at (key_cmp key)) entries))) ≡ filter p (floors_of (entry ∷ entries))) [
        | true ↦ λ is. sym (skip_same entry.0 ((same_key key entry.0).0 is) entry.1 (floors_of entries))
        | false ↦ λ is. longer entry (floors_of (remove_entry (is_at (key_cmp key)) entries)) (floors_of entries) (filter-remove entries)
      ] refl

not_true : (b : Bool) → (b ≡ true → ⊥) → b ≡ false
not_true true never = absurd (never refl)
not_true false never = refl

-- the floors once the entry of a key is another or none, and all others are as they were
pub is_set : (old new : Entries) (key : Key) (floor : Option Floor) → IsKey key → AreSound old → AreSound new → lookup (is_at (key_cmp key)) new ≡ floor
    → ((q : Key) → is_at (key_cmp key) q ≡ false → lookup (is_at (key_cmp q)) new ≡ lookup (is_at (key_cmp q)) old) → IsSet (key_place key) floor (floors_of old) (floors_of new)
is_set old new key floor is_key before after here others = record {
  there = floor_found (key_place key) new after ∙ ap (λ (k : Key). lookup (is_at (key_cmp k)) new) (key_again key is_key) ∙ here;
  others = λ other differs.
      let apart : is_eq (key_cmp key (key_of other)) ≡ false = not_true (is_eq (key_cmp key (key_of other))) (λ is. differs (sym (ap key_place ((same_key key (key_of other)).0 is)))) in
      floor_found other new after ∙ others (key_of other) apart ∙ sym (floor_found other old before);
}

-- a place whose key is not there has no floor
pub no_floor : (entries : Entries) (key : Key) → IsKey key → AreSound entries → lookup (is_at (key_cmp key)) entries ≡ None → floor_at (key_place key) (floors_of entries) ≡ None
no_floor entries key is_key sound none = floor_found (key_place key) entries sound ∙ ap (λ (k : Key). lookup (is_at (key_cmp k)) entries) (key_again key is_key) ∙ none
