-- What devices show, in the words of the causes.
use Rattle.std.proofs.Common.{◌≡◌, ◌≢◌, inl, inr, get_or, ℕ, zero, suc, ◌+◌, ◌==◌, ◌&&◌, Bool, true, false, not, Contains, List, [], ◌∷◌, Option, Some, None, refl, sym, ap, subst, ◌∙◌, arith}
use Rattle.std.specs.Prelude.{slice_get}
use Rattle.std.specs.List.{AllPairs, flat_map, list_any}
use Rattle.std.proofs.lemmas.Bool.{and_from, and_parts, cases_Bool, cases_order, eq-eqb, eqb-true, not-true, true≢false}
use Rattle.std.proofs.lemmas.List.Elements.{All-contains, All-contains_itself, All-weaker}
use Rattle.std.proofs.lemmas.List.Kept.{AllPairs-cons}
use Rattle.std.proofs.lemmas.Option.{get_or_from_slice_get, none-some, same_Some, slice_get_within}
use Rattle.sw_hashdir.specs.Directory.{IsAbove}
use Rattle.sw_hashdir.specs.Listing.{ListingModel}
use Rattle.sw_hashdir.specs.declared.entry.Entry.{Entry}
use Rattle.sw_hashdir.specs.declared.floor.Floor.{Floor}
use Rattle.sw_ring.proofs.Among.{Contains-cons}
use Rattle.sw_message.specs.Floors.{IsHighest, floors_in, is_above}
use Rattle.sw_message.specs.Transcript.{Step}
use Rattle.sw_message.specs.Warrant.{IsPrimaryOf}
use Rattle.sw_message.specs.declared.miss.Miss.{Miss}
use Rattle.sw_message.specs.declared.target.Target.{Target}
use Rattle.sw_message.proofs.Highest.{above, above_lower, is_highest, neither_above, not_above}
use Rattle.sw_quorum.proofs.Places.{counted-among}
use Rattle.sw_quorum.specs.Targets.{targets_from}
use Rattle.sw_gather.proofs.Lists.{any_passes, first_or_later, from_flat, here, in_flat, none_in, some_passes}
use Rattle.sw_sync.specs.Answers.{HasFloor, IsOwnFloor, ListsNone, ListsPlain, MissedAsk, WasListed}
use Rattle.sw_sync.specs.Causes.{IsNewer}
use Rattle.sw_sync.specs.Parts.{Heard}
use Rattle.sw_sync.specs.Sync.{Begun, floor_of, greatest_of, has_none, has_plain, is_durable_entry, is_entry, is_over, listing_of, lists_below, of_device, primaries, shows_none, shows_plain}
use Rattle.sw_sync.proofs.Asking.{Surveyed, listing-in}
use Rattle.sw_sync.proofs.Plans.{IsOvertaken, OwnFloor}

-- ---- floors

is-above : (a b : Floor) → IsAbove a b → is_above a b ≡ true
is-above a b is = elim (cases_Bool (is_above a b)) [ inl so ↦ so | inr is_not ↦ absurd (not_above a b is_not is) ]

none-above : (a b : Floor) → (IsAbove a b → ⊥) → is_above a b ≡ false
none-above a b none = elim (cases_Bool (is_above a b)) [ inl so ↦ absurd (none (above a b so)) | inr is_not ↦ is_not ]

-- the greatest floor of a listing
pub has-floor : (listing : ListingModel) (floor : Floor) → floor_of listing ≡ Some floor → HasFloor listing floor
has-floor listing floor is = let highest = subst (IsHighest (floors_in listing)) is (is_highest (floors_in listing)) in record { shown = highest.0; none_above = highest.1 }

-- a floor that is above the greatest is above each
over-each : (floor : Floor) (listing : ListingModel) (top : Option Floor) → floor_of listing ≡ top → is_over floor top ≡ true → (other : Floor) → Contains (floors_in listing) other → IsAbove floor other
over-each floor listing None is over other there =
    let none : floors_in listing ≡ [] = subst (IsHighest (floors_in listing)) is (is_highest (floors_in listing)) in absurd (none_in other (subst (λ these. Contains these other) none there))
over-each floor listing (Some top) is over other there =
    above floor other (above_lower floor top other over (none-above other top ((has-floor listing top is).none_above other there)))

-- one that is not, and that none is above, is the greatest
is-greatest : (floor : Floor) (listing : ListingModel) (top : Option Floor) → floor_of listing ≡ top → is_over floor top ≡ false → ((other : Floor) → Contains (floors_in listing) other → IsAbove other floor → ⊥) → HasFloor listing floor
is-greatest floor listing None is over none = absurd (cc)
is-greatest floor listing (Some top) is over none =
    let has = has-floor listing top is in
    subst (HasFloor listing) (sym (neither_above floor top over (none-above top floor (none top has.shown)))) has

-- ---- primaries and their indices

at-target : (from : ℕ) (devices : List ℕ) (target : Target) → Contains (targets_from from devices) target → (n : ℕ) × (target.index ≡ from + n) × (slice_get devices n ≡ Some target.device)
at-target from [] target is = absurd (none_in target is)
at-target from (device ∷ devices) target is = elim (first_or_later (record { index = from; device = device }) (targets_from (from + 1) devices) target is) [
  | inl same ↦
      let indices : from ≡ target.index = ap (λ (one : Target). one.index) same in
      (zero, omega arith, ap (λ (one : Target). Some one.device) same)
  | inr later ↦ let rest = at-target (from + 1) devices target later in (suc rest.0, omega (arith, rest.1), rest.2)
]

target-at : (from : ℕ) (devices : List ℕ) (n index device : ℕ) → index ≡ from + n → slice_get devices n ≡ Some device → Contains (targets_from from devices) (record { index = index; device = device })
target-at from [] n index device at is = absurd (none-some device is)
target-at from (first ∷ devices) zero index device at is =
    let same : first ≡ device = same_Some first device is in
    let indices : index ≡ from = omega arith in
    subst (λ i. Contains (targets_from from (first ∷ devices)) (record { index = i; device = device })) (sym indices)
    (subst (λ n. Contains (targets_from from (first ∷ devices)) (record { index = from; device = n })) same (here (record { index = from; device = first }) (targets_from (from + 1) devices)))
target-at from (first ∷ devices) (suc n) index device at is =
    Contains-cons (record { index = index; device = device }) (record { index = from; device = first }) (targets_from (from + 1) devices) (target-at (from + 1) devices n index device (omega (arith, at)) is)

abbrev pub HaveOtherIndex : Target → Target → Type 0
HaveOtherIndex a b = a.index ≢ b.index

-- no two have an index in common
pub targets-apart : (from : ℕ) (devices : List ℕ) → AllPairs HaveOtherIndex (targets_from from devices)
targets-apart from [] = λ i j d less within. absurd (omega arith)
targets-apart from (device ∷ devices) =
    let this : Target = record { index = from; device = device } in
    let rest : List Target = targets_from (from + 1) devices in
    AllPairs-cons HaveOtherIndex this rest
    (All-weaker (Contains rest) (λ (one : Target). from ≢ one.index) (λ one there same. let at = at-target (from + 1) devices one there in absurd (omega (arith, at.1, same))) rest (All-contains_itself rest))
    (targets-apart (from + 1) devices)

-- nor a device, where primaries are all different
pub one-target : (devices : List ℕ) → AllPairs (λ a b. a ≢ b) devices → (a b : Target) → slice_get devices a.index ≡ Some a.device → slice_get devices b.index ≡ Some b.device → a.device ≡ b.device → a ≡ b
one-target devices apart a b at bt same = ap (λ n. record { index = n; device = a.device }) (elim (cases_order a.index b.index) [
  | inl is ↦ is
  | inr (inl less) ↦ absurd (apart a.index b.index a.device less (slice_get_within devices b.index b.device bt) (first ∙ same ∙ sym second))
  | inr (inr more) ↦ absurd (apart b.index a.index a.device more (slice_get_within devices a.index a.device at) (second ∙ sym same ∙ sym first))
]) ∙ ap (λ n. record { index = b.index; device = n }) same
  where
    first : get_or devices a.index a.device ≡ a.device
    first = get_or_from_slice_get devices a.index a.device a.device at

    second : get_or devices b.index a.device ≡ b.device
    second = get_or_from_slice_get devices b.index b.device a.device bt

module _ (begun : Begun) (target : Target) where
  pub is-primary : Contains (targets_from 0 (primaries begun)) target → IsPrimaryOf begun.cluster begun.place target.index target.device
  is-primary there = let at = at-target 0 (primaries begun) target there in let same : target.index ≡ at.0 = omega (arith, at.1) in ap (slice_get (primaries begun)) same ∙ at.2

  pub in-targets : IsPrimaryOf begun.cluster begun.place target.index target.device → Contains (targets_from 0 (primaries begun)) target
  in-targets primary = target-at 0 (primaries begun) target.index target.index target.device (omega arith) primary

-- ---- entries

module _ (stamp : ℕ) (target : Target) (entries : List Entry) where
  abbrev pub entry : Bool → Entry
  entry durable = record { stamp = stamp; index = target.index; durable = durable }

  as-entry : (one : Entry) → is_entry stamp target one ≡ true → one ≡ entry one.durable
  as-entry one is =
      let both = and_parts (one.stamp == stamp) (one.index == target.index) is in
      ap (λ n. record { stamp = n; index = one.index; durable = one.durable }) (eqb-true one.stamp stamp both.0)
      ∙ ap (λ n. record { stamp = stamp; index = n; durable = one.durable }) (eqb-true one.index target.index both.1)

  is-entry : (durable : Bool) → is_entry stamp target (entry durable) ≡ true
  is-entry durable = and_from (stamp == stamp) (target.index == target.index) (eq-eqb stamp stamp refl) (eq-eqb target.index target.index refl)

  some-entry : list_any (is_entry stamp target) entries ≡ true → (durable : Bool) × Contains entries (entry durable)
  some-entry is = let one = some_passes (is_entry stamp target) entries is in (one.0.durable, subst (Contains entries) (as-entry one.0 one.2) one.1)

  durable-entry : list_any (is_durable_entry stamp target) entries ≡ true → Contains entries (entry true)
  durable-entry is =
      let one = some_passes (is_durable_entry stamp target) entries is in
      let both = and_parts one.0.durable (is_entry stamp target one.0) one.2 in
      subst (Contains entries) (as-entry one.0 both.1 ∙ ap entry both.0) one.1

  any-entry : (durable : Bool) → Contains entries (entry durable) → list_any (is_entry stamp target) entries ≡ true
  any-entry durable there = any_passes (is_entry stamp target) entries (entry durable) there (is-entry durable)

  any-durable : Contains entries (entry true) → list_any (is_durable_entry stamp target) entries ≡ true
  any-durable there = any_passes (is_durable_entry stamp target) entries (entry true) there (is-entry true)

  pub plain-entry : (list_any (is_entry stamp target) entries && not (list_any (is_durable_entry stamp target) entries)) ≡ true → Contains entries (entry false) × (Contains entries (entry true) → ⊥)
  plain-entry is =
      let both = and_parts (list_any (is_entry stamp target) entries) (not (list_any (is_durable_entry stamp target) entries)) is in
      let never = λ (there : Contains entries (entry true)). true≢false (sym (any-durable there) ∙ not-true (list_any (is_durable_entry stamp target) entries) both.1) in
      let some = some-entry both.0 in
      (by_durable some.0 some.1 never, never)
    where
      by_durable : (durable : Bool) → Contains entries (entry durable) → (Contains entries (entry true) → ⊥) → Contains entries (entry false)
      by_durable true there never = absurd (never there)
      by_durable false there never = there

  pub no-entry : not (list_any (is_entry stamp target) entries) ≡ true → (durable : Bool) → Contains entries (entry durable) → ⊥
  no-entry is durable there = true≢false (sym (any-entry durable there) ∙ not-true (list_any (is_entry stamp target) entries) is)

  pub none-shown : ((durable : Bool) → Contains entries (entry durable) → ⊥) → not (list_any (is_entry stamp target) entries) ≡ true
  none-shown none = elim (cases_Bool (list_any (is_entry stamp target) entries)) [ inl some ↦ absurd (let one = some-entry some in none one.0 one.1) | inr nowhere ↦ ap not nowhere ]

  pub plain-shown : Contains entries (entry false) → (Contains entries (entry true) → ⊥) → (list_any (is_entry stamp target) entries && not (list_any (is_durable_entry stamp target) entries)) ≡ true
  plain-shown there never = elim (cases_Bool (list_any (is_durable_entry stamp target) entries)) [
    | inl durable ↦ absurd (never (durable-entry durable))
    | inr plain ↦ and_from (list_any (is_entry stamp target) entries) (not (list_any (is_durable_entry stamp target) entries)) (any-entry false there) (ap not plain)
  ]

-- what is lacking is not there plain
pub plain-not_none : (stamp : ℕ) (target : Target) (found : Option ListingModel) → has_plain stamp target found ≡ true → has_none stamp target found ≡ true → ⊥
plain-not_none stamp target None plain none = true≢false (sym plain)
plain-not_none stamp target (Some listing) plain none = no-entry stamp target listing.entries none false (plain-entry stamp target listing.entries plain).0

-- ---- what was listed

module _ (begun : Begun) (past : List Step) (heard : Heard) (is : Surveyed begun past heard) where
  pub was-listed : (device : ℕ) (listing : ListingModel) → listing_of heard.lists device ≡ Some listing → WasListed begun past device listing
  was-listed device listing found = All-contains (λ (one : ℕ × ListingModel). WasListed begun past one.0 one.1) heard.lists (device, listing) is.survey.lists (listing-in device listing heard.lists found)

  pub is-found : (device : ℕ) (listing : ListingModel) → WasListed begun past device listing → listing_of heard.lists device ≡ Some listing
  is-found device listing was = is.once device listing (is.survey.all_lists device listing was)

  -- a device that was listed did not miss
  pub listed-answered : (device : ℕ) (listing : ListingModel) → WasListed begun past device listing → (how : Miss) → MissedAsk begun past device how → ⊥
  listed-answered device listing was how missed =
      absurd (omega (
        arith,
        is.each_once device,
        counted-among (of_device device) heard.lists (device, listing) (eq-eqb device device refl) (is.survey.all_lists device listing was),
        counted-among (of_device device) heard.misses (device, how) (eq-eqb device device refl) (is.survey.all_misses device how missed),
      ))

  abbrev all_floors : List Floor
  all_floors = flat_map (λ (one : ℕ × ListingModel). floors_in one.1) heard.lists

  is-shown : (device : ℕ) (listing : ListingModel) (floor : Floor) → WasListed begun past device listing → Contains (floors_in listing) floor → Contains all_floors floor
  is-shown device listing floor was there = in_flat (λ (one : ℕ × ListingModel). floors_in one.1) heard.lists (device, listing) floor (is.survey.all_lists device listing was) there

  pub own-floor : (floor : Floor) → OwnFloor begun heard floor → IsOwnFloor begun past floor
  own-floor floor own = record {
    listing = own.listing;
    own = was-listed begun.device own.listing own.own;
    floor_is = has-floor own.listing floor own.floor_is;
    greatest = λ device other higher was there over. by_greatest (greatest_of heard.lists) refl higher (is-shown device other higher was there) over;
  }
    where
      by_greatest : (greatest : Option Floor) → greatest_of heard.lists ≡ greatest → (higher : Floor) → Contains all_floors higher → IsAbove higher floor → ⊥
      by_greatest None at higher there over = none_in higher (subst (λ these. Contains these higher) (subst (IsHighest all_floors) at (is_highest all_floors)) there)
      by_greatest (Some best) at higher there over =
          (subst (IsHighest all_floors) at (is_highest all_floors)).1 higher there (above higher best (above_lower higher floor best (is-above higher floor over) (own.greatest best at)))

  pub is-newer : (best : Floor) → IsOvertaken begun heard best → IsNewer begun past best
  is-newer best overtaken =
      let highest = subst (IsHighest all_floors) overtaken.greatest (is_highest all_floors) in
      let one = from_flat (λ (one : ℕ × ListingModel). floors_in one.1) heard.lists best highest.0 in
      record {
        own_listing = overtaken.listing;
        own = was-listed begun.device overtaken.listing overtaken.own;
        own_floor = overtaken.floor;
        own_is = has-floor overtaken.listing overtaken.floor overtaken.floor_is;
        above = above best overtaken.floor overtaken.above;
        device = one.0.0;
        listing = one.0.1;
        listed = All-contains (λ (one : ℕ × ListingModel). WasListed begun past one.0 one.1) heard.lists one.0 is.survey.lists one.1;
        shown = one.2;
        greatest = λ other shows higher was there over. highest.1 higher (is-shown other shows higher was there) over;
      }

  -- ---- tombstones

  -- a device lists smaller floors than the tombstone, or none
  pub lists-below : (floor : Floor) (device : ℕ) → lists_below floor (listing_of heard.lists device) ≡ true
      → (listing : ListingModel) × WasListed begun past device listing × ((other : Floor) → Contains (floors_in listing) other → IsAbove floor other)
  lists-below floor device below = by_listing (listing_of heard.lists device) refl below
    where
      by_listing : (found : Option ListingModel) → listing_of heard.lists device ≡ found → lists_below floor found ≡ true
          → (listing : ListingModel) × WasListed begun past device listing × ((other : Floor) → Contains (floors_in listing) other → IsAbove floor other)
      by_listing None at below = absurd (cc)
      by_listing (Some listing) at below = (listing, was-listed device listing at, over-each floor listing (floor_of listing) refl below)

  -- or it lists the tombstone, where that is the greatest floor
  pub lists-same : (floor : Floor) (device : ℕ) (listing : ListingModel) → IsOwnFloor begun past floor → WasListed begun past device listing → lists_below floor (listing_of heard.lists device) ≡ false → HasFloor listing floor
  lists-same floor device listing own was below =
      is-greatest floor listing (floor_of listing) refl (ap (lists_below floor) (sym (is-found device listing was)) ∙ below) (λ other there over. own.greatest device listing other was there over)

  -- ---- entries

  module _ (stamp : ℕ) (target : Target) where
    pub lists-plain : Contains (targets_from 0 (primaries begun)) target → shows_plain stamp heard.lists target ≡ true → ListsPlain begun past stamp target
    lists-plain there shown = by_listing (listing_of heard.lists target.device) refl shown
      where
        by_listing : (found : Option ListingModel) → listing_of heard.lists target.device ≡ found → has_plain stamp target found ≡ true → ListsPlain begun past stamp target
        by_listing None at plain = absurd (cc)
        by_listing (Some listing) at plain =
            let entries = plain-entry stamp target listing.entries plain in
            record { primary = is-primary begun target there; listing = listing; listed = was-listed target.device listing at; plain = entries.0; not_durable = entries.1 }

    pub lists-none : Contains (targets_from 0 (primaries begun)) target → shows_none stamp heard.lists target ≡ true → ListsNone begun past stamp target
    lists-none there shown = by_listing (listing_of heard.lists target.device) refl shown
      where
        by_listing : (found : Option ListingModel) → listing_of heard.lists target.device ≡ found → has_none stamp target found ≡ true → ListsNone begun past stamp target
        by_listing None at none = absurd (cc)
        by_listing (Some listing) at none =
            record { primary = is-primary begun target there; listing = listing; listed = was-listed target.device listing at; none = no-entry stamp target listing.entries none }

    pub shows-none : ListsNone begun past stamp target → shows_none stamp heard.lists target ≡ true
    shows-none lists = ap (has_none stamp target) (is-found target.device lists.listing lists.listed) ∙ none-shown stamp target lists.listing.entries lists.none

    pub shows-plain : ListsPlain begun past stamp target → shows_plain stamp heard.lists target ≡ true
    shows-plain lists = ap (has_plain stamp target) (is-found target.device lists.listing lists.listed) ∙ plain-shown stamp target lists.listing.entries lists.plain lists.not_durable
