-- How a get ends whose answers are true replies: by what devices have at its place.
use Rattle.std.proofs.Common.{◌≡◌, inl, inr, ℕ, ◌<◌, Contains, List, [], ◌∷◌, length, Some, refl, sym, ap, subst, ◌∙◌, arith}
use Rattle.std.specs.List.{All}
use Rattle.std.proofs.lemmas.List.Elements.{All-head, Contains-append_right}
use Rattle.sw_types.specs.Name.{NameModel}
use Rattle.sw_types.specs.Object.{ObjectModel}
use Rattle.sw_hashpath.specs.Place.{PlaceModel}
use Rattle.sw_hashdir.specs.Directory.{IsAbove}
use Rattle.sw_hashdir.proofs.Laws.{level}
use Rattle.sw_hashdir.specs.Listing.{ListingModel}
use Rattle.sw_hashdir.specs.declared.floor.Floor.{Floor}
use Rattle.sw_diskfile.proofs.Lists.{Contains-none}
use Rattle.sw_message.specs.Floors.{durable_at, floors_in, tombstone_floor}
use Rattle.sw_message.specs.Transcript.{Step}
use Rattle.sw_message.specs.declared.miss.Miss.{Miss}
use Rattle.sw_message.specs.declared.target.Target.{Target}
use Rattle.sw_gather.proofs.Lists.{All-contains, in_flat}
use Rattle.sw_law_steady.specs.Steady.{MissesAlike}
use Rattle.sw_get.specs.Causes.{HasFloor, HasTarget, LastRound, WasMissed, floors_before, floors_listed}
use Rattle.sw_get.specs.Get.{Begun, Hears, IsEnd, Turn, facts_in, place_of, round_in}
use Rattle.sw_get.specs.Meaning.{Misses}
use Rattle.sw_get.specs.declared.end.GetEnd.{GetEnd}
use Rattle.sw_get.specs.declared.end.GetEnd.TheVariants as gets
use Rattle.sw_get.proofs.Ends.{ends_absent, ends_buried, ends_too_few, ends_unanswered}
use Rattle.sw_get.proofs.Founds.{found_put}
use Rattle.sw_get.proofs.Shown.{IsTold, all_told, parts, shown_among}
use Rattle.sw_get.proofs.Turns.{all, now}
use Rattle.sw_law_scene.specs.Scene.{Scene, known_to}
use Rattle.sw_law_scene.specs.Sound.{IsSoundScene}
use Rattle.sw_law_complete.specs.Complete.{AreHeldThere, HasOwnPlace, IsFloorThere, IsGreatestThere, IsHeldThere}
use Rattle.sw_law_complete.specs.Ends.{EndsByWhatIsThere}
use Rattle.sw_law_complete.proofs.GetHanded.{IsNoMiss}
use Rattle.sw_law_complete.proofs.GetIndices.{few_among}
use Rattle.sw_law_complete.proofs.GetListed.{floor_listed_in, held_listed, turns_there}
use Rattle.sw_law_complete.proofs.GetMisses.{all_clean}
use Rattle.sw_law_complete.proofs.GetReplies.{held_by}
use Rattle.sw_law_complete.proofs.GetThere.{get_of}
use Rattle.sw_law_complete.proofs.GetTold.{IsToldTruly}

module _ (scene : Scene) (sound : IsSoundScene scene) (name : NameModel) (own : HasOwnPlace scene name) (past : List Step) (told : IsToldTruly scene (get_of scene name) past) where
  abbrev get : Begun
  get = get_of scene name

  abbrev place : PlaceModel
  place = place_of get

  -- ---- ends that cannot be

  -- no answer of the last round is a miss
  first_missed : (turns : List Turn) → All IsNoMiss turns → (misses : List (ℕ × Miss)) → 0 < length misses → All (WasMissed turns) misses → ⊥
  first_missed turns none [] some missed = absurd (omega (arith, some))
  first_missed turns none (one ∷ misses) some missed = let first = All-head (WasMissed turns) one misses missed in All-contains IsNoMiss turns (Hears first.0 (Misses one.1)) none first.1

  never_unanswered : (misses : List (ℕ × Miss)) → IsEnd get past (gets.Unanswered misses) → ⊥
  never_unanswered misses end =
      let is = ends_unanswered get past told.valid told.run misses end in
      let clean = all_clean scene name told.valid sound.book own past told.run told.truly is.last.turns is.last.are in
      first_missed (now get is.last.turns) (parts IsNoMiss (all get is.last.turns) is.last.turns clean.1).0 misses is.some is.missed

  misses_alike : MissesAlike get past
  misses_alike device ticket other answer listing first second =
      let given = told.truly _ answer second in
      let held = held_by scene.cluster (known_to scene).book place given.2.names place given.0 given.2.says in
      (held.0, given.1 ∙ ap (λ one. Some one) held.1)

  -- ---- floors

  -- a floor that some device has, and none has one above it
  record IsTop (floor : Floor) : Type 0 where
    there : IsFloorThere scene place floor
    top : (other : Floor) → IsFloorThere scene place other → IsAbove other floor → ⊥

  -- there is one
  one_top : (floor other : Floor) → IsTop floor → IsGreatestThere scene place other → floor ≡ other
  one_top floor other is greatest = level floor other (greatest.greatest floor is.there) (is.top other greatest.there)

  -- a floor that some listing shows
  shown_there : (floor : Floor) (last : LastRound get past) → HasFloor past floor → IsFloorThere scene place floor
  shown_there floor last has =
      let shown = has.shown in
      turns_there scene name past told.truly last.turns (all_told get past last.turns last.are) floor
      (shown_among get past last.turns last.are has.listing shown.sent shown.given shown.told shown.shows floor has.greatest.0)

  -- the target of the last round
  target_top : (last : LastRound get past) (floor : Floor) → IsFloorThere scene place floor → HasTarget get last.turns floor → IsTop floor
  target_top last floor there target = record {
    there = there;
    top = λ other is above.
        let listed = floor_listed_in scene name past told.truly last other is in
        let among = in_flat (λ (one : ℕ × ListingModel). floors_in one.1) (facts_in get last.turns).lists (listed.0, listed.1.listing) other listed.1.known listed.2 in
        target.1 other (Contains-append_right (floors_before get last.turns) (floors_listed get last.turns) other among) above;
  }

  -- ---- each end

  none_there : IsEnd get past gets.Absent → (floor : Floor) → IsFloorThere scene place floor → ⊥
  none_there end floor there =
      let is = ends_absent get past told.valid told.run end in
      let listed = floor_listed_in scene name past told.truly is.last floor there in
      Contains-none floor (subst (λ these. Contains these floor) (is.none_shown listed.1.listing listed.1.shown) listed.2)

  buried_top : (stamp : ℕ) → IsEnd get past (gets.Buried stamp) → IsTop (tombstone_floor stamp)
  buried_top stamp end =
      let is = ends_buried get past told.valid told.run stamp end in
      record {
        there = shown_there (tombstone_floor stamp) is.last is.shown;
        top = λ other there above.
            let listed = floor_listed_in scene name past told.truly is.last other there in
            is.greatest listed.1.listing other listed.1.shown listed.2 above;
      }

  found_top : (stamp : ℕ) (object : ObjectModel) (sources : List Target) → IsEnd get past (gets.Found stamp object sources) → IsTop (durable_at stamp)
  found_top stamp object sources end =
      let is = found_put get past told.learnt stamp object sources told.valid told.run told.book told.known end in
      target_top is.last (durable_at stamp) (shown_there (durable_at stamp) is.last is.durable) is.target

  few_top : (stamp have : ℕ) → IsEnd get past (gets.TooFew stamp have) → IsTop (durable_at stamp)
  few_top stamp have end =
      let is = ends_too_few get past told.valid told.run stamp have end in
      let before = (parts (IsTold get past) (all get is.last.turns) is.last.turns (all_told get past is.last.turns is.last.are)).1 in
      target_top is.last (durable_at stamp) (turns_there scene name past told.truly (round_in get is.last.turns).earlier before (durable_at stamp) is.level.before) is.level.target

  -- where k indices are held they are listed
  few_held : (stamp have : ℕ) → IsEnd get past (gets.TooFew stamp have) → AreHeldThere scene place stamp scene.cluster.policy.k → ⊥
  few_held stamp have end held =
      let is = ends_too_few get past told.valid told.run stamp have end in
      let short = is.short in
      let many = few_among held.indices short.indices held.apart (λ index has. (short.are.listed index).1
      (held_listed scene name past told.truly is.last sound stamp index (All-contains (IsHeldThere scene place stamp) held.indices index held.held has))) in
      omega (arith, many, held.many, short.few)

  -- ---- by what is there

  -- a tombstone is not durable
  two_kinds : (stamp other : ℕ) → tombstone_floor stamp ≡ durable_at other → ⊥
  two_kinds stamp other same = let kinds = ap (λ (floor : Floor). floor.kind) same in absurd (cc)

  -- so it ends by it
  pub ends_so : (end : GetEnd) → IsEnd get past end → EndsByWhatIsThere scene place end
  ends_so gets.Absent end = record {
    absent = λ none. refl;
    buried = λ stamp greatest. absurd (none_there end (tombstone_floor stamp) greatest.there);
    durable = λ stamp greatest. absurd (none_there end (durable_at stamp) greatest.there);
    found = λ stamp greatest held. absurd (none_there end (durable_at stamp) greatest.there);
    too_few = λ stamp have same held. absurd (cc);
  }
  ends_so (gets.Buried at) end = let is = buried_top at end in record {
    absent = λ none. absurd (none (tombstone_floor at) is.there);
    buried = λ stamp greatest. ap (λ (floor : Floor). gets.Buried floor.stamp) (one_top (tombstone_floor at) (tombstone_floor stamp) is greatest);
    durable = λ stamp greatest. absurd (two_kinds at stamp (one_top (tombstone_floor at) (durable_at stamp) is greatest));
    found = λ stamp greatest held. absurd (two_kinds at stamp (one_top (tombstone_floor at) (durable_at stamp) is greatest));
    too_few = λ stamp have same held. absurd (cc);
  }
  ends_so (gets.Found at object sources) end = let is = found_top at object sources end in record {
    absent = λ none. absurd (none (durable_at at) is.there);
    buried = λ stamp greatest. absurd (two_kinds stamp at (sym (one_top (durable_at at) (tombstone_floor stamp) is greatest)));
    durable = λ stamp greatest. inl (object, sources, ap (λ (floor : Floor). gets.Found floor.stamp object sources) (one_top (durable_at at) (durable_at stamp) is greatest));
    found = λ stamp greatest held. (object, sources, ap (λ (floor : Floor). gets.Found floor.stamp object sources) (one_top (durable_at at) (durable_at stamp) is greatest));
    too_few = λ stamp have same held. absurd (cc);
  }
  ends_so (gets.TooFew at have) end = let is = few_top at have end in record {
    absent = λ none. absurd (none (durable_at at) is.there);
    buried = λ stamp greatest. absurd (two_kinds stamp at (sym (one_top (durable_at at) (tombstone_floor stamp) is greatest)));
    durable = λ stamp greatest. inr (have, ap (λ (floor : Floor). gets.TooFew floor.stamp have) (one_top (durable_at at) (durable_at stamp) is greatest));
    found = λ stamp greatest held.
        let same : at ≡ stamp = ap (λ (floor : Floor). floor.stamp) (one_top (durable_at at) (durable_at stamp) is greatest) in
        absurd (few_held at have end (subst (λ n. AreHeldThere scene place n scene.cluster.policy.k) (sym same) held));
    too_few = λ stamp count same held. few_held stamp count (subst (IsEnd get past) same end) held;
  }
  ends_so (gets.Unanswered misses) end = absurd (never_unanswered misses end)
  ends_so (gets.Overtaken events) end = absurd (told.not_overtaken events misses_alike end)
