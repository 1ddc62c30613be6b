-- What is known of a round, by what it does next.
use Rattle.std.proofs.Common.{◌≡◌, inl, inr, ◌⊎◌, ℕ, ◌+◌, ◌==◌, ◌<◌, ◌≤◌, Bool, true, false, not, ◌&&◌, ◌++◌, List, [], ◌∷◌, length, length-append, nat_lt, Option, Some, None, refl, sym, ap, subst, ◌∙◌, arith}
use Rattle.std.specs.Prelude.{if◌then◌else◌}
use Rattle.std.specs.List.{find, slice_get}
use Rattle.std.proofs.lemmas.Bool.{eqb-true, ltb-false, ltb-true}
use Rattle.std.proofs.lemmas.Bool.Decides.{nat_tests}
use Rattle.std.proofs.lemmas.Option.{none-some, same_Some}
use Rattle.sw_types.specs.Policy.{PolicyModel}
use Rattle.sw_hashdir.specs.declared.floor.Floor.{Floor}
use Rattle.sw_hashdir.specs.declared.floor.FloorKind.{FloorKind}
use Rattle.sw_hashdir.specs.declared.floor.FloorKind.TheVariants.{Durable, Tombstone}
use Rattle.sw_message.specs.Floors.{durable_at, tombstone_floor}
use Rattle.sw_message.specs.declared.miss.Miss.{Miss}
use Rattle.sw_message.specs.declared.target.Target.{Target}
use Rattle.sw_quorum.proofs.Lookups.{slice_get_none}
use Rattle.sw_get.specs.Round.{Devices, Facts, all_devices, ask_or, asked_going, candidates, choices_going, closed, fetch_going, fetch_or, few_going, is_empty, is_free, lost, next_source, ran_out, risen_or, rises, round_going, target_going, target_of}
use Rattle.sw_gather.specs.Choices.{firsts}
use Rattle.sw_get.specs.declared.round_end.Going.{Going}
use Rattle.sw_get.specs.declared.round_end.Going.TheVariants.{Ask, End, Fetch, Keep, Wait}
use Rattle.sw_get.specs.declared.round_end.KeptEvent.{KeptEvent}
use Rattle.sw_get.specs.declared.round_end.KeptEvent.TheVariants.{Gone, Rose}
use Rattle.sw_get.specs.declared.round_end.RoundEnd.{RoundEnd}
use Rattle.sw_get.specs.declared.round_end.RoundEnd.TheVariants as end

-- the target is a durable stamp with candidates enough
pub record IsChosen (policy : PolicyModel) (from : Option Floor) (facts : Facts) (to : Floor) : Type 0 where
  pub target : target_of from facts ≡ Some to
  pub durable : to.kind ≡ Durable
  pub choices : policy.k ≤ length (firsts (candidates policy to.stamp facts))

-- an archive is fetched
pub record IsNextFetch (policy : PolicyModel) (from : Option Floor) (facts : Facts) (stamp : ℕ) (source : Target) : Type 0 where
  pub to : Floor
  pub chosen : IsChosen policy from facts to
  pub stamp_is : stamp ≡ to.stamp
  pub few : length facts.tried < policy.k + lost facts
  pub source_is : next_source policy (candidates policy to.stamp facts) facts ≡ Some source

-- k archives were brought
pub record IsFound (policy : PolicyModel) (from : Option Floor) (facts : Facts) (stamp : ℕ) : Type 0 where
  pub to : Floor
  pub chosen : IsChosen policy from facts to
  pub stamp_is : stamp ≡ to.stamp
  pub enough : length facts.sources ≡ policy.k

-- no fetch is open: none was made, as nothing was chosen, or all were answered
abbrev pub AreFetched : PolicyModel → Option Floor → Facts → Type 0
AreFetched policy from facts = ((to : Floor) → IsChosen policy from facts to → ⊥) ⊎ (length facts.tried ≤ length facts.sources + lost facts)

-- candidates of fewer than k indices
abbrev pub FewListed : PolicyModel → Facts → ℕ → Type 0
FewListed policy facts stamp = length (firsts (candidates policy stamp facts)) < policy.k

-- candidates of k, but fewer archives were brought, each fetch was answered or given up, and none is free
pub record AllTried (policy : PolicyModel) (facts : Facts) (stamp : ℕ) : Type 0 where
  pub enough : policy.k ≤ length (firsts (candidates policy stamp facts))
  pub few : length facts.sources < policy.k
  pub all_closed : length (closed facts) ≡ length facts.tried
  pub none_free : find (is_free facts) (candidates policy stamp facts) ≡ None

abbrev pub NoneLeft : PolicyModel → Facts → ℕ → Type 0
NoneLeft policy facts stamp = FewListed policy facts stamp ⊎ (AllTried policy facts stamp × (facts.gone ≡ []))

-- the target did not rise
pub record StaysAt (from : Option Floor) (facts : Facts) (stamp : ℕ) : Type 0 where
  pub target : target_of from facts ≡ Some (durable_at stamp)
  pub level : rises from (durable_at stamp) ≡ false

-- it did
pub record RisesTo (policy : PolicyModel) (from : Option Floor) (facts : Facts) (start : Option Floor) (to : Floor) : Type 0 where
  pub start_is : start ≡ from
  pub target : target_of from facts ≡ Some to
  pub above : rises start to ≡ true
  pub stamp : ℕ
  pub durable : to ≡ durable_at stamp
  pub none_left : NoneLeft policy facts stamp

abbrev pub LeavesNone : PolicyModel → Option Floor → Facts → Type 0
LeavesNone policy from facts = ((target_of from facts ≡ None) × (policy.c ≤ length facts.misses)) ⊎ ((stamp : ℕ) × StaysAt from facts stamp × NoneLeft policy facts stamp)

-- so many indices are listed, too few, and every device answered
pub record AreFew (policy : PolicyModel) (from : Option Floor) (facts : Facts) (stamp have : ℕ) : Type 0 where
  pub level : StaysAt from facts stamp
  pub count : have ≡ length (firsts (candidates policy stamp facts))
  pub few : have < policy.k
  pub none_missed : facts.misses ≡ []

-- a device missed, or a source did
abbrev pub SomeMissed : PolicyModel → Facts → Type 0
SomeMissed policy facts = (policy.c ≤ length facts.misses) ⊎ ((0 < length facts.misses) ⊎ (0 < length facts.failed))

-- what is known as the get ends by a round
abbrev pub EndSays : PolicyModel → Option Floor → Facts → RoundEnd → Type 0
EndSays policy from facts (end.Found stamp) = IsFound policy from facts stamp
EndSays policy from facts end.Absent = (target_of from facts ≡ None) × (length facts.misses < policy.c)
EndSays policy from facts (end.Buried stamp) = target_of from facts ≡ Some (tombstone_floor stamp)
EndSays policy from facts end.Unanswered = LeavesNone policy from facts × SomeMissed policy facts
EndSays policy from facts (end.TooFew stamp have) = AreFew policy from facts stamp have

-- the first source whose archive was gone, where the candidates are used up
pub record IsFirstGone (policy : PolicyModel) (from : Option Floor) (facts : Facts) (source : Target) : Type 0 where
  pub to : Floor
  pub chosen : IsChosen policy from facts to
  pub used_up : AllTried policy facts to.stamp
  pub others : List Target
  pub first : facts.gone ≡ source ∷ others

-- what is known as it is kept as an event
abbrev pub KeepSays : PolicyModel → Option Floor → Facts → KeptEvent → Type 0
KeepSays policy from facts (Gone device index) = IsFirstGone policy from facts (record { index = index; device = device })
KeepSays policy from facts (Rose start to) = RisesTo policy from facts start to

pub of_kind : (to : Floor) (kind : FloorKind) → to.kind ≡ kind → to ≡ record { stamp = to.stamp; kind = kind }
of_kind to kind is = ap (λ (k : FloorKind). record { stamp = to.stamp; kind = k }) is

-- once every device has answered
abbrev pub LaterSays : PolicyModel → Option Floor → Facts → Going → Type 0
LaterSays policy from facts (Ask device) = ⊥
LaterSays policy from facts (Fetch stamp source) = IsNextFetch policy from facts stamp source
LaterSays policy from facts Wait = length facts.sources + lost facts < length facts.tried
LaterSays policy from facts (End ending) = AreFetched policy from facts × EndSays policy from facts ending
LaterSays policy from facts (Keep event) = AreFetched policy from facts × KeepSays policy from facts event

module _ (policy : PolicyModel) (from : Option Floor) (facts : Facts) (tried_few : length facts.tried ≤ policy.k + lost facts) (closed_few : length facts.sources + lost facts ≤ length facts.tried) where
  abbrev Says : Going → Type 0
  Says going = LaterSays policy from facts going

  length-closed : length (closed facts) ≡ length facts.sources + lost facts
  length-closed = omega (arith, length-append (facts.sources ++ facts.gone) facts.failed, length-append facts.sources facts.gone)

  -- the archives of a durable target are not to be had
  risen : (to : Floor) (ending : RoundEnd) → AreFetched policy from facts → target_of from facts ≡ Some to → to.kind ≡ Durable → NoneLeft policy facts to.stamp
      → (StaysAt from facts to.stamp → EndSays policy from facts ending) → Says (risen_or from to ending)
  risen to ending fetched target durable not_had says = by_test (rises from to) refl
    where
      by_test : (b : Bool) → rises from to ≡ b → Says (if b then Keep (Rose from to) else End ending)
      by_test true is = (fetched, record { start_is = refl; target = target; above = is; stamp = to.stamp; durable = of_kind to Durable durable; none_left = not_had })
      by_test false is =
          let same = of_kind to Durable durable in
          (fetched, says (record { target = target ∙ ap (λ (floor : Floor). Some floor) same; level = ap (λ (floor : Floor). rises from floor) (sym same) ∙ is }))

  module _ (to : Floor) (chosen : IsChosen policy from facts to) where
    -- where a source was lost and none is gone, one missed
    ran : (gone : List Target) → facts.gone ≡ gone → 0 < lost facts → AreFetched policy from facts → AllTried policy facts to.stamp → Says (ran_out from to gone)
    ran (source ∷ others) is some fetched used_up = (fetched, record { to = to; chosen = chosen; used_up = used_up; others = others; first = is })
    ran [] is some fetched used_up =
        risen to end.Unanswered fetched chosen.target chosen.durable (inr (used_up, is))
        (λ level. (inr (to.stamp, level, inr (used_up, is)), inr (inr (omega (arith, some, ap length is)))))

    -- where no candidate is left, some source was lost
    none_left : (b : Bool) → nat_lt (length facts.tried) policy.k ≡ b
        → (if b then slice_get (firsts (candidates policy to.stamp facts)) (length facts.tried) else find (is_free facts) (candidates policy to.stamp facts)) ≡ None → length facts.tried < policy.k + lost facts
        → (0 < lost facts) × (find (is_free facts) (candidates policy to.stamp facts) ≡ None)
    none_left true less none few =
        let fewer = slice_get_none (firsts (candidates policy to.stamp facts)) (length facts.tried) none in
        absurd (omega (arith, ltb-true (length facts.tried) policy.k less, fewer, chosen.choices))
    none_left false more none few = (omega (arith, ltb-false (length facts.tried) policy.k more, few), none)

    fetching : (source : Option Target) → next_source policy (candidates policy to.stamp facts) facts ≡ source → length facts.tried < policy.k + lost facts → length facts.sources < policy.k
        → Says (fetch_or from to facts source)
    fetching (Some source) is few short = record { to = to; chosen = chosen; stamp_is = refl; few = few; source_is = is }
    fetching None is few short = by_test (nat_lt (length (closed facts)) (length facts.tried)) refl
      where
        by_test : (b : Bool) → nat_lt (length (closed facts)) (length facts.tried) ≡ b → Says (if b then Wait else ran_out from to facts.gone)
        by_test true less = let fewer = ltb-true (length (closed facts)) (length facts.tried) less in omega (arith, fewer, length-closed)
        by_test false more =
            let all = ltb-false (length (closed facts)) (length facts.tried) more in
            let none = none_left (nat_lt (length facts.tried) policy.k) refl is few in
            ran facts.gone refl none.0 (inr (omega (arith, all, length-closed)))
            (record { enough = chosen.choices; few = short; all_closed = omega (arith, all, length-closed, closed_few); none_free = none.1 })

    fetched : Says (fetch_going policy from to (candidates policy to.stamp facts) facts)
    fetched = by_test (length facts.sources == policy.k) refl
      where
        by_few : (b : Bool) → nat_lt (length facts.tried) (policy.k + lost facts) ≡ b → (length facts.sources == policy.k) ≡ false
            → Says (if b then fetch_or from to facts (next_source policy (candidates policy to.stamp facts) facts) else Wait)
        by_few true less other =
            let few = ltb-true (length facts.tried) (policy.k + lost facts) less in
            fetching (next_source policy (candidates policy to.stamp facts) facts) refl few (grind (arith, nat_tests))
        by_few false more other =
            let all = ltb-false (length facts.tried) (policy.k + lost facts) more in
            grind (arith, nat_tests)

        by_test : (b : Bool) → (length facts.sources == policy.k) ≡ b
            → Says (if b then End (end.Found to.stamp) else if nat_lt (length facts.tried) (policy.k + lost facts) then fetch_or from to facts (next_source policy (candidates policy to.stamp facts) facts) else Wait)
        by_test true enough =
            let k = eqb-true (length facts.sources) policy.k enough in
            (inr (omega (arith, k, tried_few)), record { to = to; chosen = chosen; stamp_is = refl; enough = k })
        by_test false other = by_few (nat_lt (length facts.tried) (policy.k + lost facts)) refl other

  same_to : (to other : Floor) → target_of from facts ≡ Some to → IsChosen policy from facts other → to ≡ other
  same_to to other is chosen = same_Some to other (sym is ∙ chosen.target)

  few : (to : Floor) (choices : List Target) → candidates policy to.stamp facts ≡ choices → target_of from facts ≡ Some to → to.kind ≡ Durable → length (firsts choices) < policy.k
      → Says (few_going from to (length (firsts choices)) facts)
  few to choices these is durable less = by_misses facts.misses refl
    where
      none : AreFetched policy from facts
      none = inl (λ other chosen. let same = same_to to other is chosen in
          let many = subst (λ (floor : Floor). policy.k ≤ length (firsts (candidates policy floor.stamp facts))) (sym same) chosen.choices in
          omega (arith, many, less, ap (λ (xs : List Target). length (firsts xs)) these))

      short : FewListed policy facts to.stamp
      short = subst (λ (these : List Target). length (firsts these) < policy.k) (sym these) less

      by_misses : (misses : List (ℕ × Miss)) → facts.misses ≡ misses → Says (risen_or from to (if is_empty misses then end.TooFew to.stamp (length (firsts choices)) else end.Unanswered))
      by_misses [] missed =
          risen to (end.TooFew to.stamp (length (firsts choices))) none is durable (inl short)
          (λ level. record { level = level; count = ap (λ (xs : List Target). length (firsts xs)) (sym these); few = less; none_missed = missed })
      by_misses (one ∷ others) missed =
          risen to end.Unanswered none is durable (inl short) (λ level. (inr (to.stamp, level, inl short), inr (inl (omega (arith, ap length missed)))))

  choices : (to : Floor) → target_of from facts ≡ Some to → to.kind ≡ Durable → Says (choices_going policy from to (candidates policy to.stamp facts) facts)
  choices to is durable = by_test (nat_lt (length (firsts (candidates policy to.stamp facts))) policy.k) refl
    where
      by_test : (b : Bool) → nat_lt (length (firsts (candidates policy to.stamp facts))) policy.k ≡ b
          → Says (if b then few_going from to (length (firsts (candidates policy to.stamp facts))) facts else fetch_going policy from to (candidates policy to.stamp facts) facts)
      by_test true less = few to (candidates policy to.stamp facts) refl is durable (ltb-true _ policy.k less)
      by_test false more = fetched to (record { target = is; durable = durable; choices = ltb-false _ policy.k more })

  targeted : (to : Floor) (kind : FloorKind) → target_of from facts ≡ Some to → to.kind ≡ kind → Says (target_going policy from to kind facts)
  targeted to Tombstone is kind = (inl (λ other chosen. let same = same_to to other is chosen in absurd (cc (ap (λ (floor : Floor). floor.kind) same, kind, chosen.durable))), is ∙ ap (λ (floor : Floor). Some floor) (of_kind to Tombstone kind))
  targeted to Durable is kind = choices to is kind

  pub asked_says : (target : Option Floor) → target_of from facts ≡ target → Says (asked_going policy from target facts)
  asked_says None is = by_misses (nat_lt (length facts.misses) policy.c) refl
    where
      none : AreFetched policy from facts
      none = inl (λ other chosen. none-some other (sym is ∙ chosen.target))

      by_misses : (b : Bool) → nat_lt (length facts.misses) policy.c ≡ b → Says (End (if b then end.Absent else end.Unanswered))
      by_misses true less = (none, (is, ltb-true (length facts.misses) policy.c less))
      by_misses false more = let many = ltb-false (length facts.misses) policy.c more in (none, (inl (is, many), inl many))
  asked_says (Some to) is = targeted to to.kind is refl

-- ---- the whole

-- every device has answered or was given up
pub record AreAllHeard (devices : Devices) (facts : Facts) : Type 0 where
  pub all_asked : length (all_devices devices) ≤ facts.asked
  pub all_heard : facts.asked ≤ facts.answered

abbrev pub GoingSays : PolicyModel → Devices → Option Floor → Facts → Going → Type 0
GoingSays policy devices from facts (Ask device) = slice_get (all_devices devices) facts.asked ≡ Some device
GoingSays policy devices from facts (Fetch stamp source) = AreAllHeard devices facts × IsNextFetch policy from facts stamp source
GoingSays policy devices from facts Wait = (facts.answered < facts.asked) ⊎ (length facts.sources + lost facts < length facts.tried)
GoingSays policy devices from facts (End ending) = AreAllHeard devices facts × AreFetched policy from facts × EndSays policy from facts ending
GoingSays policy devices from facts (Keep event) = AreAllHeard devices facts × AreFetched policy from facts × KeepSays policy from facts event

module _ (policy : PolicyModel) (devices : Devices) (from : Option Floor) (facts : Facts) (asked_few : facts.asked ≤ length (all_devices devices))
    (tried_few : length facts.tried ≤ policy.k + lost facts) (closed_few : length facts.sources + lost facts ≤ length facts.tried) where
  later : (going : Going) → AreAllHeard devices facts → LaterSays policy from facts going → GoingSays policy devices from facts going
  later (Ask device) heard says = absurd says
  later (Fetch stamp source) heard says = (heard, says)
  later Wait heard says = inr says
  later (End ending) heard says = (heard, says.0, says.1)
  later (Keep event) heard says = (heard, says.0, says.1)

  hand : (device : Option ℕ) → slice_get (all_devices devices) facts.asked ≡ device → GoingSays policy devices from facts (ask_or policy devices from facts device)
  hand (Some device) is = by_wait (nat_lt facts.asked (length devices.handoffs)) (nat_lt facts.answered (length devices.handoffs)) refl refl
    where
      by_wait : (more waits : Bool) → nat_lt facts.asked (length devices.handoffs) ≡ more → nat_lt facts.answered (length devices.handoffs) ≡ waits
          → GoingSays policy devices from facts (if not more && waits then Wait else Ask device)
      by_wait true waits some less = is
      by_wait false true none less =
          let asked = ltb-false facts.asked (length devices.handoffs) none in
          let heard = ltb-true facts.answered (length devices.handoffs) less in
          inl (omega (arith, asked, heard))
      by_wait false false none all = is
  hand None is = by_wait (nat_lt facts.answered facts.asked) refl
    where
      by_wait : (b : Bool) → nat_lt facts.answered facts.asked ≡ b → GoingSays policy devices from facts (if b then Wait else asked_going policy from (target_of from facts) facts)
      by_wait true less = inl (ltb-true facts.answered facts.asked less)
      by_wait false more =
          later (asked_going policy from (target_of from facts) facts)
          (record { all_asked = slice_get_none (all_devices devices) facts.asked is; all_heard = ltb-false facts.answered facts.asked more })
          (asked_says policy from facts tried_few closed_few (target_of from facts) refl)

  pub going_says : GoingSays policy devices from facts (round_going policy devices from facts)
  going_says = hand (slice_get (all_devices devices) facts.asked) refl
