-- There is room for what is added, and what joins is what the definitions say.
use Rattle.std.proofs.Common.{◌≡◌, ◌++◌, ◌∷◌, [], Result, Ok, Err, sym, ap, subst, ◌∙◌, arith}
use Rattle.std.specs.Prelude.{MatchResult, OnErr}
use Rattle.std.proofs.lemmas.Result.{IfOk-weaker}
use Rattle.sw_archive.specs.Assemble.{IsNext}
use Rattle.sw_gather.specs.Gathered.{GatheredModel, Joins, Settles}
use Rattle.sw_gather.proofs.Joins.{HaveRoom, beside_few, joins, left, room_for, room_grown, room_more}
use Rattle.sw_gather.proofs.gathered.Gathered.join.Goals as goal

-- what comes of a call that goes well
added_is : {A B : Type 0} (P : A → Type 0) (Q : B → Type 0) (result : Result A B) (value : A) → result ≡ Ok value → MatchResult result P Q → P value
added_is P Q (Ok given) value is found = let same : given ≡ value = cc in subst P same found
added_is P Q (Err other) value is found = absurd (cc)

pub add-requires : goal.add-requires
add-requires c = record {
  room = room_for c.reserve.new.self.archives c.args.archive c.reserve.new.self.room
      (subst (HaveRoom c.reserve.new.self.room) (sym c.in_ok-reserve.ensures.archives)
      (room_more c.self.inside.archives.room c.reserve.new.self.room c.self.inside.archives.archives c.in_ok-reserve.ensures.kept c.self.invariant))
      (omega (arith, c.requires, c.k.ensures, c.in_ok-reserve.ensures.room));
}

pub invariant_of-self-then-not-is_enough : goal.invariant_of-self-then-not-is_enough
invariant_of-self-then-not-is_enough c =
    room_grown c.self.inside.archives.room c.reserve.new.self.room c.add.new.self.room c.self.inside.archives.archives c.reserve.new.self.archives c.add.new.self.archives c.args.archive
    c.in_ok-reserve.ensures.kept c.add.ensures.room c.in_ok-reserve.ensures.archives (added_is _ _ c.add.result c.unwrap.result c.unwrap.ensures c.add.ensures.added).1 (omega (arith, c.requires, c.k.ensures, c.in_ok-reserve.ensures.room)) c.self.invariant

pub returns-then-not-is_enough-clause-joined : goal.returns-then-not-is_enough-clause-joined
returns-then-not-is_enough-clause-joined c =
    let added = added_is _ _ c.add.result c.unwrap.result c.unwrap.ensures c.add.ensures.added in
    let same = c.in_ok-reserve.ensures.archives ∙ ap (λ (gathered : GatheredModel). gathered.archives) c.self.view_is in
    beside_few c.args.policy.now c.args.self.now c.args.archive (subst (λ archives. IsNext archives c.args.archive) same added.0) c.requires _
    (added.1 ∙ ap (λ archives. archives ++ c.args.archive ∷ []) same) (λ enough. let yes = c.if-not-is_enough.ensures.1 enough in cc)

pub invariant_of-self-2 : goal.invariant_of-self-2
invariant_of-self-2 c =
    room_grown c.self.inside.archives.room c.reserve.new.self.room c.add.new.self.room c.self.inside.archives.archives c.reserve.new.self.archives c.add.new.self.archives c.args.archive
    c.in_ok-reserve.ensures.kept c.add.ensures.room c.in_ok-reserve.ensures.archives (added_is _ _ c.add.result c.unwrap.result c.unwrap.ensures c.add.ensures.added).1 (omega (arith, c.requires, c.k.ensures, c.in_ok-reserve.ensures.room)) c.self.invariant

pub returns-clause-joined : goal.returns-clause-joined
returns-clause-joined c =
    let added = added_is _ _ c.add.result c.unwrap.result c.unwrap.ensures c.add.ensures.added in
    let same = c.in_ok-reserve.ensures.archives ∙ ap (λ (gathered : GatheredModel). gathered.archives) c.self.view_is in
    let middle : GatheredModel = record { archives = c.add.new.self.archives; object = c.self.inside.object } in
    IfOk-weaker c.settle.result (λ settled. Settles middle settled c.settle.new.self) (λ joined. Joins c.args.policy.now c.args.self.now c.args.archive joined c.settle.new.self)
    (joins c.args.policy.now c.args.self.now c.args.archive (subst (λ archives. IsNext archives c.args.archive) same added.0) c.requires middle c.settle.new.self
    (added.1 ∙ ap (λ archives. archives ++ c.args.archive ∷ []) same) (ap (λ (gathered : GatheredModel). gathered.object) c.self.view_is) (c.is_enough.ensures.0 c.if-not-is_enough.false))
    c.settle.ensures.settled

err_weaker : {X Y : Type 0} (r : Result X Y) (P Q : Type 0) → (P → Q) → OnErr r P → OnErr r Q
err_weaker (Ok x) P Q goes is = is
err_weaker (Err y) P Q goes is = goes is

pub returns-clause-refused : goal.returns-clause-refused
returns-clause-refused c =
    let added = added_is _ _ c.add.result c.unwrap.result c.unwrap.ensures c.add.ensures.added in
    let same = c.in_ok-reserve.ensures.archives ∙ ap (λ (gathered : GatheredModel). gathered.archives) c.self.view_is in
    let middle : GatheredModel = record { archives = c.add.new.self.archives; object = c.self.inside.object } in
    err_weaker c.settle.result _ (c.settle.new.self ≡ c.args.self.now)
    (left c.args.policy.now c.args.self.now c.args.archive (subst (λ archives. IsNext archives c.args.archive) same added.0) c.requires middle c.settle.new.self
    (added.1 ∙ ap (λ archives. archives ++ c.args.archive ∷ []) same) (ap (λ (gathered : GatheredModel). gathered.object) c.self.view_is))
    c.settle.ensures.refused
