use Rattle.std.proofs.Common.{◌≡◌, ◌&&◌, nat_eq, None, Some, inl, inr, subst, sym, ap, ◌∙◌}
use Rattle.std.specs.BTreeMap.{is_at}
use Rattle.std.specs.List.{All}
use Rattle.sw_hashpath.specs.Place.{IsPlace}
use Rattle.sw_suffix.specs.Entries.{AreSound, IsKey, floors_of, key_cmp, key_place}
use Rattle.sw_suffix.specs.Suffix.{suffix_number}
use Rattle.sw_suffix.specs.Table.{in_suffix}
use Rattle.sw_suffix.proofs.Changes.{All-insert, All-remove, filter-insert, filter-remove, is_set, no_floor}
use Rattle.sw_suffix.proofs.Keys.{in_another}
use Rattle.sw_suffix.proofs.floors.put.Goals as goal

pub returns-in_err-insert-in-Some-clause-no_memory : goal.returns-in_err-insert-in-Some-clause-no_memory
returns-in_err-insert-in-Some-clause-no_memory c = λ without. elim without [
  | inl none ↦ absurd (never c.in-Some.floor (sym c.in-Some.is ∙ none))
  | inr there ↦ absurd (there (no_floor c.args.floors.now.entries c.args.key c.requires.key c.requires.sound c.in_err-insert-in-Some.ensures.absent))
]
  where
    never : {A : Type 0} → (x : A) → Some x ≡ None → ⊥
    never x is = cc

pub returns-in_ok-insert-in-Some-clause-sound : goal.returns-in_ok-insert-in-Some-clause-sound
returns-in_ok-insert-in-Some-clause-sound c =
    subst (λ es. AreSound es) (sym c.in_ok-insert-in-Some.ensures.entries) (All-insert IsKey c.args.floors.now.entries c.args.key c.in-Some.floor c.requires.key c.requires.sound)

pub returns-in_ok-insert-in-Some-clause-right : goal.returns-in_ok-insert-in-Some-clause-right
returns-in_ok-insert-in-Some-clause-right c = λ power right here.
    subst (λ es. All (λ e. IsPlace power (key_place e.0)) es) (sym c.in_ok-insert-in-Some.ensures.entries) (All-insert (λ key. IsPlace power (key_place key)) c.args.floors.now.entries c.args.key c.in-Some.floor here right)

pub returns-in_ok-insert-in-Some-clause-set : goal.returns-in_ok-insert-in-Some-clause-set
returns-in_ok-insert-in-Some-clause-set c =
    let sound : AreSound c.insert.new.self.entries = subst (λ es. AreSound es) (sym c.in_ok-insert-in-Some.ensures.entries) (All-insert IsKey c.args.floors.now.entries c.args.key c.in-Some.floor c.requires.key c.requires.sound) in
    is_set c.args.floors.now.entries c.insert.new.self.entries c.args.key c.args.floor c.requires.key c.requires.sound sound
    (c.in_ok-insert-in-Some.ensures.updates.1 ∙ sym c.in-Some.is) c.in_ok-insert-in-Some.ensures.updates.2

pub returns-in_ok-insert-in-Some-clause-others : goal.returns-in_ok-insert-in-Some-clause-others
returns-in_ok-insert-in-Some-clause-others c = λ part suffix apart.
    ap (λ es. in_suffix part suffix (floors_of es)) c.in_ok-insert-in-Some.ensures.entries
    ∙ filter-insert (λ floor. nat_eq floor.0.part part && nat_eq (suffix_number floor.0.hash) suffix) c.args.key (λ floor. in_another c.args.key c.requires.key part suffix apart) c.args.floors.now.entries c.in-Some.floor

pub returns-in-None-clause-sound : goal.returns-in-None-clause-sound
returns-in-None-clause-sound c =
    subst (λ es. AreSound es) (sym c.remove.ensures.entries) (All-remove IsKey c.args.floors.now.entries (is_at (key_cmp c.args.key)) c.requires.sound)

pub returns-in-None-clause-right : goal.returns-in-None-clause-right
returns-in-None-clause-right c = λ power right here.
    subst (λ es. All (λ e. IsPlace power (key_place e.0)) es) (sym c.remove.ensures.entries) (All-remove (λ key. IsPlace power (key_place key)) c.args.floors.now.entries (is_at (key_cmp c.args.key)) right)

pub returns-in-None-clause-set : goal.returns-in-None-clause-set
returns-in-None-clause-set c =
    let sound : AreSound c.remove.new.self.entries = subst (λ es. AreSound es) (sym c.remove.ensures.entries) (All-remove IsKey c.args.floors.now.entries (is_at (key_cmp c.args.key)) c.requires.sound) in
    is_set c.args.floors.now.entries c.remove.new.self.entries c.args.key c.args.floor c.requires.key c.requires.sound sound
    (c.remove.ensures.updates.1 ∙ sym c.in-None.is) c.remove.ensures.updates.2

pub returns-in-None-clause-others : goal.returns-in-None-clause-others
returns-in-None-clause-others c = λ part suffix apart.
    ap (λ es. in_suffix part suffix (floors_of es)) c.remove.ensures.entries
    ∙ filter-remove (λ floor. nat_eq floor.0.part part && nat_eq (suffix_number floor.0.hash) suffix) c.args.key (λ floor. in_another c.args.key c.requires.key part suffix apart) c.args.floors.now.entries
