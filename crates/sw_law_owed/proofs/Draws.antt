-- Stamps rise as long as none is drawn, and as one is drawn that is above all.
use Rattle.std.proofs.Common.{◌≡◌, ◌⊎◌, inl, inr, ⊎_elim, ℕ, ◌<◌, ◌≤◌, false, true, Contains, List, [], ◌∷◌, ◌++◌, map, Option, Some, None, refl, sym, ap, subst, ◌∙◌, arith}
use Rattle.std.proofs.lemmas.List.Elements.{Contains-append_cases, Contains-append_left, Contains-append_right}
use Rattle.sw_types.specs.Name.{NameModel}
use Rattle.sw_types.specs.Object.{ObjectModel}
use Rattle.sw_diskfile.proofs.Lists.{Contains-map, mapped}
use Rattle.sw_message.specs.declared.sent.Sent.{Sent}
use Rattle.sw_law_scene.specs.Moves.{books, marks, next_stamp, sends}
use Rattle.sw_law_scene.specs.Scene.{Scene, StartedDelete, StartedPut}
use Rattle.sw_law_scene.specs.Sound.{IsDrawn, IsSoundScene}
use Rattle.sw_law_scene.proofs.Growth.{mapped-cases}
use Rattle.sw_law_owed.specs.Decided.{Draw, Rise, draws_of}

-- where none is drawn
pub still_rise : (before after : Scene) → draws_of after ≡ draws_of before → before.now ≤ after.now → Rise before → Rise after
still_rise before after same later is = record {
  rise = λ one other first second. is.rise one other (old one first) (old other second);
  same = λ one other first second. is.same one other (old one first) (old other second);
  before = λ one has. omega (arith, is.before one (old one has), later);
}
  where
    old : (one : Draw) → Contains (draws_of after) one → Contains (draws_of before) one
    old one has = subst (λ draws. Contains draws one) same has

-- ---- one more

module _ (before after : Scene) (new : Draw) (above : (one : Draw) → Contains (draws_of before) one → one.stamp < new.stamp) (starts : new.start ≡ before.now) (later : before.now < after.now) (is : Rise before) where
  -- a draw was drawn before, or it is the new one
  abbrev Either : Draw → Type 0
  Either one = Contains (draws_of before) one ⊎ (new ≡ one)

  rise_by : (one other : Draw) → Either one → Either other → one.stamp < other.stamp → one.start < other.start
  rise_by one other (inl first) (inl second) less = is.rise one other first second less
  rise_by one other (inl first) (inr second) less = omega (arith, is.before one first, starts, ap (λ (draw : Draw). draw.start) second)
  rise_by one other (inr first) (inl second) less = absurd (omega (arith, less, above other second, ap (λ (draw : Draw). draw.stamp) first))
  rise_by one other (inr first) (inr second) less = absurd (omega (arith, less, ap (λ (draw : Draw). draw.stamp) first, ap (λ (draw : Draw). draw.stamp) second))

  same_by : (one other : Draw) → Either one → Either other → one.stamp ≡ other.stamp → one ≡ other
  same_by one other (inl first) (inl second) same = is.same one other first second same
  same_by one other (inl first) (inr second) same = absurd (omega (arith, same, above one first, ap (λ (draw : Draw). draw.stamp) second))
  same_by one other (inr first) (inl second) same = absurd (omega (arith, same, above other second, ap (λ (draw : Draw). draw.stamp) first))
  same_by one other (inr first) (inr second) same = sym first ∙ second

  before_by : (one : Draw) → Either one → one.start < after.now
  before_by one (inl old) = omega (arith, is.before one old, later)
  before_by one (inr same) = omega (arith, starts, later, ap (λ (draw : Draw). draw.start) same)

  drawn_rise : ((one : Draw) → Contains (draws_of after) one → Either one) → Rise after
  drawn_rise cases = record {
    rise = λ one other first second. rise_by one other (cases one first) (cases other second);
    same = λ one other first second. same_by one other (cases one first) (cases other second);
    before = λ one has. before_by one (cases one has);
  }

-- ---- the stamps of a scene

-- the draw of a put
abbrev pub put_draw : StartedPut → Draw
put_draw put = record { stamp = put.booked.stamp; start = put.start; name = put.booked.name; is_delete = false }

-- the draw of a delete
abbrev pub delete_draw : StartedDelete → Draw
delete_draw delete = record { stamp = delete.marked.stamp; start = delete.start; name = delete.marked.name; is_delete = true }

module _ (scene : Scene) where
  -- that of each put is among them
  pub put_drawn : (put : StartedPut) → Contains scene.book put → Contains (draws_of scene) (put_draw put)
  put_drawn put has = Contains-append_left (map put_draw scene.book) (map delete_draw scene.marks) (put_draw put) (Contains-map put_draw scene.book put has)

  -- and that of each delete
  pub delete_drawn : (delete : StartedDelete) → Contains scene.marks delete → Contains (draws_of scene) (delete_draw delete)
  delete_drawn delete has = Contains-append_right (map put_draw scene.book) (map delete_draw scene.marks) (delete_draw delete) (Contains-map delete_draw scene.marks delete has)

  module _ (sound : IsSoundScene scene) (clock : ℕ) where
    -- the next one
    abbrev next : ℕ
    next = next_stamp clock scene.last

    -- is above what was drawn
    above_drawn : (stamp : ℕ) (last : Option ℕ) → IsDrawn last stamp → stamp < next_stamp clock last
    above_drawn stamp None drawn = absurd drawn
    above_drawn stamp (Some last) drawn = omega (arith, drawn)

    above_all : (one : Draw) → Contains (draws_of scene) one → one.stamp < next
    above_all one has = ⊎_elim
        (λ of_put.
        let from = mapped put_draw scene.book one of_put in
        let less = above_drawn from.0.booked.stamp scene.last (sound.booked from.0.booked (Contains-map (λ (put : StartedPut). put.booked) scene.book from.0 from.1)) in
        omega (arith, less, ap (λ (draw : Draw). draw.stamp) from.2))
        (λ of_delete.
        let from = mapped delete_draw scene.marks one of_delete in
        let less = above_drawn from.0.marked.stamp scene.last (sound.marked from.0.marked (Contains-map (λ (delete : StartedDelete). delete.marked) scene.marks from.0 from.1)) in
        omega (arith, less, ap (λ (draw : Draw). draw.stamp) from.2))
        (Contains-append_cases (map put_draw scene.book) (map delete_draw scene.marks) one has)

    module _ (name : NameModel) (is : Rise scene) (number : ℕ) (sents : List Sent) where
      -- as a put starts, and hands out its first messages
      pub books_rise : (object : ObjectModel) → Rise (sends number sents (books next name object scene))
      books_rise object = drawn_rise scene (sends number sents (books next name object scene)) (put_draw new) above_all refl (omega arith) is cases
        where
          new : StartedPut
          new = record { booked = record { stamp = next; name = name; object = object }; start = scene.now }

          cases : (one : Draw) → Contains (draws_of (books next name object scene)) one → Contains (draws_of scene) one ⊎ (put_draw new ≡ one)
          cases one has = ⊎_elim
              (λ of_put. ⊎_elim
              (λ old. inl (Contains-append_left (map put_draw scene.book) (map delete_draw scene.marks) one old))
              (λ same. inr same)
              (mapped-cases put_draw scene.book new one of_put))
              (λ of_delete. inl (Contains-append_right (map put_draw scene.book) (map delete_draw scene.marks) one of_delete))
              (Contains-append_cases (map put_draw (scene.book ++ new ∷ [])) (map delete_draw scene.marks) one has)

      -- as a delete does
      pub marks_rise : Rise (sends number sents (marks next name scene))
      marks_rise = drawn_rise scene (sends number sents (marks next name scene)) (delete_draw new) above_all refl (omega arith) is cases
        where
          new : StartedDelete
          new = record { marked = record { stamp = next; name = name }; start = scene.now }

          cases : (one : Draw) → Contains (draws_of (marks next name scene)) one → Contains (draws_of scene) one ⊎ (delete_draw new ≡ one)
          cases one has = ⊎_elim
              (λ of_put. inl (Contains-append_left (map put_draw scene.book) (map delete_draw scene.marks) one of_put))
              (λ of_delete. ⊎_elim
              (λ old. inl (Contains-append_right (map put_draw scene.book) (map delete_draw scene.marks) one old))
              (λ same. inr same)
              (mapped-cases delete_draw scene.marks new one of_delete))
              (Contains-append_cases (map put_draw scene.book) (map delete_draw (scene.marks ++ new ∷ [])) one has)
