-- What one answer more changes in what answers say.
use Rattle.std.specs.Prelude.{◌≡◌, ℕ, ◌+◌, ◌≤◌, List, [], ◌∷◌, ◌++◌, flat_map, length, Contains, Option, Some}
use Rattle.std.specs.List.{All, sum_by}
use Rattle.std.proofs.Common.{append-nil, ap, arith, refl, subst, sym, ◌∙◌}
use Rattle.std.proofs.lemmas.Grind.{flat_map-append}
use Rattle.std.proofs.lemmas.List.{length-append, nil_from_length}
use Rattle.std.proofs.lemmas.List.Elements.{All-append, All-cons, All-nil, All-same, Contains-append_left}
use Rattle.std.proofs.lemmas.List.Sums.{sum_by-append, sum_by-cons}
use Rattle.sw_hashdir.specs.declared.floor.Floor.{Floor}
use Rattle.sw_message.proofs.FloorLaws.{highest-snoc}
use Rattle.sw_message.specs.Floors.{higher, highest}
use Rattle.sw_message.specs.declared.miss.Miss.{Miss}
use Rattle.sw_quorum.specs.Answers.{Judged, done, done_in, floors, floors_from, missed, missed_in}
use Rattle.sw_quorum.specs.Tally.{Counts, IsWithin, counts_of}
use Rattle.sw_quorum.specs.declared.verdict.Verdict.{Verdict}
use Rattle.sw_quorum.specs.declared.verdict.Verdict.TheVariants.{Done, Forbidden, Missed}

abbrev pub judged : {T : Type 0} → T → Verdict → Judged T
judged about verdict = record { about = about; verdict = verdict }

-- counts, with one answer more
abbrev pub with_answer : {T : Type 0} → Counts T → T → Verdict → Counts T
with_answer counts about Done = record { done = counts.done ++ about ∷ []; floor = counts.floor; missed = counts.missed; answered = counts.answered + 1 }
with_answer counts about (Forbidden floor) = record { done = counts.done; floor = Some (higher counts.floor floor); missed = counts.missed; answered = counts.answered + 1 }
with_answer counts about (Missed miss) = record { done = counts.done; floor = counts.floor; missed = counts.missed ++ (about, miss) ∷ []; answered = counts.answered + 1 }

same_counts : {T : Type 0} (a b : Counts T) → a.done ≡ b.done → a.floor ≡ b.floor → a.missed ≡ b.missed → a.answered ≡ b.answered → a ≡ b
same_counts {T} a b done floor missed answered =
    ap (λ (d : List T). record { done = d; floor = a.floor; missed = a.missed; answered = a.answered }) done
    ∙ ap (λ (f : Option Floor). record { done = b.done; floor = f; missed = a.missed; answered = a.answered }) floor
    ∙ ap (λ (m : List (T × Miss)). record { done = b.done; floor = b.floor; missed = m; answered = a.answered }) missed
    ∙ ap (λ (n : ℕ). record { done = b.done; floor = b.floor; missed = b.missed; answered = n }) answered

module _ {T : Type 0} (answers : List (Judged T)) where
  pub done-more : (about : T) (verdict : Verdict) → done (answers ++ judged about verdict ∷ []) ≡ done answers ++ done_in about verdict
  done-more about verdict =
      flat_map-append (λ (one : Judged T). done_in one.about one.verdict) answers (judged about verdict ∷ [])
      ∙ ap (λ these. done answers ++ these) (append-nil (done_in about verdict))

  pub floors-more : (about : T) (verdict : Verdict) → floors (answers ++ judged about verdict ∷ []) ≡ floors answers ++ floors_from verdict
  floors-more about verdict =
      flat_map-append (λ (one : Judged T). floors_from one.verdict) answers (judged about verdict ∷ [])
      ∙ ap (λ these. floors answers ++ these) (append-nil (floors_from verdict))

  pub missed-more : (about : T) (verdict : Verdict) → missed (answers ++ judged about verdict ∷ []) ≡ missed answers ++ missed_in about verdict
  missed-more about verdict =
      flat_map-append (λ (one : Judged T). missed_in one.about one.verdict) answers (judged about verdict ∷ [])
      ∙ ap (λ these. missed answers ++ these) (append-nil (missed_in about verdict))

  pub counts-more : (about : T) (verdict : Verdict) → counts_of (answers ++ judged about verdict ∷ []) ≡ with_answer (counts_of answers) about verdict
  counts-more about Done = same_counts _ _
      (done-more about Done)
      (ap highest (floors-more about Done ∙ append-nil (floors answers)))
      (missed-more about Done ∙ append-nil (missed answers))
      (length-append answers (judged about Done ∷ []))
  counts-more about (Forbidden floor) = same_counts _ _
      (done-more about (Forbidden floor) ∙ append-nil (done answers))
      (ap highest (floors-more about (Forbidden floor)) ∙ highest-snoc (floors answers) floor)
      (missed-more about (Forbidden floor) ∙ append-nil (missed answers))
      (length-append answers (judged about (Forbidden floor) ∷ []))
  counts-more about (Missed miss) = same_counts _ _
      (done-more about (Missed miss) ∙ append-nil (done answers))
      (ap highest (floors-more about (Missed miss) ∙ append-nil (floors answers)))
      (missed-more about (Missed miss))
      (length-append answers (judged about (Missed miss) ∷ []))

one_done : {T : Type 0} (about : T) (verdict : Verdict) → length (done_in about verdict) ≤ 1
one_done about Done = omega arith
one_done about (Forbidden floor) = omega arith
one_done about (Missed miss) = omega arith

one_missed : {T : Type 0} (about : T) (verdict : Verdict) → length (missed_in about verdict) ≤ 1
one_missed about Done = omega arith
one_missed about (Forbidden floor) = omega arith
one_missed about (Missed miss) = omega arith

-- there is at most one for each answer
pub counts-within : {T : Type 0} (answers : List (Judged T)) → IsWithin (counts_of answers)
counts-within [] = record { done = omega arith; missed = omega arith }
counts-within (one ∷ others) =
    let before = counts-within others in
    record {
      done = omega (arith, before.done, length-append (done_in one.about one.verdict) (done others), one_done one.about one.verdict);
      missed = omega (arith, before.missed, length-append (missed_in one.about one.verdict) (missed others), one_missed one.about one.verdict);
    }

-- misses only become more
pub missed-grows : {T : Type 0} (answers more : List (Judged T)) → length (missed answers) ≤ length (missed (answers ++ more))
missed-grows {T} answers more =
    omega (arith, ap length (flat_map-append (λ (one : Judged T). missed_in one.about one.verdict) answers more), length-append (missed answers) (missed more))

-- ---- however they are counted

pub sum-ones : {A : Type 0} (xs : List A) → sum_by (λ x. 1) xs ≡ length xs
sum-ones [] = refl
sum-ones (x ∷ xs) = omega (arith, sum_by-cons (λ x. 1) x xs, sum-ones xs)

abbrev pub forbidden_in : {T : Type 0} → T → Verdict → List T
forbidden_in about Done = []
forbidden_in about (Forbidden floor) = about ∷ []
forbidden_in about (Missed miss) = []

-- what a floor forbids
abbrev pub forbidden : {T : Type 0} → List (Judged T) → List T
forbidden {T} judged = flat_map (λ (one : Judged T). forbidden_in one.about one.verdict) judged

module _ {T : Type 0} (w : T → ℕ) where
  parts_of : (about : T) (verdict : Verdict) → sum_by w (done_in about verdict) + sum_by (λ (one : T × Miss). w one.0) (missed_in about verdict) + sum_by w (forbidden_in about verdict) ≡ w about
  parts_of about Done = omega (arith, sum_by-cons w about [])
  parts_of about (Forbidden floor) = omega (arith, sum_by-cons w about [])
  parts_of about (Missed miss) = omega (arith, sum_by-cons (λ (one : T × Miss). w one.0) (about, miss) [])

  -- each answer says that its write was done, missed or forbidden
  pub parts : (judged : List (Judged T)) → sum_by w (done judged) + sum_by (λ (one : T × Miss). w one.0) (missed judged) + sum_by w (forbidden judged) ≡ sum_by (λ (one : Judged T). w one.about) judged
  parts [] = refl
  parts (one ∷ others) =
      omega (
        arith,
        parts others,
        parts_of one.about one.verdict,
        sum_by-cons (λ (one : Judged T). w one.about) one others,
        sum_by-append w (done_in one.about one.verdict) (done others),
        sum_by-append (λ (one : T × Miss). w one.0) (missed_in one.about one.verdict) (missed others),
        sum_by-append w (forbidden_in one.about one.verdict) (forbidden others),
      )

-- ---- what holds of each

floors-of : (P : Floor → Type 0) (verdict : Verdict) → ((floor : Floor) → verdict ≡ Forbidden floor → P floor) → All P (floors_from verdict)
floors-of P Done holds = All-nil P
floors-of P (Forbidden floor) holds = All-cons P floor [] (holds floor refl) (All-nil P)
floors-of P (Missed miss) holds = All-nil P

module _ {T : Type 0} where
  done-of : (P : T → Type 0) (about : T) (verdict : Verdict) → (verdict ≡ Done → P about) → All P (done_in about verdict)
  done-of P about Done holds = All-cons P about [] (holds refl) (All-nil P)
  done-of P about (Forbidden floor) holds = All-nil P
  done-of P about (Missed miss) holds = All-nil P

  pub done-each : (P : T → Type 0) (answers : List (Judged T)) (about : T) (verdict : Verdict) → (verdict ≡ Done → P about) → All P (done answers) → All P (done (answers ++ judged about verdict ∷ []))
  done-each P answers about verdict holds all = All-same P _ _ (done-more answers about verdict) (All-append P (done answers) (done_in about verdict) all (done-of P about verdict holds))

  missed-of : (P : T × Miss → Type 0) (about : T) (verdict : Verdict) → ((miss : Miss) → verdict ≡ Missed miss → P (about, miss)) → All P (missed_in about verdict)
  missed-of P about Done holds = All-nil P
  missed-of P about (Forbidden floor) holds = All-nil P
  missed-of P about (Missed miss) holds = All-cons P (about, miss) [] (holds miss refl) (All-nil P)

  pub missed-each : (P : T × Miss → Type 0) (answers : List (Judged T)) (about : T) (verdict : Verdict) → ((miss : Miss) → verdict ≡ Missed miss → P (about, miss)) → All P (missed answers)
      → All P (missed (answers ++ judged about verdict ∷ []))
  missed-each P answers about verdict holds all = All-same P _ _ (missed-more answers about verdict) (All-append P (missed answers) (missed_in about verdict) all (missed-of P about verdict holds))

  pub floors-each : (P : Floor → Type 0) (answers : List (Judged T)) (about : T) (verdict : Verdict) → ((floor : Floor) → verdict ≡ Forbidden floor → P floor) → All P (floors answers)
      → All P (floors (answers ++ judged about verdict ∷ []))
  floors-each P answers about verdict holds all = All-same P _ _ (floors-more answers about verdict) (All-append P (floors answers) (floors_from verdict) all (floors-of P verdict holds))

  -- a floor stays among those that were told of
  pub floor-stays : (answers more : List (Judged T)) (floor : Floor) → Contains (floors answers) floor → Contains (floors (answers ++ more)) floor
  floor-stays answers more floor has =
      subst (λ these. Contains these floor) (sym (flat_map-append (λ (one : Judged T). floors_from one.verdict) answers more))
      (Contains-append_left (floors answers) (floors more) floor has)

  one_forbidden : (about : T) (verdict : Verdict) → length (forbidden_in about verdict) ≡ length (floors_from verdict)
  one_forbidden about Done = refl
  one_forbidden about (Forbidden floor) = refl
  one_forbidden about (Missed miss) = refl

  length-forbidden : (answers : List (Judged T)) → length (forbidden answers) ≡ length (floors answers)
  length-forbidden [] = refl
  length-forbidden (one ∷ others) =
      omega (
        arith,
        length-forbidden others,
        one_forbidden one.about one.verdict,
        length-append (forbidden_in one.about one.verdict) (forbidden others),
        length-append (floors_from one.verdict) (floors others),
      )

  -- without floors nothing is forbidden
  pub none-forbidden : (answers : List (Judged T)) → floors answers ≡ [] → forbidden answers ≡ []
  none-forbidden answers none = nil_from_length (forbidden answers) (length-forbidden answers ∙ ap length none)
