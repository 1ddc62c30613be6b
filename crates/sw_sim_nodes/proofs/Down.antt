-- The devices that are down, without one and with one more.
use Rattle.std.proofs.Common.{◌≡◌, ◌≢◌, ◌⊎◌, inl, inr, ⊎_elim, ℕ, ◌==◌, Bool, true, false, not, ◌&&◌, ◌||◌, List, [], ◌∷◌, ◌++◌, filter, refl, sym, ap, ◌∙◌}
use Rattle.std.proofs.lemmas.Bool.{cases_eq, eq-eqb, ne_eqb}
use Rattle.std.proofs.lemmas.List.Folds.{list_any-append}
use Rattle.sw_ring.specs.Ring.{is_among}

-- one more
pub among_more : (device : ℕ) (down : List ℕ) (other : ℕ) → is_among (down ++ device ∷ []) other ≡ (is_among down other || other == device)
among_more device down other =
    list_any-append (λ (one : ℕ). one == other) down (device ∷ []) ∙ ap (λ (b : Bool). is_among down other || b) (none (device == other) ∙ turned (cases_eq device other))
  where
    none : (a : Bool) → (a || false) ≡ a
    none true = refl
    none false = refl

    turned : (device ≡ other) ⊎ (device ≢ other) → (device == other) ≡ (other == device)
    turned (inl same) = eq-eqb device other same ∙ sym (eq-eqb other device (sym same))
    turned (inr differs) = ne_eqb device other differs ∙ sym (ne_eqb other device (λ same. differs (sym same)))

module _ (device : ℕ) where
  pub among_fewer : (down : List ℕ) (other : ℕ) → is_among (filter (λ (one : ℕ). not (one == device)) down) other ≡ (is_among down other && not (other == device))
  among_fewer [] other = refl
  among_fewer (first ∷ down) other = ⊎_elim
      (λ gone. rw (eq-eqb first device gone) (among_fewer down other ∙ hidden gone (cases_eq other device)))
      (λ stays. rw (ne_eqb first device stays) (ap (λ (rest : Bool). first == other || rest) (among_fewer down other) ∙ shown stays (cases_eq other device)))
      (cases_eq first device)
    where
      hidden : first ≡ device → (other ≡ device) ⊎ (other ≢ device) → (is_among down other && not (other == device)) ≡ ((first == other || is_among down other) && not (other == device))
      hidden gone (inl same) = rw (eq-eqb other device same) (none (is_among down other) ∙ sym (none (first == other || is_among down other)))
        where
          none : (a : Bool) → (a && not true) ≡ false
          none true = refl
          none false = refl
      hidden gone (inr differs) = rw (ne_eqb first other (λ is. differs (sym is ∙ gone))) refl

      shown : first ≢ device → (other ≡ device) ⊎ (other ≢ device) → (first == other || (is_among down other && not (other == device))) ≡ ((first == other || is_among down other) && not (other == device))
      shown stays (inl same) = rw (ne_eqb first other (λ is. stays (is ∙ same))) refl
      shown stays (inr differs) = rw (ne_eqb other device differs) (kept (first == other) (is_among down other))
        where
          kept : (a b : Bool) → (a || (b && not false)) ≡ ((a || b) && not false)
          kept true b = refl
          kept false b = refl
