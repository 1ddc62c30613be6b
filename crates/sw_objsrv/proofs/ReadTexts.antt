-- What is read from texts, one after the other.
use Rattle.std.proofs.Common.{◌≡◌, ◌↔◌, inl, inr, ℕ, ◌+◌, ◌<◌, ◌≤◌, List, [], ◌∷◌, ◌++◌, Contains, length, get_or, map, take, sym, ap, subst, ◌∙◌, arith}
use Rattle.std.proofs.lemmas.List.{map-append, take_all, take_more}
use Rattle.std.proofs.lemmas.List.Elements.{Contains-append_left, Contains-push, Contains-push_cases}

-- those of a kind whose texts are among these
pub record AreRead {T Y : Type 0} (Is : Y → Type 0) (text_of : Y → T) (texts : List T) (read : List Y) : Type 0 where
  pub all : (y : Y) → Contains read y ↔ (Is y × Contains texts (text_of y))

module _ {T Y : Type 0} (Is : Y → Type 0) (text_of : Y → T) where
  pub read_none : AreRead Is text_of [] []
  read_none = record { all = λ y. (λ has. absurd (omega (arith, has.1)), λ has. absurd (omega (arith, has.1.1))) }

  -- the next text gives one
  read_more : (texts : List T) (read : List Y) (text : T) (y : Y) → Is y → text ≡ text_of y → ((other : Y) → Is other → text ≡ text_of other → other ≡ y) → AreRead Is text_of texts read → AreRead Is text_of (texts ++ text ∷ []) (read ++ y ∷ [])
  read_more texts read text y is spelled one so_far = record {
    all = λ other. (
      λ has. elim (Contains-push_cases read y other has) [
        | inl before ↦ let both = (so_far.all other).0 before in (both.0, Contains-append_left texts (text ∷ []) (text_of other) both.1)
        | inr same ↦ (subst Is same is, subst (Contains (texts ++ text ∷ [])) (spelled ∙ ap text_of same) (Contains-push texts text))
      ],
      λ both. elim (Contains-push_cases texts text (text_of other) both.1) [
        | inl before ↦ Contains-append_left read (y ∷ []) other ((so_far.all other).1 (both.0, before))
        | inr same ↦ subst (Contains (read ++ y ∷ [])) (sym (one other both.0 same)) (Contains-push read y)
      ],
    );
  }

  -- the next text gives none
  read_same : (texts : List T) (read : List Y) (text : T) → ((y : Y) → Is y → text ≡ text_of y → ⊥) → AreRead Is text_of texts read → AreRead Is text_of (texts ++ text ∷ []) read
  read_same texts read text none so_far = record {
    all = λ other. (
      λ has. let both = (so_far.all other).0 has in (both.0, Contains-append_left texts (text ∷ []) (text_of other) both.1),
      λ both. elim (Contains-push_cases texts text (text_of other) both.1) [
        | inl before ↦ (so_far.all other).1 (both.0, before)
        | inr same ↦ absurd (none other both.0 same)
      ],
    );
  }

  -- ---- a loop over what has the texts

  module _ {X : Type 0} (text_in : X → T) (xs : List X) where
    next : (n : ℕ) (x : X) → n < length xs → x ≡ get_or xs n x → map text_in (take n xs) ++ text_in x ∷ [] ≡ map text_in (take (n + 1) xs)
    next n x within is = sym (ap (map text_in) (take_more xs n x within ∙ ap (λ y. take n xs ++ y ∷ []) (sym is)) ∙ map-append text_in (take n xs) (x ∷ []))

    module _ (n : ℕ) (x : X) (within : n < length xs) (is : x ≡ get_or xs n x) (read : List Y) (so_far : AreRead Is text_of (map text_in (take n xs)) read) where
      pub read_here : (after : List Y) (y : Y) → after ≡ read ++ y ∷ [] → Is y → text_in x ≡ text_of y → ((other : Y) → Is other → text_in x ≡ text_of other → other ≡ y) → AreRead Is text_of (map text_in (take (n + 1) xs)) after
      read_here after y pushed holds spelled one =
          subst (λ texts. AreRead Is text_of texts after) (next n x within is)
          (subst (AreRead Is text_of (map text_in (take n xs) ++ text_in x ∷ [])) (sym pushed) (read_more (map text_in (take n xs)) read (text_in x) y holds spelled one so_far))

      pub read_past : (after : List Y) → after ≡ read → ((y : Y) → Is y → text_in x ≡ text_of y → ⊥) → AreRead Is text_of (map text_in (take (n + 1) xs)) after
      read_past after same none =
          subst (λ texts. AreRead Is text_of texts after) (next n x within is)
          (subst (AreRead Is text_of (map text_in (take n xs) ++ text_in x ∷ [])) (sym same) (read_same (map text_in (take n xs)) read (text_in x) none so_far))

    -- and its end
    pub read_whole : (n : ℕ) (read : List Y) → length xs ≤ n → AreRead Is text_of (map text_in (take n xs)) read → AreRead Is text_of (map text_in xs) read
    read_whole n read past so_far = subst (λ ys. AreRead Is text_of (map text_in ys) read) (take_all n xs past) so_far
