-- Lists of suffixes with their hashes, and the first hash of each.
use Rattle.std.proofs.Common.{◌≡◌, ℕ, ◌+◌, ◌<◌, true, false, cond, nat_eq, Option, Some, None, List, [], ◌∷◌, ◌++◌, length, get_or, take, refl, sym, ap, subst, ◌∙◌}
use Rattle.std.specs.List.{All}
use Rattle.std.specs.Option.{option_or}
use Rattle.std.proofs.lemmas.Bool.{eqb-true}
use Rattle.std.proofs.lemmas.List.{take_more}
use Rattle.std.proofs.lemmas.List.Elements.{All-head, All-tail}
use Rattle.sw_suffix.specs.Table.{Hashed, hash_at}

-- what a suffix with its hash adds at a suffix
abbrev pub hash_in : ℕ → Hashed → Option (List ℕ)
hash_in suffix hash = cond (nat_eq hash.0 suffix) (Some hash.1) None

hash_at-push : (suffix : ℕ) (hashes : List Hashed) (hash : Hashed) → hash_at suffix (hashes ++ hash ∷ []) ≡ option_or (hash_at suffix hashes) (hash_in suffix hash)
hash_at-push suffix [] hash = refl
hash_at-push suffix (first ∷ hashes) hash =
    elim (nat_eq first.0 suffix) as (λ b. cond b (Some first.1) (hash_at suffix (hashes ++ hash ∷ [])) ≡ option_or (cond b (Some first.1) (hash_at suffix hashes)) (hash_in suffix hash)) [
      | true ↦ refl
      | false ↦ hash_at-push suffix hashes hash
    ]

-- one suffix more
pub hash_at-more : (suffix : ℕ) (hashes : List Hashed) (i : ℕ) (d : Hashed) → i < length hashes
    → hash_at suffix (take (i + 1) hashes) ≡ option_or (hash_at suffix (take i hashes)) (hash_in suffix (get_or hashes i d))
hash_at-more suffix hashes i d within =
    ap (λ (list : List Hashed). hash_at suffix list) (take_more hashes i d within) ∙ hash_at-push suffix (take i hashes) (get_or hashes i d)

-- what holds of each suffix of a list holds of one that has a hash there
pub All-hash_at : (P : ℕ → Type 0) (suffix : ℕ) (hashes : List Hashed) (hash : List ℕ) → All (λ h. P h.0) hashes → hash_at suffix hashes ≡ Some hash → P suffix
All-hash_at P suffix [] hash all is = absurd (cc)
All-hash_at P suffix (first ∷ hashes) hash all is =
    elim (nat_eq first.0 suffix) as (λ b. nat_eq first.0 suffix ≡ b → cond b (Some first.1) (hash_at suffix hashes) ≡ Some hash → P suffix) [
      | true ↦ λ same there. subst P (eqb-true first.0 suffix same) (All-head (λ h. P h.0) first hashes all)
      | false ↦ λ same there. All-hash_at P suffix hashes hash (All-tail (λ h. P h.0) first hashes all) there
    ] refl is

no_hash : (hash : Option (List ℕ)) → ((h : List ℕ) → hash ≡ Some h → ⊥) → hash ≡ None
no_hash None never = refl
no_hash (Some h) never = absurd (never h refl)

-- a suffix at which two lists differ is in one of them
pub differ_somewhere : (P : ℕ → Type 0) (suffix : ℕ) (a b : List Hashed) → ((p : P suffix) → ⊥) → All (λ h. P h.0) a → All (λ h. P h.0) b → hash_at suffix a ≡ hash_at suffix b
differ_somewhere P suffix a b never first second =
    no_hash (hash_at suffix a) (λ h is. never (All-hash_at P suffix a h first is))
    ∙ sym (no_hash (hash_at suffix b) (λ h is. never (All-hash_at P suffix b h second is)))
