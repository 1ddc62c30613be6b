-- Hashes of the suffixes of a partition, up to one of them.
use Rattle.std.proofs.Common.{◌≡◌, ◌≢◌, inl, inr, ◌↔◌, ◌+◌, ◌<◌, ◌≤◌, ℕ, List, [], ◌∷◌, ◌++◌, Contains, refl, sym, ap, subst, arith}
use Rattle.std.specs.List.{All, AllPairs}
use Rattle.std.proofs.lemmas.Bool.Decides.{leb_tells}
use Rattle.std.proofs.lemmas.List.Elements.{All-push, All-weaker, Contains-append_left, Contains-push, Contains-push_cases}
use Rattle.std.proofs.lemmas.List.Quantifiers.{all_pairs_push}
use Rattle.md5.specs.Md5.{md5}
use Rattle.sw_hashpath.specs.Place.{PlaceModel}
use Rattle.sw_hashdir.specs.declared.floor.Floor.{Floor}
use Rattle.sw_suffix.specs.Suffix.{suffix_text}
use Rattle.sw_suffix.specs.Table.{Hashed, in_suffix, suffixes_of}

-- the hashes of the suffixes below one
pub record AreHashesBelow (part from : ℕ) (floors : List (PlaceModel × Floor)) (hashes : List Hashed) : Type 0 where
  pub suffixes : (suffix : ℕ) → Contains (suffixes_of hashes) suffix ↔ ((suffix < from) × (in_suffix part suffix floors ≢ []))
  pub ascend : AllPairs (λ a b. a.0 < b.0) hashes
  pub low : All (λ hash. hash.0 < from) hashes
  pub scratch : All (λ hash. hash.1 ≡ md5 (suffix_text (in_suffix part hash.0 floors))) hashes

suffixes_of-push : (hashes : List Hashed) (hash : Hashed) → suffixes_of (hashes ++ hash ∷ []) ≡ suffixes_of hashes ++ hash.0 ∷ []
suffixes_of-push [] hash = refl
suffixes_of-push (first ∷ hashes) hash = ap (λ (rest : List ℕ). first.0 ∷ rest) (suffixes_of-push hashes hash)

module _ (part from : ℕ) (floors : List (PlaceModel × Floor)) (hashes : List Hashed) (before : AreHashesBelow part from floors hashes) where
  -- the next suffix's
  pub hashes_more : (suffix : ℕ) (hash : List ℕ) → from ≤ suffix → in_suffix part suffix floors ≢ [] → ((s : ℕ) → from ≤ s → s < suffix → in_suffix part s floors ≡ [])
      → hash ≡ md5 (suffix_text (in_suffix part suffix floors)) → AreHashesBelow part (suffix + 1) floors (hashes ++ (suffix, hash) ∷ [])
  hashes_more suffix hash le some between scratch =
      let entry : Hashed = (suffix, hash) in
      let pushed = suffixes_of-push hashes entry in
      record {
        suffixes = λ s. (
          λ has. elim (Contains-push_cases (suffixes_of hashes) suffix s (subst (λ list. Contains list s) pushed has)) [
            | inl there ↦
                let below = (before.suffixes s).0 there in
                (omega (arith, below.0, le), below.1)
            | inr same ↦ (omega (arith, same), subst (λ (n : ℕ). in_suffix part n floors ≢ []) same some)
          ],
          λ below. subst (λ list. Contains list s) (sym pushed) (elim (leb_tells from s) [
            | inr low ↦ Contains-append_left (suffixes_of hashes) (suffix ∷ []) s ((before.suffixes s).1 (low.1, below.1))
            | inl high ↦ elim (leb_tells suffix s) [
              | inr less ↦ absurd (below.1 (between s high.1 less.1))
              | inl up ↦
                  let same : suffix ≡ s = omega (arith, below.0, up.1) in
                  subst (λ (n : ℕ). Contains (suffixes_of hashes ++ suffix ∷ []) n) same (Contains-push (suffixes_of hashes) suffix)
            ]
          ]),
        );
        ascend = all_pairs_push (λ (a b : Hashed). a.0 < b.0) hashes entry before.ascend (λ k d within. omega (arith, before.low k d within, le));
        low = All-push (λ (h : Hashed). h.0 < suffix + 1) hashes entry (All-weaker (λ (h : Hashed). h.0 < from) (λ (h : Hashed). h.0 < suffix + 1) (λ h less. omega (arith, less, le)) hashes before.low) (omega arith);
        scratch = All-push (λ (h : Hashed). h.1 ≡ md5 (suffix_text (in_suffix part h.0 floors))) hashes entry before.scratch scratch;
      }
