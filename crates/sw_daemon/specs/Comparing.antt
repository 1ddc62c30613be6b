-- What is seen of the suffixes of a partition at its primaries.
use Rattle.std.specs.Prelude.{◌≡◌, ◌≢◌, ◌⊎◌, ◌↔◌, ℕ, ◌==◌, ◌||◌, Bool, true, List, Option}
use Rattle.std.specs.List.{list_any}
use Rattle.sw_suffix.specs.Table.{Hashed, hash_at}
use Rattle.sw_daemon.specs.Pass.{Differs}

-- all suffixes, or some
pub record Differing : Type 0 where
  pub is_all : Bool
  pub suffixes : List ℕ

-- a suffix is one of those that differ
abbrev pub has_suffix : Differing → ℕ → Bool
has_suffix differing suffix = differing.is_all || list_any (λ other. other == suffix) differing.suffixes

abbrev pub HasSuffix : Differing → ℕ → Type 0
HasSuffix differing suffix = has_suffix differing suffix ≡ true

-- these, and those at which another list differs from the own one
abbrev pub MoreDiffer : Differing → (own hashes : List Hashed) → Differing → Type 0
MoreDiffer differing own hashes more = (suffix : ℕ) → HasSuffix more suffix ↔ (HasSuffix differing suffix ⊎ (hash_at suffix own ≢ hash_at suffix hashes))

pub record Comparing : Type 0 where
  pub part : ℕ
  pub own : List Hashed
  pub differing : Differing
  pub device : ℕ
  pub others : List ℕ

-- they are those at which others differ that were heard
abbrev pub AreDiffering : Differing → List Hashed → List (Option (List Hashed)) → Type 0
AreDiffering differing own heard = (suffix : ℕ) → HasSuffix differing suffix ↔ Differs own heard suffix
