-- Archives of an object that is put, one after another.
use Rattle.std.proofs.Common.{rules, ◌≡◌, ◌≢◌, ℕ, ◌+◌, ◌-◌, ◌<◌, ◌≤◌, ◌∙◌, List, [], ◌∷◌, ◌++◌, length, Result, Ok, Err, MatchResult, IsOk, refl, sym, subst, ap, ap₂, get_or, arith}
use Rattle.std.specs.List.{All}
use Rattle.std.proofs.lemmas.List.FromFn.{length-map-range_with_len, get_or-map-range_with_len, map-range_with_len_more}
use Rattle.sw_archive.specs.Archive.{ArchiveModel}
use Rattle.sw_archive.specs.Assemble.{AreAlike, AreEnough, IsNext, k_of}
use Rattle.sw_archive.specs.Put.{AreOfPut}
use Rattle.archive_bench.specs.Archives.{fields_at, fields_from}
use Rattle.archive_bench.specs.declared.put.Put.{Put}

-- the fields that stand at a position
at : (put : Put) (first count t : ℕ) (other : ArchiveModel) → t < length (fields_from put first count) → get_or (fields_from put first count) t other ≡ fields_at put (first + t)
at put first count t other below =
    get_or-map-range_with_len (fields_at put) first count t (first + t) other (omega (arith, below, length-map-range_with_len (fields_at put) first count)) refl

-- they have one k
one_k : (put : Put) (first count : ℕ) → All (λ (other : ArchiveModel). other.k ≡ put.policy.k) (fields_from put first count)
one_k put first count t other below = ap (λ (a : ArchiveModel). a.k) (at put first count t other below)

-- they are those of the put
pub of_put : (put : Put) (first count : ℕ) → AreOfPut put.policy put.stamp put.name put.object (fields_from put first count)
of_put put first count t other below =
    let same = at put first count t other below in
    same ∙ sym (ap (λ (a : ArchiveModel). fields_at put a.index) same)

-- one more
pub more : (put : Put) (first index : ℕ) (before : List ArchiveModel) (archive : ArchiveModel) → first ≤ index → before ≡ fields_from put first (index - first) → archive ≡ fields_at put index
    → before ++ archive ∷ [] ≡ fields_from put first (index + 1 - first)
more put first index before archive from gathered read =
    ap₂ (λ (these : List ArchiveModel) (this : ArchiveModel). these ++ this ∷ []) gathered read
    ∙ sym (map-range_with_len_more (fields_at put) first (index - first) index (omega (arith, from)))
    ∙ ap (λ n. fields_from put first n) (omega (arith, from))

-- one of a greater index can stand beside them
pub next : (put : Put) (first index : ℕ) (before : List ArchiveModel) (archive : ArchiveModel) → first ≤ index → index < first + put.policy.k → before ≡ fields_from put first (index - first)
    → archive ≡ fields_at put index → IsNext before archive
next put first index before archive from few gathered read =
    let count = index - first in
    let long = length-map-range_with_len (fields_at put) first count in
    subst (λ (these : List ArchiveModel). IsNext these archive) (sym gathered) (record {
      alike = λ t other below.
          subst (λ (this : ArchiveModel). AreAlike this archive) (sym (at put first count t other below))
          (subst (λ (this : ArchiveModel). AreAlike (fields_at put (first + t)) this) (sym read) refl);
      new = λ t other below same.
          omega (arith, from, below, long, same, ap (λ (a : ArchiveModel). a.index) (at put first count t other below), ap (λ (a : ArchiveModel). a.index) read);
      few = omega (arith, from, few, long, ap (λ (a : ArchiveModel). a.k) read);
    })

k_of_alike : (k : ℕ) (archives : List ArchiveModel) (archive : ArchiveModel) → All (λ (other : ArchiveModel). other.k ≡ k) archives → archive.k ≡ k → k_of archives archive ≡ k
k_of_alike k [] archive all same = same
k_of_alike k (first ∷ others) archive all same = all 0 first (omega arith)

-- the k that room is made for
pub k_is : (put : Put) (first index : ℕ) (before : List ArchiveModel) (archive : ArchiveModel) → before ≡ fields_from put first (index - first) → archive ≡ fields_at put index
    → k_of before archive ≡ put.policy.k
k_is put first index before archive gathered read =
    ap (λ (these : List ArchiveModel). k_of these archive) gathered
    ∙ k_of_alike put.policy.k (fields_from put first (index - first)) archive (one_k put first (index - first)) (ap (λ (a : ArchiveModel). a.k) read)

enough_of : (k : ℕ) (archives : List ArchiveModel) → 1 ≤ k → length archives ≡ k → All (λ (other : ArchiveModel). other.k ≡ k) archives → AreEnough archives
enough_of k [] some long all = absurd (omega (arith, some, long))
enough_of k (first ∷ others) some long all = long ∙ sym (all 0 first (omega arith))

-- k of them are enough
pub enough : (put : Put) (first : ℕ) → 1 ≤ put.policy.k → AreEnough (fields_from put first put.policy.k)
enough put first some =
    enough_of put.policy.k (fields_from put first put.policy.k) some (length-map-range_with_len (fields_at put) first put.policy.k) (one_k put first put.policy.k)

-- what was read, where it isn't want of memory
pub read_of : {A E : Type 0} (value told : A) (fault : E) → (◌≢◌ {A = Result A E} (Ok value) (Err fault) → ◌≡◌ {A = Result A E} (Ok value) (Ok told)) → value ≡ told
read_of value told fault unless =
    let same = unless (λ other. absurd (cc)) in
    cc

-- what could be added was
pub added_ok : {A B : Type 0} (result : Result A B) (Next Added : Type 0) (Same : B → Type 0) (Kept : Type 0) → MatchResult result (λ _. Next × Added) (λ back. (¬ Next) × Same back × Kept) → Next → IsOk result
added_ok (Ok done) Next Added Same Kept told next = search rules
added_ok (Err back) Next Added Same Kept told next = absurd (told.0 next)

pub added : {A B : Type 0} (result : Result A B) (Next Added : Type 0) (Same : B → Type 0) (Kept : Type 0) → MatchResult result (λ _. Next × Added) (λ back. (¬ Next) × Same back × Kept) → Next → Added
added (Ok done) Next Added Same Kept told next = told.1
added (Err back) Next Added Same Kept told next = absurd (told.0 next)
