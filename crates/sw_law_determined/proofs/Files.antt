-- Two lists of files are the same, or not.
use Rattle.std.proofs.Common.{◌≡◌, inl, inr, Bool, true, false, List, [], ◌∷◌, refl, ap, ap₂}
use Rattle.sw_disk.specs.Folder.{File}
use Rattle.sw_diskfile.proofs.Decisions.{OrNot, same_or_not}

bools_or_not : (a b : Bool) → OrNot (a ≡ b)
bools_or_not true true = inl refl
bools_or_not false false = inl refl
bools_or_not true false = inr (λ same. absurd (cc))
bools_or_not false true = inr (λ same. absurd (cc))

file_or_not : (a b : File) → OrNot (a ≡ b)
file_or_not a b = by (same_or_not a.name b.name) (same_or_not a.content.bytes b.content.bytes) (bools_or_not a.content.synced b.content.synced)
  where
    by : OrNot (a.name ≡ b.name) → OrNot (a.content.bytes ≡ b.content.bytes) → OrNot (a.content.synced ≡ b.content.synced) → OrNot (a ≡ b)
    by (inl name) (inl bytes) (inl synced) = inl (λ i. record { name = name i; content = record { bytes = bytes i; synced = synced i } })
    by (inr differ) bytes synced = inr (λ same. differ (ap (λ (file : File). file.name) same))
    by name (inr differ) synced = inr (λ same. differ (ap (λ (file : File). file.content.bytes) same))
    by name bytes (inr differ) = inr (λ same. differ (ap (λ (file : File). file.content.synced) same))

pub files_or_not : (a b : List File) → OrNot (a ≡ b)
files_or_not [] [] = inl refl
files_or_not [] (y ∷ ys) = inr (λ same. absurd (cc))
files_or_not (x ∷ xs) [] = inr (λ same. absurd (cc))
files_or_not (x ∷ xs) (y ∷ ys) = by (file_or_not x y) (files_or_not xs ys)
  where
    by : OrNot (x ≡ y) → OrNot (xs ≡ ys) → OrNot (x ∷ xs ≡ y ∷ ys)
    by (inl same) (inl also) = inl (ap₂ (λ (file : File) (files : List File). file ∷ files) same also)
    by (inr differ) rest = inr (λ same. differ (cc))
    by first (inr differ) = inr (λ same. differ (cc))
