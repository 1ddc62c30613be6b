-- One thing stands where a chunk would begin, and more bytes leave it there.
use Rattle.std.proofs.Common.{◌≡◌, ◌⊎◌, inl, inr, ◌<◌, ℕ, ◌+◌, List, [], ◌∷◌, ◌++◌, length, refl, sym, ap, ◌∙◌, subst, arith, append_assoc, length-append}
use Rattle.sw_httpread.specs.Lines.{IsWholeLine, IsWholeSection}
use Rattle.sw_httpread.specs.Ends.{greatest_length}
use Rattle.sw_httpread.specs.Chunks.{greatest_body, Standing, AChunk, TheLast, OutOfForm, TooLong, Undecided, IsEndAt, IsDataAt, IsTrailerAt, IsSizedAt, IsLineAt, IsTrailer, Stands}
use Rattle.sw_httpread.proofs.Ends.{ends_more, nowhere_more, ends_same}
use Rattle.sw_httpread.proofs.Sections.{one_line, one_section}
use Rattle.sw_httpread.proofs.ChunkLines.{one_size}

-- two lists, cut at one place
pub cut : (a b x y : List ℕ) → length a ≡ length b → a ++ x ≡ b ++ y → (a ≡ b) × (x ≡ y)
cut [] [] x y l e = (refl, e)
cut [] (k ∷ u) x y l e = absurd (omega (arith, l))
cut (h ∷ t) [] x y l e = absurd (omega (arith, l))
cut (h ∷ t) (k ∷ u) x y l e =
    let heads : h ≡ k = cc in
    let tails : t ++ x ≡ u ++ y = cc in
    let r = cut t u x y (omega (arith, l)) tails in
    let same : t ≡ u = r.0 in
    (cc, r.1)

-- ---- one

end_one : (chunk : List ℕ) (a b a' b' : ℕ) (rest rest' : List ℕ) (v w : Standing) → a ≡ a' → b ≡ b' → rest ≡ rest' → IsEndAt chunk a b rest v → IsEndAt chunk a' b' rest' w → v ≡ w
end_one chunk a b a' b' rest rest' v w p q r (inl x) (inl y) = x.2 ∙ ap (AChunk chunk) r ∙ sym y.2
end_one chunk a b a' b' rest rest' v w p q r (inl x) (inr y) = absurd (y.0 (sym p ∙ x.0, sym q ∙ x.1))
end_one chunk a b a' b' rest rest' v w p q r (inr x) (inl y) = absurd (x.0 (p ∙ y.0, q ∙ y.1))
end_one chunk a b a' b' rest rest' v w p q r (inr x) (inr y) = x.1 ∙ sym y.1

uncons : (a b : ℕ) (x y : List ℕ) → a ∷ x ≡ b ∷ y → (a ≡ b) × (x ≡ y)
uncons a b x y e = (cc, cc)

long : (n : ℕ) (bytes chunk : List ℕ) (a b : ℕ) (rest : List ℕ) → length bytes < n + 2 → bytes ≡ chunk ++ a ∷ b ∷ rest → length chunk ≡ n → ⊥
long n bytes chunk a b rest short e l = omega (arith, short, l, ap length e, length-append chunk (a ∷ b ∷ rest))

data_one : (n : ℕ) (bytes : List ℕ) (v w : Standing) → IsDataAt n bytes v → IsDataAt n bytes w → v ≡ w
data_one n bytes v w (inl x) (inl y) = x.1 ∙ sym y.1
data_one n bytes v w (inl x) (inr y) = absurd (long n bytes y.0 y.1 y.2 y.3 x.0 y.4 y.5)
data_one n bytes v w (inr x) (inl y) = absurd (long n bytes x.0 x.1 x.2 x.3 y.0 x.4 x.5)
data_one n bytes v w (inr x) (inr y) =
    let c = cut x.0 y.0 _ _ (x.5 ∙ sym y.5) (sym x.4 ∙ y.4) in
    let first = uncons x.1 y.1 (x.2 ∷ x.3) (y.2 ∷ y.3) c.1 in
    let second = uncons x.2 y.2 x.3 y.3 first.1 in
    end_one y.0 x.1 x.2 y.1 y.2 x.3 y.3 v w first.0 second.0 second.1 (subst (λ (t : List ℕ). IsEndAt t x.1 x.2 x.3 v) c.0 x.6) y.6

abbrev IsWholeTrailerAt : List ℕ → List ℕ → Standing → Type 0
IsWholeTrailerAt trailer rest what = (IsTrailer trailer × (what ≡ TheLast rest)) ⊎ ((¬ IsTrailer trailer) × (what ≡ OutOfForm))

whole_trailer_one : (t t' rest rest' : List ℕ) (v w : Standing) → t ≡ t' → rest ≡ rest' → IsWholeTrailerAt t rest v → IsWholeTrailerAt t' rest' w → v ≡ w
whole_trailer_one t t' rest rest' v w e r (inl x) (inl y) = x.1 ∙ ap TheLast r ∙ sym y.1
whole_trailer_one t t' rest rest' v w e r (inl x) (inr y) = absurd (y.0 (subst IsTrailer e x.0))
whole_trailer_one t t' rest rest' v w e r (inr x) (inl y) = absurd (x.0 (subst IsTrailer (sym e) y.0))
whole_trailer_one t t' rest rest' v w e r (inr x) (inr y) = x.1 ∙ sym y.1

trailer_one : (bytes : List ℕ) (v w : Standing) → IsTrailerAt bytes v → IsTrailerAt bytes w → v ≡ w
trailer_one bytes v w (inl x) (inl y) = x.1 ∙ sym y.1
trailer_one bytes v w (inl x) (inr (inl y)) = absurd (omega (arith, x.0.0, y.0.0))
trailer_one bytes v w (inl x) (inr (inr y)) = absurd (x.0.1 y.0 y.1 y.2)
trailer_one bytes v w (inr (inl x)) (inl y) = absurd (omega (arith, x.0.0, y.0.0))
trailer_one bytes v w (inr (inl x)) (inr (inl y)) = x.1 ∙ sym y.1
trailer_one bytes v w (inr (inl x)) (inr (inr y)) = absurd (x.0.1 y.0 y.1 y.2)
trailer_one bytes v w (inr (inr x)) (inl y) = absurd (y.0.1 x.0 x.1 x.2)
trailer_one bytes v w (inr (inr x)) (inr (inl y)) = absurd (y.0.1 x.0 x.1 x.2)
trailer_one bytes v w (inr (inr x)) (inr (inr y)) =
    let e = ends_same IsWholeSection one_section bytes x.0 y.0 x.1 y.1 x.2 y.2 in
    whole_trailer_one x.0 y.0 x.1 y.1 v w e.0 e.1 x.3 y.3

sized_one : (s n : ℕ) (bytes : List ℕ) (v w : Standing) → IsSizedAt s n bytes v → IsSizedAt s n bytes w → v ≡ w
sized_one s n bytes v w (inl x) (inl y) = trailer_one bytes v w x.1 y.1
sized_one s n bytes v w (inl x) (inr (inl y)) = absurd (omega (arith, x.0, y.0))
sized_one s n bytes v w (inl x) (inr (inr y)) = absurd (omega (arith, x.0, y.0))
sized_one s n bytes v w (inr (inl x)) (inl y) = absurd (omega (arith, x.0, y.0))
sized_one s n bytes v w (inr (inl x)) (inr (inl y)) = x.2 ∙ sym y.2
sized_one s n bytes v w (inr (inl x)) (inr (inr y)) = absurd (omega (arith, x.1, y.1))
sized_one s n bytes v w (inr (inr x)) (inl y) = absurd (omega (arith, x.0, y.0))
sized_one s n bytes v w (inr (inr x)) (inr (inl y)) = absurd (omega (arith, x.1, y.1))
sized_one s n bytes v w (inr (inr x)) (inr (inr y)) = data_one n bytes v w x.2 y.2

line_one : (s : ℕ) (line bytes : List ℕ) (v w : Standing) → IsLineAt s line bytes v → IsLineAt s line bytes w → v ≡ w
line_one s line bytes v w (inl x) (inl y) = x.1 ∙ sym y.1
line_one s line bytes v w (inl x) (inr y) = absurd (x.0 y.1.0 y.1.1)
line_one s line bytes v w (inr x) (inl y) = absurd (y.0 x.1.0 x.1.1)
line_one s line bytes v w (inr x) (inr y) = sized_one s y.0 bytes v w (subst (λ (n : ℕ). IsSizedAt s n bytes v) (one_size line x.0 y.0 x.1 y.1) x.2) y.2

pub stands_one : (s : ℕ) (bytes : List ℕ) (v w : Standing) → Stands s bytes v → Stands s bytes w → v ≡ w
stands_one s bytes v w (inl x) (inl y) = x.1 ∙ sym y.1
stands_one s bytes v w (inl x) (inr (inl y)) = absurd (omega (arith, x.0.0, y.0.0))
stands_one s bytes v w (inl x) (inr (inr y)) = absurd (x.0.1 y.0 y.1 y.2)
stands_one s bytes v w (inr (inl x)) (inl y) = absurd (omega (arith, x.0.0, y.0.0))
stands_one s bytes v w (inr (inl x)) (inr (inl y)) = x.1 ∙ sym y.1
stands_one s bytes v w (inr (inl x)) (inr (inr y)) = absurd (x.0.1 y.0 y.1 y.2)
stands_one s bytes v w (inr (inr x)) (inl y) = absurd (y.0.1 x.0 x.1 x.2)
stands_one s bytes v w (inr (inr x)) (inr (inl y)) = absurd (y.0.1 x.0 x.1 x.2)
stands_one s bytes v w (inr (inr x)) (inr (inr y)) =
    let e = ends_same IsWholeLine one_line bytes x.0 y.0 x.1 y.1 x.2 y.2 in
    line_one s y.0 y.1 v w (subst (λ (l : List ℕ). IsLineAt s l y.1 v) e.0 (subst (λ (t : List ℕ). IsLineAt s x.0 t v) e.1 x.3)) y.3

-- ---- more bytes

-- the same with more bytes behind it
abbrev pub with_more : List ℕ → Standing → Standing
with_more more (AChunk chunk rest) = AChunk chunk (rest ++ more)
with_more more (TheLast rest) = TheLast (rest ++ more)
with_more more OutOfForm = OutOfForm
with_more more TooLong = TooLong
with_more more Undecided = Undecided

end_more : (more chunk : List ℕ) (a b : ℕ) (rest : List ℕ) (v : Standing) → IsEndAt chunk a b rest v → IsEndAt chunk a b (rest ++ more) (with_more more v)
end_more more chunk a b rest v (inl x) = inl (x.0, x.1, ap (with_more more) x.2)
end_more more chunk a b rest v (inr x) = inr (x.0, ap (with_more more) x.1)

data_more : (more : List ℕ) (n : ℕ) (bytes : List ℕ) (v : Standing) → (¬ (v ≡ Undecided)) → IsDataAt n bytes v → IsDataAt n (bytes ++ more) (with_more more v)
data_more more n bytes v decided (inl x) = absurd (decided x.1)
data_more more n bytes v decided (inr x) = inr (x.0, x.1, x.2, x.3 ++ more, ap (λ (t : List ℕ). t ++ more) x.4 ∙ append_assoc x.0 (x.1 ∷ x.2 ∷ x.3) more, x.5, end_more more x.0 x.1 x.2 x.3 v x.6)

whole_trailer_more : (more trailer rest : List ℕ) (v : Standing) → IsWholeTrailerAt trailer rest v → IsWholeTrailerAt trailer (rest ++ more) (with_more more v)
whole_trailer_more more trailer rest v (inl x) = inl (x.0, ap (with_more more) x.1)
whole_trailer_more more trailer rest v (inr x) = inr (x.0, ap (with_more more) x.1)

trailer_more : (more bytes : List ℕ) (v : Standing) → (¬ (v ≡ Undecided)) → IsTrailerAt bytes v → IsTrailerAt (bytes ++ more) (with_more more v)
trailer_more more bytes v decided (inl x) = absurd (decided x.1)
trailer_more more bytes v decided (inr (inl x)) = inr (inl (nowhere_more IsWholeSection bytes more x.0, ap (with_more more) x.1))
trailer_more more bytes v decided (inr (inr x)) = inr (inr (x.0, x.1 ++ more, ends_more IsWholeSection bytes x.0 x.1 more x.2, whole_trailer_more more x.0 x.1 v x.3))

sized_more : (more : List ℕ) (s n : ℕ) (bytes : List ℕ) (v : Standing) → (¬ (v ≡ Undecided)) → IsSizedAt s n bytes v → IsSizedAt s n (bytes ++ more) (with_more more v)
sized_more more s n bytes v decided (inl x) = inl (x.0, trailer_more more bytes v decided x.1)
sized_more more s n bytes v decided (inr (inl x)) = inr (inl (x.0, x.1, ap (with_more more) x.2))
sized_more more s n bytes v decided (inr (inr x)) = inr (inr (x.0, x.1, data_more more n bytes v decided x.2))

line_more : (more : List ℕ) (s : ℕ) (line bytes : List ℕ) (v : Standing) → (¬ (v ≡ Undecided)) → IsLineAt s line bytes v → IsLineAt s line (bytes ++ more) (with_more more v)
line_more more s line bytes v decided (inl x) = inl (x.0, ap (with_more more) x.1)
line_more more s line bytes v decided (inr x) = inr (x.0, x.1, sized_more more s x.0 bytes v decided x.2)

pub stands_more : (more : List ℕ) (s : ℕ) (bytes : List ℕ) (v : Standing) → (¬ (v ≡ Undecided)) → Stands s bytes v → Stands s (bytes ++ more) (with_more more v)
stands_more more s bytes v decided (inl x) = absurd (decided x.1)
stands_more more s bytes v decided (inr (inl x)) = inr (inl (nowhere_more IsWholeLine bytes more x.0, ap (with_more more) x.1))
stands_more more s bytes v decided (inr (inr x)) = inr (inr (x.0, x.1 ++ more, ends_more IsWholeLine bytes x.0 x.1 more x.2, line_more more s x.0 x.1 v decided x.3))

-- ---- how much may come before it is decided

end_decides : (chunk : List ℕ) (a b : ℕ) (rest : List ℕ) → IsEndAt chunk a b rest Undecided → ⊥
end_decides chunk a b rest (inl x) = absurd (cc (x.2))
end_decides chunk a b rest (inr x) = absurd (cc (x.1))

whole_trailer_decides : (trailer rest : List ℕ) → IsWholeTrailerAt trailer rest Undecided → ⊥
whole_trailer_decides trailer rest (inl x) = absurd (cc (x.1))
whole_trailer_decides trailer rest (inr x) = absurd (cc (x.1))

data_bound : (n : ℕ) (bytes : List ℕ) → IsDataAt n bytes Undecided → length bytes < n + 2
data_bound n bytes (inl x) = x.0
data_bound n bytes (inr x) = absurd (end_decides x.0 x.1 x.2 x.3 x.6)

trailer_bound : (bytes : List ℕ) → IsTrailerAt bytes Undecided → length bytes < greatest_length
trailer_bound bytes (inl x) = x.0.0
trailer_bound bytes (inr (inl x)) = absurd (cc (x.1))
trailer_bound bytes (inr (inr x)) = absurd (whole_trailer_decides x.0 x.1 x.3)

-- the most bytes that leave it undecided, behind the line and with it
abbrev pub most_behind : ℕ
most_behind = greatest_body + greatest_length

abbrev pub most_undecided : ℕ
most_undecided = greatest_length + most_behind

sized_bound : (s n : ℕ) (bytes : List ℕ) → IsSizedAt s n bytes Undecided → length bytes < most_behind
sized_bound s n bytes (inl x) = omega (arith, trailer_bound bytes x.1)
sized_bound s n bytes (inr (inl x)) = absurd (cc (x.2))
sized_bound s n bytes (inr (inr x)) = omega (arith, x.1, data_bound n bytes x.2)

line_bound : (s : ℕ) (line bytes : List ℕ) → IsLineAt s line bytes Undecided → length bytes < most_behind
line_bound s line bytes (inl x) = absurd (cc (x.1))
line_bound s line bytes (inr x) = sized_bound s x.0 bytes x.2

pub stands_bound : (s : ℕ) (bytes : List ℕ) → Stands s bytes Undecided → length bytes < most_undecided
stands_bound s bytes (inl x) = omega (arith, x.0.0)
stands_bound s bytes (inr (inl x)) = absurd (cc (x.1))
stands_bound s bytes (inr (inr x)) =
    omega (arith, line_bound s x.0 x.1 x.3, x.2.bound, ap length x.2.split, length-append x.0 x.1)
