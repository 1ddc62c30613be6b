-- Lists that are equal are cut into equal parts; fronts and numbers are taken from bytes.
use Rattle.std.proofs.Common.{◌≡◌, ℕ, ◌+◌, ◌<◌, ◌≤◌, ◌^◌, List, [], ◌∷◌, ◌++◌, length, take, drop, refl, sym, ap, ◌∙◌, arith, length-drop}
use Rattle.std.specs.Int.{Width, w16, w32, w64, to_be_bytes, from_be_bytes}
use Rattle.std.proofs.lemmas.List.{length-take-le, take-append-drop}
use Rattle.std.proofs.lemmas.Nat.{be_bytes_2, be_bytes_4, be_bytes_8, from_be_bytes-to_be_bytes_2, from_be_bytes-to_be_bytes_4, from_be_bytes-to_be_bytes_8}
use Rattle.sw_words.specs.Bytes.{IsBytes}
use Rattle.sw_words.proofs.ByteLists.{IsBytes-drop, IsBytes-take}

-- behind fronts of one length
pub cut : (a b x y : List ℕ) → length a ≡ length b → a ++ x ≡ b ++ y → (a ≡ b) × (x ≡ y)
cut [] [] x y same e = (refl, e)
cut [] (k ∷ u) x y same e = absurd (omega (arith, same))
cut (h ∷ t) [] x y same e = absurd (omega (arith, same))
cut (h ∷ t) (k ∷ u) x y same e =
    let heads : h ≡ k = cc in
    let tails : t ++ x ≡ u ++ y = cc in
    let rest = cut t u x y (omega (arith, same)) tails in
    let fronts : t ≡ u = rest.0 in
    (cc, rest.1)

-- behind numbers
pub cut_16 : (m n : ℕ) (x y : List ℕ) → m < 2 ^ 16 → n < 2 ^ 16 → to_be_bytes w16 m ++ x ≡ to_be_bytes w16 n ++ y → (m ≡ n) × (x ≡ y)
cut_16 m n x y m_fits n_fits e =
    let parts = cut (to_be_bytes w16 m) (to_be_bytes w16 n) x y refl e in
    (sym (from_be_bytes-to_be_bytes_2 m m_fits) ∙ ap (from_be_bytes w16) parts.0 ∙ from_be_bytes-to_be_bytes_2 n n_fits, parts.1)

pub cut_32 : (m n : ℕ) (x y : List ℕ) → m < 2 ^ 32 → n < 2 ^ 32 → to_be_bytes w32 m ++ x ≡ to_be_bytes w32 n ++ y → (m ≡ n) × (x ≡ y)
cut_32 m n x y m_fits n_fits e =
    let parts = cut (to_be_bytes w32 m) (to_be_bytes w32 n) x y refl e in
    (sym (from_be_bytes-to_be_bytes_4 m m_fits) ∙ ap (from_be_bytes w32) parts.0 ∙ from_be_bytes-to_be_bytes_4 n n_fits, parts.1)

pub cut_64 : (m n : ℕ) (x y : List ℕ) → m < 2 ^ 64 → n < 2 ^ 64 → to_be_bytes w64 m ++ x ≡ to_be_bytes w64 n ++ y → (m ≡ n) × (x ≡ y)
cut_64 m n x y m_fits n_fits e =
    let parts = cut (to_be_bytes w64 m) (to_be_bytes w64 n) x y refl e in
    (sym (from_be_bytes-to_be_bytes_8 m m_fits) ∙ ap (from_be_bytes w64) parts.0 ∙ from_be_bytes-to_be_bytes_8 n n_fits, parts.1)

-- ---- what is taken from bytes

-- so many bytes, and the rest
pub record Front (count : ℕ) (bytes : List ℕ) : Type 0 where
  pub front : List ℕ
  pub rest : List ℕ
  pub split : bytes ≡ front ++ rest
  pub long : length front ≡ count
  pub left : length rest + count ≡ length bytes
  pub front_bytes : IsBytes front
  pub rest_bytes : IsBytes rest

pub front_of : (count : ℕ) (bytes : List ℕ) → count ≤ length bytes → IsBytes bytes → Front count bytes
front_of count bytes within are = record {
  front = take count bytes;
  rest = drop count bytes;
  split = sym (take-append-drop count bytes);
  long = length-take-le count bytes within;
  left = omega (arith, within, length-drop count bytes);
  front_bytes = IsBytes-take count bytes are;
  rest_bytes = IsBytes-drop count bytes are;
}

-- a number of so many bytes, and the rest
pub record Number (w : Width) (count bound : ℕ) (bytes : List ℕ) : Type 0 where
  pub number : ℕ
  pub rest : List ℕ
  pub split : bytes ≡ to_be_bytes w number ++ rest
  pub fits : number < bound
  pub left : length rest + count ≡ length bytes
  pub rest_bytes : IsBytes rest

number_of : (w : Width) (count bound : ℕ) (bytes : List ℕ) (taken : Front count bytes) → to_be_bytes w (from_be_bytes w taken.front) ≡ taken.front → from_be_bytes w taken.front < bound → Number w count bound bytes
number_of w count bound bytes taken same fits = record {
  number = from_be_bytes w taken.front;
  rest = taken.rest;
  split = taken.split ∙ ap (λ front. front ++ taken.rest) (sym same);
  fits = fits;
  left = taken.left;
  rest_bytes = taken.rest_bytes;
}

fits_16 : (front : List ℕ) → IsBytes front → from_be_bytes w16 front < 2 ^ 16
fits_16 front are = omega (arith, are 0, are 1)

fits_32 : (front : List ℕ) → IsBytes front → from_be_bytes w32 front < 2 ^ 32
fits_32 front are = omega (arith, are 0, are 1, are 2, are 3)

fits_64 : (front : List ℕ) → IsBytes front → from_be_bytes w64 front < 2 ^ 64
fits_64 front are = omega (arith, are 0, are 1, are 2, are 3, are 4, are 5, are 6, are 7)

pub number_16 : (bytes : List ℕ) → 2 ≤ length bytes → IsBytes bytes → Number w16 2 (2 ^ 16) bytes
number_16 bytes within are =
    let taken = front_of 2 bytes within are in
    number_of w16 2 (2 ^ 16) bytes taken (be_bytes_2 taken.front _ taken.long taken.front_bytes refl) (fits_16 taken.front taken.front_bytes)

pub number_32 : (bytes : List ℕ) → 4 ≤ length bytes → IsBytes bytes → Number w32 4 (2 ^ 32) bytes
number_32 bytes within are =
    let taken = front_of 4 bytes within are in
    number_of w32 4 (2 ^ 32) bytes taken (be_bytes_4 taken.front _ taken.long taken.front_bytes refl) (fits_32 taken.front taken.front_bytes)

pub number_64 : (bytes : List ℕ) → 8 ≤ length bytes → IsBytes bytes → Number w64 8 (2 ^ 64) bytes
number_64 bytes within are =
    let taken = front_of 8 bytes within are in
    number_of w64 8 (2 ^ 64) bytes taken (be_bytes_8 taken.front _ taken.long taken.front_bytes refl) (fits_64 taken.front taken.front_bytes)
