-- Messages together.
use Rattle.std.proofs.Common.{◌≡◌, ℕ, zero, suc, ◌-◌, ◌*◌, ◌%◌, ◌^◌, ◌<◌, ◌≤◌, List, [], ◌∷◌, ◌++◌, length, map, take, replicate, refl, sym, ap, ap₂, subst, ◌∙◌, arith}
use Rattle.std.proofs.lemmas.List.{length-map, get_or-map, get_or-take, get_or_default, length-take-le, take-replicate, get_or-replicate, length-replicate, same_lists, append_assoc}
use Rattle.std.proofs.lemmas.Simd.{get_or-zip2, length-zip2}
use Rattle.std.specs.Int.{w64, to_le_bytes}
use Rattle.md5.specs.Md5.{md5, padded_message, hash_after, initial_hash, IsAbsorbed}
use Rattle.sw_md5.specs.Side.{item, AreLong, HaveOneLength}
use Rattle.sw_md5.specs.UnderWay.{joined}

pub joined-length : (messages pieces : List (List ℕ)) → length messages ≡ length pieces → length (joined messages pieces) ≡ length messages
joined-length messages pieces = length-zip2 (λ message piece. message ++ piece) messages pieces

pub joined-item : (messages pieces : List (List ℕ)) (i : ℕ) → i < length messages → length messages ≡ length pieces → item (joined messages pieces) i ≡ item messages i ++ item pieces i
joined-item messages pieces i low same = get_or-zip2 (λ message piece. message ++ piece) messages pieces i [] [] [] low (omega arith)

-- ---- one piece for all

map-replicate : {V : Type 0} (f : V → List ℕ) (n : ℕ) (x : V) → map f (replicate n x) ≡ replicate n (f x)
map-replicate f zero x = refl
map-replicate f (suc n) x = ap (λ l. f x ∷ l) (map-replicate f n x)

for_all : {V : Type 0} (content : V → List ℕ) (piece : V) (n k : ℕ) → n ≤ k → map content (take n (replicate k piece)) ≡ replicate n (content piece)
for_all content piece n k most = ap (map content) (take-replicate n k piece most) ∙ map-replicate content n piece

replicate-alike : (bytes : List ℕ) (n : ℕ) → 0 < n → HaveOneLength (replicate n bytes)
replicate-alike bytes n some i there =
    let low : i < n = omega (arith, length-replicate n bytes) in
    ap length (get_or-replicate n i bytes [] low ∙ sym (get_or-replicate n 0 bytes [] some))

pub for_all-alike : {V : Type 0} (content : V → List ℕ) (piece : V) (n k : ℕ) → 0 < n → n ≤ k → HaveOneLength (map content (take n (replicate k piece)))
for_all-alike content piece n k some most = subst HaveOneLength (sym (for_all content piece n k most)) (replicate-alike (content piece) n some)

joined_all : (messages : List (List ℕ)) (bytes : List ℕ) → joined messages (replicate (length messages) bytes) ≡ map (λ message. message ++ bytes) messages
joined_all [] bytes = refl
joined_all (m ∷ ms) bytes = ap (λ l. (m ++ bytes) ∷ l) (joined_all ms bytes)

pub joined-for_all : {V : Type 0} (content : V → List ℕ) (piece : V) (messages : List (List ℕ)) (n k : ℕ) → n ≤ k → length messages ≡ n
    → joined messages (map content (take n (replicate k piece))) ≡ map (λ message. message ++ content piece) messages
joined-for_all content piece messages n k most each =
    ap (joined messages) (for_all content piece n k most ∙ ap (λ m. replicate m (content piece)) (sym each)) ∙ joined_all messages (content piece)

-- a message that went on by its padding, and then by its length
pub padded_item : (messages : List (List ℕ)) (pads bits : List ℕ) (i total : ℕ) → i < length messages → total ≡ length (item messages i) % 2 ^ 64
    → pads ≡ 0x80 ∷ replicate ((119 - total % 64) % 64) 0 → bits ≡ to_le_bytes w64 (total * 8 % 2 ^ 64)
    → item (map (λ message. message ++ bits) (map (λ message. message ++ pads) messages)) i ≡ padded_message (item messages i)
padded_item messages pads bits i total low is padding counting =
    let m = item messages i in
    let used : total % 64 ≡ length m % 64 = omega arith in
    let count : total * 8 % 2 ^ 64 ≡ length m * 8 % 2 ^ 64 = omega arith in
    let there : i < length (map (λ message. message ++ pads) messages) = omega (arith, length-map messages (λ message. message ++ pads)) in
    let pad : pads ≡ 0x80 ∷ replicate ((119 - length m % 64) % 64) 0 = padding ∙ ap (λ u. 0x80 ∷ replicate ((119 - u) % 64) 0) used in
    let end : bits ≡ to_le_bytes w64 (length m * 8 % 2 ^ 64) = counting ∙ ap (to_le_bytes w64) count in
    get_or-map (λ message. message ++ bits) (map (λ message. message ++ pads) messages) i [] [] there
    ∙ ap (λ l. l ++ bits) (get_or-map (λ message. message ++ pads) messages i [] [] low)
    ∙ ap₂ (λ a b. (m ++ a) ++ b) pad end
    ∙ append_assoc m (0x80 ∷ replicate ((119 - length m % 64) % 64) 0) (to_le_bytes w64 (length m * 8 % 2 ^ 64))

-- ---- all digests

pub digests_are : (digests messages : List (List ℕ)) → length messages ≤ length digests → ((i : ℕ) → i < length messages → item digests i ≡ md5 (item messages i))
    → take (length messages) digests ≡ map md5 messages
digests_are digests messages fits each =
    let n = length messages in
    let front : length (take n digests) ≡ n = length-take-le n digests fits in
    same_lists (take n digests) (map md5 messages) (front ∙ sym (length-map messages md5)) (λ k d h.
    let low : k < n = omega (arith, front) in
    get_or-take n digests k d low ∙ get_or_default digests k d [] (omega arith) ∙ each k low ∙ sym (get_or-map md5 messages k [] d low))

-- ---- before any piece

pub absorbed_none : (n i k : ℕ) (rests : List (List ℕ)) → i < n → n ≤ k → IsAbsorbed (item (replicate k initial_hash) i) (item rests i) (item (replicate n []) i)
unfolding hash_after
absorbed_none n i k rests low most =
    let empty : item (replicate n []) i ≡ [] = get_or-replicate n i [] [] low in
    let first : item (replicate k initial_hash) i ≡ initial_hash = get_or-replicate k i initial_hash [] (omega arith) in
    subst (λ m. IsAbsorbed (item (replicate k initial_hash) i) (item rests i) m) (sym empty) (first, refl)

pub joined_empty : (pieces : List (List ℕ)) → joined (replicate (length pieces) []) pieces ≡ pieces
joined_empty [] = refl
joined_empty (p ∷ ps) = ap (λ l. p ∷ l) (joined_empty ps)

-- ---- one length

pub one_length : (lists : List (List ℕ)) (n : ℕ) → AreLong lists n → HaveOneLength lists
one_length lists n long i low = long i low ∙ sym (long 0 (omega arith))
