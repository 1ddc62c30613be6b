-- Lines at the front of bytes, and heads among them.
use Rattle.std.proofs.Common.{◌≡◌, inl, inr, ℕ, ◌-◌, ◌<◌, ◌==◌, ◌||◌, Bool, true, false, List, [], ◌∷◌, ◌++◌, length, take, refl, sym, ap, subst, ◌∙◌, arith, append_assoc, length-append, eq-eqb}
use Rattle.std.specs.List.{list_any, AllByRecursion}
use Rattle.std.proofs.lemmas.List.{append-nil, take_at, same_from_push, nil_from_length}
use Rattle.sw_httpread.specs.Lines.{joined, IsLine, IsEmptyLine, IsFullLine, IsWholeHead}
use Rattle.sw_httpread.specs.Ends.{HasNoWhole}

has_feed : List ℕ → Bool
has_feed line = list_any (λ byte. byte == 10) line

either_false : (a b : Bool) → (a || b) ≡ false → (a ≡ false) × (b ≡ false)
either_false true b e = absurd cc
either_false false b e = (refl, e)

pub empty_is_line : (line : List ℕ) → IsEmptyLine line → IsLine line
empty_is_line line (inl e) = ap (list_any (λ byte. byte == 10)) e
empty_is_line line (inr e) = ap (list_any (λ byte. byte == 10)) e

-- two lines at one front
pub line_same : (a b x y : List ℕ) → IsLine a → IsLine b → a ++ 10 ∷ x ≡ b ++ 10 ∷ y → (a ≡ b) × (x ≡ y)
line_same [] [] x y p q e = (refl, cc)
line_same [] (k ∷ u) x y p q e =
    let k-is : k ≡ 10 = cc in
    absurd (cc (eq-eqb k 10 k-is, (either_false (k == 10) (list_any (λ byte. byte == 10) u) q).0))
line_same (h ∷ t) [] x y p q e =
    let h-is : h ≡ 10 = cc in
    absurd (cc (eq-eqb h 10 h-is, (either_false (h == 10) (list_any (λ byte. byte == 10) t) p).0))
line_same (h ∷ t) (k ∷ u) x y p q e =
    let heads : h ≡ k = cc in
    let tails : t ++ 10 ∷ x ≡ u ++ 10 ∷ y = cc in
    let r = line_same t u x y (either_false (h == 10) (list_any (λ byte. byte == 10) t) p).1 (either_false (k == 10) (list_any (λ byte. byte == 10) u) q).1 tails in
    let same : t ≡ u = r.0 in
    (cc, r.1)

-- what has a line feed is no line
pub feed_in : (a x b : List ℕ) → a ++ 10 ∷ x ≡ b → IsLine b → ⊥
feed_in [] x [] e q = absurd cc
feed_in [] x (k ∷ u) e q =
    let k-is : k ≡ 10 = cc in
    absurd (cc (eq-eqb k 10 k-is, (either_false (k == 10) (list_any (λ byte. byte == 10) u) q).0))
feed_in (h ∷ t) x [] e q = absurd cc
feed_in (h ∷ t) x (k ∷ u) e q =
    let tails : t ++ 10 ∷ x ≡ u = cc in
    feed_in t x u tails (either_false (k == 10) (list_any (λ byte. byte == 10) u) q).1

joined-cons : (line : List ℕ) (lines : List (List ℕ)) (x : List ℕ) → joined (line ∷ lines) ++ x ≡ line ++ 10 ∷ (joined lines ++ x)
joined-cons line lines x = simp append_assoc

-- lines before a rest without a line feed begin with all the lines of another front
pub lines_front : (a b : List (List ℕ)) (x y : List ℕ) → AllByRecursion IsLine a → AllByRecursion IsLine b → IsLine x → joined a ++ x ≡ joined b ++ y → (more : List (List ℕ)) × (a ≡ b ++ more)
lines_front a [] x y p q none e = (a, refl)
lines_front [] (l ∷ b) x y p q none e = absurd (feed_in l (joined b ++ y) x (sym (e ∙ joined-cons l b y)) none)
lines_front (k ∷ a) (l ∷ b) x y p q none e =
    let whole : k ++ 10 ∷ (joined a ++ x) ≡ l ++ 10 ∷ (joined b ++ y) = sym (joined-cons k a x) ∙ e ∙ joined-cons l b y in
    let r = line_same k l _ _ p.0 q.0 whole in
    let s = lines_front a b x y p.1 q.1 none r.1 in
    let first : k ≡ l = r.0 in
    let others : a ≡ b ++ s.0 = s.1 in
    (s.0, cc)

-- the first so many lines: empty ones, and then lines that aren't empty
pub record IsOpen (blanks lines : List (List ℕ)) : Type 0 where
  pub each_blank : AllByRecursion IsEmptyLine blanks
  pub each_line : AllByRecursion IsFullLine lines

pub full_has : (lines : List (List ℕ)) (last : List ℕ) (more b : List (List ℕ)) → AllByRecursion IsFullLine b → b ≡ lines ++ last ∷ more → IsEmptyLine last → ⊥
full_has [] last more [] p e empty = absurd cc
full_has [] last more (k ∷ b) p e empty =
    let k-is : k ≡ last = cc in
    p.0.1 (subst IsEmptyLine (sym k-is) empty)
full_has (l ∷ lines) last more [] p e empty = absurd cc
full_has (l ∷ lines) last more (k ∷ b) p e empty =
    let rest : b ≡ lines ++ last ∷ more = cc in
    full_has lines last more b p.1 rest empty

-- among such lines no head ends
pub none_ends : (a b c d : List (List ℕ)) (last : List ℕ) (more : List (List ℕ)) → IsOpen a b → IsOpen c d → 0 < length d → IsEmptyLine last → a ++ b ≡ c ++ (d ++ last ∷ more) → ⊥
none_ends [] b [] d last more o w some empty e = full_has d last more b o.each_line e empty
none_ends [] [] (k ∷ c) d last more o w some empty e = absurd cc
none_ends [] (j ∷ b) (k ∷ c) d last more o w some empty e =
    let j-is : j ≡ k = cc in
    o.each_line.0.1 (subst IsEmptyLine (sym j-is) w.each_blank.0)
none_ends (j ∷ a) b [] [] last more o w some empty e = absurd (omega (arith, some))
none_ends (j ∷ a) b [] (k ∷ d) last more o w some empty e =
    let j-is : j ≡ k = cc in
    w.each_line.0.1 (subst IsEmptyLine j-is o.each_blank.0)
none_ends (j ∷ a) b (k ∷ c) d last more o w some empty e =
    let rest : a ++ b ≡ c ++ (d ++ last ∷ more) = cc in
    none_ends a b c d last more (record { each_blank = o.each_blank.1; each_line = o.each_line }) (record { each_blank = w.each_blank.1; each_line = w.each_line }) some empty rest

blanks_lines : (a : List (List ℕ)) → AllByRecursion IsEmptyLine a → AllByRecursion IsLine a
blanks_lines [] p = tt
blanks_lines (k ∷ a) p = (empty_is_line k p.0, blanks_lines a p.1)

pub full_lines : (a : List (List ℕ)) → AllByRecursion IsFullLine a → AllByRecursion IsLine a
full_lines [] p = tt
full_lines (k ∷ a) p = (p.0.0, full_lines a p.1)

pub both_lines : (a b : List (List ℕ)) → AllByRecursion IsLine a → AllByRecursion IsLine b → AllByRecursion IsLine (a ++ b)
both_lines [] b p q = q
both_lines (k ∷ a) b p q = (p.0, both_lines a b p.1 q)

whole_lines : (head : List ℕ) (w : IsWholeHead head) → AllByRecursion IsLine (w.blanks ++ (w.lines ++ w.last ∷ []))
whole_lines head w = both_lines w.blanks (w.lines ++ w.last ∷ []) (blanks_lines w.blanks w.each_blank) (both_lines w.lines (w.last ∷ []) (full_lines w.lines w.each_line) (empty_is_line w.last w.last_empty, tt))

abbrev pub has_some : List (List ℕ) → Bool
has_some [] = false
has_some (line ∷ lines) = true

-- what was scanned: blank lines and then lines that aren't empty, in none of which a head ends, and a rest
pub record IsScanned (bytes rest : List ℕ) (seen : Bool) : Type 0 where
  pub blanks : List (List ℕ)
  pub lines : List (List ℕ)
  pub open_so_far : IsOpen blanks lines
  pub seen_is : seen ≡ has_some lines
  pub split : bytes ≡ joined (blanks ++ lines) ++ rest

pub no_end : (bytes rest : List ℕ) (seen : Bool) → IsScanned bytes rest seen → IsLine rest → HasNoWhole IsWholeHead bytes
no_end bytes rest seen s none head tail e w =
    let lines = both_lines s.blanks s.lines (blanks_lines s.blanks s.open_so_far.each_blank) (full_lines s.lines s.open_so_far.each_line) in
    let both : joined (s.blanks ++ s.lines) ++ rest ≡ joined (w.blanks ++ (w.lines ++ w.last ∷ [])) ++ tail = sym s.split ∙ e ∙ ap (λ (t : List ℕ). t ++ tail) w.spelled in
    let r = lines_front (s.blanks ++ s.lines) (w.blanks ++ (w.lines ++ w.last ∷ [])) rest tail lines (whole_lines head w) none both in
    let regrouped : s.blanks ++ s.lines ≡ w.blanks ++ (w.lines ++ w.last ∷ r.0) = r.1 ∙ simp append_assoc in
    none_ends s.blanks s.lines w.blanks w.lines w.last r.0 s.open_so_far (record { each_blank = w.each_blank; each_line = w.each_line }) w.some w.last_empty regrouped

-- ---- one more line

pub joined_push : (lines : List (List ℕ)) (line tail : List ℕ) → joined (lines ++ line ∷ []) ++ tail ≡ joined lines ++ (line ++ 10 ∷ tail)
joined_push [] line tail = joined-cons line [] tail
joined_push (l ∷ lines) line tail =
    joined-cons l (lines ++ line ∷ []) tail ∙ ap (λ (t : List ℕ). l ++ 10 ∷ t) (joined_push lines line tail) ∙ sym (joined-cons l lines (line ++ 10 ∷ tail))

pub all_push : (P : List ℕ → Type 0) (lines : List (List ℕ)) (line : List ℕ) → AllByRecursion P lines → P line → AllByRecursion P (lines ++ line ∷ [])
all_push P [] line p q = (q, tt)
all_push P (l ∷ lines) line p q = (p.0, all_push P lines line p.1 q)

no_lines : (lines : List (List ℕ)) → false ≡ has_some lines → lines ≡ []
no_lines [] e = refl
no_lines (l ∷ lines) e = absurd cc

some_lines : (lines : List (List ℕ)) → true ≡ has_some lines → 0 < length lines
some_lines [] e = absurd cc
some_lines (l ∷ lines) e = omega arith

seen_push : (lines : List (List ℕ)) (line : List ℕ) → true ≡ has_some (lines ++ line ∷ [])
seen_push [] line = refl
seen_push (l ∷ lines) line = refl

pub scan_start : (bytes : List ℕ) → IsScanned bytes bytes false
scan_start bytes = record { blanks = []; lines = []; open_so_far = record { each_blank = tt; each_line = tt }; seen_is = refl; split = refl }

pub scan_full : (bytes rest : List ℕ) (seen : Bool) (line tail : List ℕ) → IsScanned bytes rest seen → rest ≡ line ++ 10 ∷ tail → IsLine line → (¬ IsEmptyLine line) → IsScanned bytes tail true
scan_full bytes rest seen line tail s e is full = record {
  blanks = s.blanks;
  lines = s.lines ++ line ∷ [];
  open_so_far = record { each_blank = s.open_so_far.each_blank; each_line = all_push IsFullLine s.lines line s.open_so_far.each_line (is, full) };
  seen_is = seen_push s.lines line;
  split = s.split ∙ ap (λ (t : List ℕ). joined (s.blanks ++ s.lines) ++ t) e ∙ sym (joined_push (s.blanks ++ s.lines) line tail)
      ∙ ap (λ (ls : List (List ℕ)). joined ls ++ tail) (append_assoc s.blanks s.lines (line ∷ []));
}

pub scan_blank : (bytes rest line tail : List ℕ) → IsScanned bytes rest false → rest ≡ line ++ 10 ∷ tail → IsEmptyLine line → IsScanned bytes tail false
scan_blank bytes rest line tail s e empty =
    let none : s.lines ≡ [] = no_lines s.lines s.seen_is in
    let all : s.blanks ++ s.lines ≡ s.blanks = ap (λ (ls : List (List ℕ)). s.blanks ++ ls) none ∙ append-nil s.blanks in
    record {
      blanks = s.blanks ++ line ∷ [];
      lines = [];
      open_so_far = record { each_blank = all_push IsEmptyLine s.blanks line s.open_so_far.each_blank empty; each_line = tt };
      seen_is = refl;
      split = s.split ∙ ap (λ (t : List ℕ). joined (s.blanks ++ s.lines) ++ t) e ∙ ap (λ (ls : List (List ℕ)). joined ls ++ (line ++ 10 ∷ tail)) all
          ∙ sym (joined_push s.blanks line tail) ∙ ap (λ (ls : List (List ℕ)). joined ls ++ tail) (sym (append-nil (s.blanks ++ line ∷ [])));
    }

pub scan_end : (bytes rest line tail : List ℕ) → IsScanned bytes rest true → rest ≡ line ++ 10 ∷ tail → IsEmptyLine line → IsWholeHead (take (length bytes - length tail) bytes)
scan_end bytes rest line tail s e empty =
    let whole : bytes ≡ joined (s.blanks ++ (s.lines ++ line ∷ [])) ++ tail = s.split ∙ ap (λ (t : List ℕ). joined (s.blanks ++ s.lines) ++ t) e ∙ sym (joined_push (s.blanks ++ s.lines) line tail)
    ∙ ap (λ (ls : List (List ℕ)). joined ls ++ tail) (append_assoc s.blanks s.lines (line ∷ [])) in
    let n : length (joined (s.blanks ++ (s.lines ++ line ∷ []))) ≡ length bytes - length tail = omega (arith, ap length whole, length-append (joined (s.blanks ++ (s.lines ++ line ∷ []))) tail) in
    let front : take (length bytes - length tail) bytes ≡ joined (s.blanks ++ (s.lines ++ line ∷ [])) = ap (take (length bytes - length tail)) whole ∙ take_at (joined (s.blanks ++ (s.lines ++ line ∷ []))) tail (length bytes - length tail) n in
    record {
      blanks = s.blanks;
      lines = s.lines;
      last = line;
      each_blank = s.open_so_far.each_blank;
      each_line = s.open_so_far.each_line;
      some = some_lines s.lines s.seen_is;
      last_empty = empty;
      spelled = front;
    }

-- no whole head begins another
pub split_end : (l : List ℕ) (ls : List (List ℕ)) → (front : List (List ℕ)) × (z : List ℕ) × (l ∷ ls ≡ front ++ z ∷ [])
split_end l [] = ([], l, refl)
split_end l (k ∷ ls) =
    let r = split_end k ls in
    (l ∷ r.0, r.1, ap (λ (t : List (List ℕ)). l ∷ t) r.2)

nothing_more : (v w : List (List ℕ)) (b c d : List (List ℕ)) (last final : List ℕ) (more : List (List ℕ)) → IsOpen v w → IsOpen c d → 0 < length d → IsEmptyLine last
    → v ++ (w ++ final ∷ []) ≡ (c ++ (d ++ last ∷ [])) ++ more → more ≡ []
nothing_more v w b c d last final [] o p some empty e = refl
nothing_more v w b c d last final (m ∷ ms) o p some empty e =
    let r = split_end m ms in
    let regrouped : (v ++ w) ++ final ∷ [] ≡ ((c ++ (d ++ last ∷ [])) ++ r.0) ++ r.1 ∷ [] =
    append_assoc v w (final ∷ []) ∙ e ∙ ap (λ (t : List (List ℕ)). (c ++ (d ++ last ∷ [])) ++ t) r.2 ∙ sym (append_assoc (c ++ (d ++ last ∷ [])) r.0 (r.1 ∷ [])) in
    let front : v ++ w ≡ (c ++ (d ++ last ∷ [])) ++ r.0 = (same_from_push (v ++ w) ((c ++ (d ++ last ∷ [])) ++ r.0) final r.1 regrouped).0 in
    let right : v ++ w ≡ c ++ (d ++ last ∷ r.0) = front ∙ simp append_assoc in
    absurd (none_ends v w c d last r.0 o p some empty right)

pub one_whole : (a b rest : List ℕ) → IsWholeHead a → IsWholeHead b → a ≡ b ++ rest → rest ≡ []
one_whole a b rest v w e =
    let both : joined (v.blanks ++ (v.lines ++ v.last ∷ [])) ++ [] ≡ joined (w.blanks ++ (w.lines ++ w.last ∷ [])) ++ rest =
    append-nil (joined (v.blanks ++ (v.lines ++ v.last ∷ []))) ∙ sym v.spelled ∙ e ∙ ap (λ (t : List ℕ). t ++ rest) w.spelled in
    let r = lines_front (v.blanks ++ (v.lines ++ v.last ∷ [])) (w.blanks ++ (w.lines ++ w.last ∷ [])) [] rest (whole_lines a v) (whole_lines b w) refl both in
    let none : r.0 ≡ [] = nothing_more v.blanks v.lines [] w.blanks w.lines w.last v.last r.0 (record { each_blank = v.each_blank; each_line = v.each_line }) (record { each_blank = w.each_blank; each_line = w.each_line }) w.some w.last_empty r.1 in
    let same : v.blanks ++ (v.lines ++ v.last ∷ []) ≡ w.blanks ++ (w.lines ++ w.last ∷ []) = r.1 ∙ ap (λ (t : List (List ℕ)). (w.blanks ++ (w.lines ++ w.last ∷ [])) ++ t) none ∙ append-nil (w.blanks ++ (w.lines ++ w.last ∷ [])) in
    let equal : a ≡ b = v.spelled ∙ ap joined same ∙ sym w.spelled in
    nil_from_length rest (omega (arith, ap length e, ap length equal, length-append b rest))
