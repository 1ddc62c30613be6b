-- A test of the puts and deletes that a link would tell, by which what it tells is sound.
use Rattle.std.specs.Prelude.{ℕ, ◌==◌, Bool, true, not, ◌&&◌, if◌then◌else◌, is_none, nat_eq, nat_le, nat_lt, List, [], ◌∷◌, ◌++◌, length, map, Option, Some, None}
use Rattle.std.specs.Cmp.Lexicographic.{pointwise}
use Rattle.std.specs.List.{list_all}
use Rattle.md5.specs.Md5.{md5}
use Rattle.sw_types.specs.Head.{head_fault}
use Rattle.sw_types.specs.Name.{name_fault}
use Rattle.sw_types.specs.Object.{ObjectModel, greatest_body}
use Rattle.sw_types.specs.Policy.{PolicyModel, policy_fault}
use Rattle.sw_types.specs.Stamp.{greatest_stamp}
use Rattle.sw_message.specs.Learnt.{Booked, Learnt, Marked}

abbrev pub is_byte : ℕ → Bool
is_byte byte = nat_lt byte 256

-- whether an object keeps its rules
unfoldable pub is_object : ObjectModel → Bool
is_object object =
    is_none (head_fault object.head) && (nat_le (length object.body) greatest_body && (list_all is_byte object.body && pointwise nat_eq object.body_md5 (md5 object.body)))

-- whether a put keeps the bounds of what may be put
unfoldable pub is_put : PolicyModel → Booked → Bool
is_put policy booked = is_none (policy_fault policy) && (nat_le booked.stamp greatest_stamp && (is_none (name_fault booked.name) && is_object booked.object))

-- the stamps of puts, and of deletes
abbrev pub stamps_of_book : List Booked → List ℕ
stamps_of_book book = map (λ (booked : Booked). booked.stamp) book

abbrev pub stamps_of_marks : List Marked → List ℕ
stamps_of_marks marks = map (λ (marked : Marked). marked.stamp) marks

-- all stamps that were learnt
abbrev pub stamps_of : Learnt → List ℕ
stamps_of learnt = stamps_of_book learnt.book ++ stamps_of_marks learnt.marks

abbrev pub is_other : ℕ → ℕ → Bool
is_other n m = not (m == n)

-- whether no two of some numbers are equal
abbrev pub are_distinct : List ℕ → Bool
are_distinct [] = true
are_distinct (n ∷ numbers) = list_all (is_other n) numbers && are_distinct numbers

-- whether each put keeps its bounds, and no two puts or deletes have one stamp
abbrev pub is_sound_learnt : PolicyModel → Learnt → Bool
is_sound_learnt policy learnt = list_all (is_put policy) learnt.book && are_distinct (stamps_of learnt)

-- what was learnt, where it is sound
abbrev pub told_soundly : PolicyModel → Learnt → Option Learnt
told_soundly policy learnt = if is_sound_learnt policy learnt then Some learnt else None
