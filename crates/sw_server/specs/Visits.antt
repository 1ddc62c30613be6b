-- Connections that come through doors, and what contracts see of doors.
use Rattle.std.specs.Prelude.{◌≡◌, ℕ, zero, suc, Bool, false, List, [], ◌++◌, length, map, Option, Some, None, option_map, IfSome}
use Rattle.sw_words.specs.Counts.{one_more}

-- what contracts see of a kind of connections
pub record ConnMembers (N : Type 0) : Type 0 where
  pub remaining : N → Option (List ℕ)
  pub written : N → Option (List ℕ)
  pub faults : N → ℕ
  pub closed : N → Bool

-- what contracts see of a kind of doors, through which such connections come
pub record DoorsMembers (A N : Type 0) : Type 0 where
  pub ports : A → List ℕ
  pub is_open : A → Bool
  pub handed : A → ℕ
  pub back : A → Option (List N)
  pub left : A → Option (List N)
  pub faults : A → ℕ

-- nothing was written to it yet
pub record IsFresh {N : Type 0} (conns : ConnMembers N) (conn : N) : Type 0 where
  pub no_fault : conns.faults conn ≡ 0
  pub not_closed : conns.closed conn ≡ false
  pub not_written : IfSome (conns.written conn) (λ bytes. bytes ≡ [])

-- ---- doors, whatever kind they are

-- the bytes that come on a connection, where it tells
abbrev pub Bytes : Type 0
Bytes = Option (List ℕ)

pub record DoorsSeen : Type 0 where
  pub ports : List ℕ
  pub handed : ℕ
  pub faults : ℕ
  -- how many connections are back, and the bytes that come on each of those that are left, where the doors tell
  pub back : Option ℕ
  pub left : Option (List Bytes)

-- the bytes of the connections that are left
abbrev pub bytes_left : {N : Type 0} → ConnMembers N → Option (List N) → Option (List Bytes)
bytes_left {N} conns left = option_map (λ (all : List N). map (λ (conn : N). conns.remaining conn) all) left

abbrev pub count_back : {N : Type 0} → Option (List N) → Option ℕ
count_back {N} back = option_map (λ (all : List N). length all) back

abbrev pub seen_of : {A N : Type 0} → DoorsMembers A N → ConnMembers N → A → DoorsSeen
seen_of doors conns it = record { ports = doors.ports it; handed = doors.handed it; faults = doors.faults it; back = count_back (doors.back it); left = bytes_left conns (doors.left it) }

-- a count once so many more were counted
abbrev pub counted_with : (count more : ℕ) → ℕ
counted_with count zero = count
counted_with count (suc more) = one_more (counted_with count more)

-- so many came, the first of those that were left
abbrev pub HaveCome : (left left' : Option (List Bytes)) → (count : ℕ) → Type 0
HaveCome None left' count = left' ≡ None
HaveCome (Some all) left' count = (came : List Bytes) × (rest : List Bytes) × (all ≡ came ++ rest) × (length came ≡ count) × (left' ≡ Some rest)

-- these were taken back behind so many others, in this order
abbrev pub AreBack : {N : Type 0} → (before : Option ℕ) → (back : Option (List N)) → (went : List N) → Type 0
AreBack None back went = back ≡ None
AreBack {N} (Some number) back went = (earlier : List N) × (length earlier ≡ number) × (back ≡ Some (earlier ++ went))
