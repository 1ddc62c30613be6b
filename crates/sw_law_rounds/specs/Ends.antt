-- What the end of a get tells of a stamp.
use Rattle.std.specs.Prelude.{◌≡◌, ◌≤◌, ◌<◌, ℕ, length, ⊤}
use Rattle.sw_get.specs.declared.end.GetEnd.{GetEnd}
use Rattle.sw_get.specs.declared.end.GetEnd.TheVariants.{Absent, Buried, Found, Overtaken, TooFew, Unanswered}

-- it shows the stamp or something newer: an object of that stamp or a later one, or a later tombstone
abbrev pub Shows : ℕ → GetEnd → Type 0
Shows stamp (Found other object sources) = stamp ≤ other
Shows stamp (Buried other) = stamp < other
Shows stamp Absent = ⊥
Shows stamp (Unanswered misses) = ⊥
Shows stamp (TooFew other have) = ⊥
Shows stamp (Overtaken events) = ⊥

-- it tells of nothing older: neither that there is nothing, nor an object or a tombstone of an earlier stamp
abbrev pub IsNotOlder : ℕ → GetEnd → Type 0
IsNotOlder stamp Absent = ⊥
IsNotOlder stamp (Found other object sources) = stamp ≤ other
IsNotOlder stamp (Buried other) = stamp ≤ other
IsNotOlder stamp (Unanswered misses) = ⊤
IsNotOlder stamp (TooFew other have) = stamp ≤ other
IsNotOlder stamp (Overtaken events) = ⊤

-- the get was overtaken
abbrev pub IsOvertaken : GetEnd → Type 0
IsOvertaken (Overtaken events) = length events ≡ 8
IsOvertaken end = ⊥
