-- The whole input: the ring's text stands before the first empty line, and the script after it.
use Rattle.std.specs.Prelude.{ℕ, ◌==◌, ◌&&◌, Bool, true, if◌then◌else◌, List, [], ◌∷◌, Result}
use Rattle.sw_ring.specs.BuiltIn.{built_in}
use Rattle.sw_ring.specs.Cluster.{ring_of}
use Rattle.sw_ring.specs.Members.{RingMembers}
use Rattle.sw_ring.specs.declared.fault.RingFault.{RingFault}

-- What stands before the first empty line, which is a line feed where a line starts, and what after it: nothing, where there
-- is none. The text starts a line or goes on in one.
abbrev pub before_empty : Bool → List ℕ → List ℕ
before_empty starts [] = []
before_empty starts (byte ∷ bytes) = if starts && (byte == 10) then [] else byte ∷ before_empty (byte == 10) bytes

abbrev pub after_empty : Bool → List ℕ → List ℕ
after_empty starts [] = []
after_empty starts (byte ∷ bytes) = if starts && (byte == 10) then bytes else after_empty (byte == 10) bytes

-- the text of the ring: the built-in one where none is given
abbrev pub ring_text : List ℕ → List ℕ
ring_text [] = built_in
ring_text (byte ∷ bytes) = byte ∷ bytes

-- the ring of an input, or the first rule that it breaks
abbrev pub ring_in : List ℕ → Result RingMembers RingFault
ring_in input = ring_of (ring_text (before_empty true input))

-- the script of an input
abbrev pub script_in : List ℕ → List ℕ
script_in input = after_empty true input
