use Rattle.std.proofs.Common.{◌≡◌, ◌*◌, length, take}
use Rattle.md5.specs.Md5.{digest_bytes}
use Rattle.sw_md5.proofs.last.digest_of.Given as goal

-- the bytes of the words so far
abbrev pub invariant-loop-index : goal.invariant-loop-index
invariant-loop-index l = record { long : length l.digest ≡ 16; bytes : take (4 * l.index) l.digest ≡ digest_bytes l.state l.index }
