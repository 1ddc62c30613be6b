-- The first 52 bytes of an archive, whose numbers are big-endian.
use Rattle.std.specs.Prelude.{◌≡◌, ℕ, ◌+◌, ◌<◌, ◌^◌, List, [], ◌∷◌, ◌++◌, length}
use Rattle.std.specs.Int.{w16, w32, w64, to_be_bytes}

-- what contracts see of a header
pub record HeaderModel : Type 0 where
  pub magic : List ℕ
  pub version : ℕ
  pub k : ℕ
  pub m : ℕ
  pub index : ℕ
  pub segment : ℕ
  pub stamp : ℕ
  pub body_length : ℕ
  pub body_md5 : List ℕ
  pub path_length : ℕ
  pub head_length : ℕ
  pub payload_length : ℕ

-- the header's bytes, field by field, and the bytes behind it
unfoldable pub opening : HeaderModel → List ℕ → List ℕ
opening h rest =
    h.magic  --  0, 4 bytes
    ++ (h.version ∷ h.k ∷ h.m ∷ h.index ∷ []  --  4, one byte each
    ++ (to_be_bytes w32 h.segment  --  8
    ++ (to_be_bytes w64 h.stamp  -- 12
    ++ (to_be_bytes w64 h.body_length  -- 20
    ++ (h.body_md5  -- 28, 16 bytes
    ++ (to_be_bytes w16 h.path_length  -- 44
    ++ (to_be_bytes w16 h.head_length  -- 46
    ++ (to_be_bytes w32 h.payload_length  -- 48
    ++ rest))))))))  -- 52

-- each field fits its bytes
pub record IsHeader (h : HeaderModel) : Type 0 where
  pub magic : length h.magic ≡ 4
  pub segment : h.segment < 2 ^ 32
  pub stamp : h.stamp < 2 ^ 64
  pub body_length : h.body_length < 2 ^ 64
  pub body_md5 : length h.body_md5 ≡ 16
  pub path_length : h.path_length < 2 ^ 16
  pub head_length : h.head_length < 2 ^ 16
  pub payload_length : h.payload_length < 2 ^ 32

-- how many bytes an archive with this header has: the header, the path, the head, the payload and an MD5
abbrev pub told_length : HeaderModel → ℕ
told_length h = 68 + h.path_length + h.head_length + h.payload_length
