-- Places of names: a hash, and the partition that its first bytes give. As in Swift, a name is hashed by MD5 with a prefix
-- and a suffix of the cluster's, and its folder is named by partition, the last three hexadecimal digits, and the hash.
use Rattle.std.specs.Prelude.{◌≡◌, ℕ, ◌-◌, ◌/◌, ◌^◌, codes, List, ◌∷◌, ◌++◌, length, take, drop}
use Rattle.std.specs.Fmt.{decimal}
use Rattle.std.specs.Int.{from_be_bytes, w32}
use Rattle.hex.specs.Hex.{encode_lower}
use Rattle.md5.specs.Md5.{md5}
use Rattle.sw_types.specs.Name.{NameModel, path_of}
use Rattle.sw_words.specs.Bytes.{IsBytes}

-- a partition and a hash, which may be another partition's
pub record PlaceModel : Type 0 where
  pub part : ℕ
  pub hash : List ℕ

-- a hash is sixteen bytes
pub record IsHash (hash : List ℕ) : Type 0 where
  pub sixteen : length hash ≡ 16
  pub bytes : IsBytes hash

-- the hash of a path, between a prefix and a suffix
abbrev pub hash_of_path : List ℕ → List ℕ → List ℕ → List ℕ
hash_of_path path prefix suffix = md5 (prefix ++ path ++ suffix)

-- the hash of a name
abbrev pub hash_of : NameModel → List ℕ → List ℕ → List ℕ
hash_of name prefix suffix = hash_of_path (path_of name) prefix suffix

-- the partition of a hash, of 2^power: the highest bits of its first four bytes
abbrev pub part_of : List ℕ → ℕ → ℕ
part_of hash power = from_be_bytes w32 (take 4 hash) / 2 ^ (32 - power)

-- the place of a hash
abbrev pub place_of : List ℕ → ℕ → PlaceModel
place_of hash power = record { part = part_of hash power; hash = hash }

-- a place whose partition is that of its hash
pub record IsPlace (power : ℕ) (place : PlaceModel) : Type 0 where
  pub hash : IsHash place.hash
  pub part : place.part ≡ part_of place.hash power

-- the last three hexadecimal digits of a hash
abbrev pub suffix_of : List ℕ → List ℕ
suffix_of hash = drop 29 (encode_lower hash)

-- the folder of a place
abbrev pub folder_of : PlaceModel → List ℕ
folder_of place = codes "objects/" ++ decimal place.part ++ 47 ∷ suffix_of place.hash ++ 47 ∷ encode_lower place.hash
