-- The MD5s that end the archives of a put.
use Rattle.std.proofs.Common.{◌≡◌, ℕ, ◌<◌, ◌+◌, List, [], length, get_or, ap, ◌∙◌, arith}
use Rattle.std.proofs.lemmas.List.FromFn.{get_or-map-range_with_len, length-map-range_with_len}
use Rattle.sw_types.specs.Name.{NameModel}
use Rattle.sw_types.specs.Object.{ObjectModel}
use Rattle.sw_types.specs.Policy.{PolicyModel}
use Rattle.sw_archive.specs.Put.{put_seal, put_seals}

-- as many as archives
pub length-put_seals : (policy : PolicyModel) (stamp : ℕ) (name : NameModel) (object : ObjectModel) → length (put_seals policy stamp name object) ≡ policy.k + policy.m
length-put_seals policy stamp name object = length-map-range_with_len (put_seal policy stamp name object) 0 (policy.k + policy.m)

-- that of an index
pub seal_at : (policy : PolicyModel) (stamp : ℕ) (name : NameModel) (object : ObjectModel) (seals : List (List ℕ)) (index : ℕ) → seals ≡ put_seals policy stamp name object
    → index < policy.k + policy.m → get_or seals index [] ≡ put_seal policy stamp name object index
seal_at policy stamp name object seals index are below =
    ap (λ (these : List (List ℕ)). get_or these index []) are ∙ get_or-map-range_with_len (put_seal policy stamp name object) 0 (policy.k + policy.m) index index [] below (omega arith)
