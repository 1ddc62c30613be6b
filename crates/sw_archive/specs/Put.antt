-- The archives of an object that is put.
use Rattle.std.specs.Prelude.{◌≡◌, ℕ, ◌+◌, ◌≤◌, List, length, map, None}
use Rattle.std.specs.Fork.{slice_chunk}
use Rattle.std.specs.List.{All, flat_map, range_with_len}
use Rattle.std.specs.Slice.Iter.{chunk_count}
use Rattle.md5.specs.Md5.{md5}
use Rattle.sw_types.specs.Name.{NameModel, name_fault}
use Rattle.sw_types.specs.Object.{IsObject, ObjectModel}
use Rattle.sw_types.specs.Policy.{PolicyModel, policy_fault}
use Rattle.sw_types.specs.Stamp.{greatest_stamp}
use Rattle.sw_cauchy.specs.Stripe.{segment_fragment}
use Rattle.sw_archive.specs.Archive.{ArchiveModel, archive_bytes, checked, label_bytes}

-- the segments of a body, each of so many bytes, the last one shorter where need be; an empty body has none
abbrev pub segments : ℕ → List ℕ → List (List ℕ)
segments size body = map (slice_chunk body size) (range_with_len 0 (chunk_count (length body) size))

-- fragment `index` of each segment, joined
abbrev pub payload : ℕ → ℕ → List ℕ → ℕ → List ℕ
payload k size body index = flat_map (λ segment. segment_fragment k segment index) (segments size body)

-- the fields of the archive of an index of a put
abbrev pub put_fields : PolicyModel → ℕ → NameModel → ObjectModel → ℕ → ArchiveModel
put_fields policy stamp name object index = record {
  k = policy.k;
  m = policy.m;
  index = index;
  segment = policy.segment;
  stamp = stamp;
  body_length = length object.body;
  body_md5 = object.body_md5;
  name = name;
  head = object.head;
  payload = payload policy.k policy.segment object.body index;
}

-- its bytes before the payload
abbrev pub put_label : PolicyModel → ℕ → NameModel → ObjectModel → ℕ → List ℕ
put_label policy stamp name object index = label_bytes (put_fields policy stamp name object index)

-- the archive of an index of a put
abbrev pub put_archive : PolicyModel → ℕ → NameModel → ObjectModel → ℕ → List ℕ
put_archive policy stamp name object index = archive_bytes (put_fields policy stamp name object index)

-- the MD5 that ends it, and those of all archives of a put, by index
abbrev pub put_seal : PolicyModel → ℕ → NameModel → ObjectModel → ℕ → List ℕ
put_seal policy stamp name object index = md5 (checked (put_fields policy stamp name object index))

abbrev pub put_seals : PolicyModel → ℕ → NameModel → ObjectModel → List (List ℕ)
put_seals policy stamp name object = map (put_seal policy stamp name object) (range_with_len 0 (policy.k + policy.m))

-- what is put: under a policy, at a stamp, a name and an object
pub record IsPut (policy : PolicyModel) (stamp : ℕ) (name : NameModel) (object : ObjectModel) : Type 0 where
  pub policy_rules : policy_fault policy ≡ None
  pub stamp_bound : stamp ≤ greatest_stamp
  pub name_rules : name_fault name ≡ None
  pub object_rules : IsObject object

-- these are archives of that put
abbrev pub AreOfPut : PolicyModel → ℕ → NameModel → ObjectModel → List ArchiveModel → Type 0
AreOfPut policy stamp name object archives = All (λ archive. archive ≡ put_fields policy stamp name object archive.index) archives
