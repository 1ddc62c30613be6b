-- What a gather keeps: the indices of its shares, and their bytes one after another.
use Rattle.std.specs.Prelude.{◌≡◌, ◌≢◌, ℕ, ◌+◌, ◌*◌, ◌<◌, ◌≤◌, List, [], ◌∷◌, length, take, drop, vec_capacity}
use Rattle.std.specs.List.{All, AllPairs}
use Rattle.sw_cauchy.specs.declared.gather.Gather.TheInside.{Inside}
use Rattle.sw_cauchy.specs.Decodes.{Decodes}
use Rattle.sw_cauchy.specs.Share.{Share, GatherModel}

-- the shares of these indices, whose bytes stand one after another
abbrev pub shares_of : ℕ → List ℕ → List ℕ → List Share
shares_of width [] bytes = []
shares_of width (index ∷ indices) bytes =
    record { index = index; bytes = take width bytes } ∷ shares_of width indices (drop width bytes)

abbrev pub gather_model : Inside → GatherModel
gather_model inside = record {
  k = inside.code.k;
  m = inside.code.m;
  width = inside.width;
  shares = shares_of inside.width inside.indices.items inside.bytes.items;
}

-- There is room for k shares, and the indices of those that are here are apart. What the decoder keeps decodes the
-- fragments of its indices, which are those of the shares once there are k.
pub record IsGather (inside : Inside) : Type 0 where
  pub count : length inside.indices.items ≤ inside.code.k
  pub filled : length inside.bytes.items ≡ length inside.indices.items * inside.width
  pub below : All (λ index. index < inside.code.k + inside.code.m) inside.indices.items
  pub distinct : AllPairs (λ s t. s ≢ t) inside.indices.items
  pub index_room : inside.code.k ≤ vec_capacity inside.indices
  pub byte_room : inside.code.k * inside.width ≤ vec_capacity inside.bytes
  pub decodes : Decodes inside.code.k inside.decoder.matrix.items inside.decoder.indices.items
  pub follows : length inside.indices.items ≡ inside.code.k → inside.decoder.indices.items ≡ inside.indices.items
