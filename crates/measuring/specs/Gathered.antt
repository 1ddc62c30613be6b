-- Fragments of a segment, gathered.
use Rattle.std.specs.Prelude.{ℕ, List, length, map}
use Rattle.std.specs.List.{range_with_len}
use Rattle.sw_cauchy.specs.Share.{GatherModel, Share}
use Rattle.sw_cauchy.specs.Stripe.{fragment_width, segment_fragment}

-- the fragment of an index, with it
abbrev pub segment_share : ℕ → List ℕ → ℕ → Share
segment_share k segment index = record { index = index; bytes = segment_fragment k segment index }

-- so many fragments, of the indices from the first on, in this order
abbrev pub gathered_from : ℕ → ℕ → List ℕ → ℕ → ℕ → GatherModel
gathered_from k m segment first count = record {
  k = k;
  m = m;
  width = fragment_width k (length segment);
  shares = map (segment_share k segment) (range_with_len first count);
}
