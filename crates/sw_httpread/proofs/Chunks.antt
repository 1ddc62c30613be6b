-- Chunks at the front of bytes, one after another.
use Rattle.std.proofs.Common.{◌≡◌, inl, inr, ◌≤◌, ◌<◌, ℕ, ◌+◌, List, [], ◌∷◌, ◌++◌, length, refl, sym, ap, ◌∙◌, subst, arith, append_assoc, length-append}
use Rattle.std.specs.List.{AllByRecursion, flat_map}
use Rattle.std.specs.Prelude.{⊤}
use Rattle.std.proofs.lemmas.Grind.{flat_map-append}
use Rattle.std.proofs.lemmas.List.{append-nil}
use Rattle.sw_httpread.specs.Chunks.{greatest_body, Standing, AChunk, TheLast, OutOfForm, TooLong, Undecided, IsEndAt, IsDataAt, IsTrailerAt, IsSizedAt, IsLineAt, IsSized, Stands}
use Rattle.sw_httpread.specs.Bodies.{Chunk, IsChunk, chunk_bytes, body_of, BeginsChunks}
use Rattle.sw_httpread.proofs.ChunkLines.{sized_whole}
use Rattle.sw_httpread.proofs.Standings.{stands_one}

-- ---- a chunk, and that it stands there

chunk_regroup : (c : Chunk) (x : List ℕ) → chunk_bytes c ++ x ≡ c.line ++ (c.data_bytes ++ (13 ∷ 10 ∷ x))
chunk_regroup c x = simp append_assoc

chunk_stands : (so_far : ℕ) (c : Chunk) (bytes more : List ℕ) → IsChunk c → so_far + length c.data_bytes ≤ greatest_body → bytes ≡ chunk_bytes c ++ more → Stands so_far bytes (AChunk c.data_bytes more)
chunk_stands so_far c bytes more is bound e =
    inr (inr (
      c.line,
      c.data_bytes ++ (13 ∷ 10 ∷ more),
      record { split = e ∙ chunk_regroup c more; whole = sized_whole c.line (length c.data_bytes) is.sized; bound = is.bound },
      inr (length c.data_bytes, is.sized, inr (inr (is.some, bound, inr (c.data_bytes, 13, 10, more, refl, refl, inl (refl, refl, refl))))),
    ))

-- a chunk that stands at the front of some bytes
pub record HasChunk (so_far : ℕ) (bytes data_bytes more : List ℕ) : Type 0 where
  pub line : List ℕ
  pub is : IsChunk (record { line = line; data_bytes = data_bytes })
  pub split : bytes ≡ chunk_bytes (record { line = line; data_bytes = data_bytes }) ++ more
  pub bound : so_far + length data_bytes ≤ greatest_body

abbrev made : List ℕ → List ℕ → Chunk
made line data_bytes = record { line = line; data_bytes = data_bytes }

chunk_parts : (a b x y : List ℕ) → AChunk a x ≡ AChunk b y → (a ≡ b) × (x ≡ y)
chunk_parts a b x y e = (cc, cc)

end_chunk : (chunk : List ℕ) (a b : ℕ) (rest data_bytes more : List ℕ) → IsEndAt chunk a b rest (AChunk data_bytes more) → (a ≡ 13) × (b ≡ 10) × (chunk ≡ data_bytes) × (rest ≡ more)
end_chunk chunk a b rest data_bytes more (inl x) =
    let p = chunk_parts data_bytes chunk more rest x.2 in
    (x.0, x.1, sym p.0, sym p.1)
end_chunk chunk a b rest data_bytes more (inr x) = absurd (cc (x.1))

data_chunk : (n : ℕ) (bytes data_bytes more : List ℕ) → IsDataAt n bytes (AChunk data_bytes more) → (bytes ≡ data_bytes ++ (13 ∷ 10 ∷ more)) × (length data_bytes ≡ n)
data_chunk n bytes data_bytes more (inl x) = absurd (cc (x.1))
data_chunk n bytes data_bytes more (inr x) =
    let p = end_chunk x.0 x.1 x.2 x.3 data_bytes more x.6 in
    let ends : x.0 ++ x.1 ∷ x.2 ∷ x.3 ≡ data_bytes ++ (13 ∷ 10 ∷ more) = cc (p.0, p.1, p.2, p.3) in
    (x.4 ∙ ends, sym (ap length p.2) ∙ x.5)

trailer_no_chunk : (bytes data_bytes more : List ℕ) → IsTrailerAt bytes (AChunk data_bytes more) → ⊥
trailer_no_chunk bytes data_bytes more (inl x) = absurd (cc (x.1))
trailer_no_chunk bytes data_bytes more (inr (inl x)) = absurd (cc (x.1))
trailer_no_chunk bytes data_bytes more (inr (inr x)) = elim x.3 [ inl y ↦ absurd (cc (y.1)) | inr y ↦ absurd (cc (y.1)) ]

sized_chunk : (so_far n : ℕ) (bytes data_bytes more : List ℕ) → IsSizedAt so_far n bytes (AChunk data_bytes more)
    → (0 < length data_bytes) × (so_far + length data_bytes ≤ greatest_body) × (bytes ≡ data_bytes ++ (13 ∷ 10 ∷ more)) × (length data_bytes ≡ n)
sized_chunk so_far n bytes data_bytes more (inl x) = absurd (trailer_no_chunk bytes data_bytes more x.1)
sized_chunk so_far n bytes data_bytes more (inr (inl x)) = absurd (cc (x.2))
sized_chunk so_far n bytes data_bytes more (inr (inr x)) =
    let d = data_chunk n bytes data_bytes more x.2 in
    (omega (arith, x.0, d.1), omega (arith, x.1, d.1), d.0, d.1)

line_chunk : (so_far : ℕ) (line bytes data_bytes more : List ℕ) → IsLineAt so_far line bytes (AChunk data_bytes more)
    → IsSized line (length data_bytes) × (0 < length data_bytes) × (so_far + length data_bytes ≤ greatest_body) × (bytes ≡ data_bytes ++ (13 ∷ 10 ∷ more))
line_chunk so_far line bytes data_bytes more (inl x) = absurd (cc (x.1))
line_chunk so_far line bytes data_bytes more (inr x) =
    let s = sized_chunk so_far x.0 bytes data_bytes more x.2 in
    (subst (IsSized line) (sym s.3) x.1, s.0, s.1, s.2)

pub stands_chunk : (so_far : ℕ) (bytes data_bytes more : List ℕ) → Stands so_far bytes (AChunk data_bytes more) → HasChunk so_far bytes data_bytes more
stands_chunk so_far bytes data_bytes more (inl x) = absurd (cc (x.1))
stands_chunk so_far bytes data_bytes more (inr (inl x)) = absurd (cc (x.1))
stands_chunk so_far bytes data_bytes more (inr (inr x)) =
    let l = line_chunk so_far x.0 x.1 data_bytes more x.3 in
    record {
      line = x.0;
      is = record { sized = l.0; bound = x.2.bound; some = l.1 };
      split = x.2.split ∙ ap (λ (t : List ℕ). x.0 ++ t) l.3 ∙ sym (chunk_regroup (made x.0 data_bytes) more);
      bound = l.2;
    }

-- ---- chunks one after another

all_push : (chunks : List Chunk) (c : Chunk) → AllByRecursion IsChunk chunks → IsChunk c → AllByRecursion IsChunk (chunks ++ c ∷ [])
all_push [] c p q = (q, tt)
all_push (k ∷ chunks) c p q = (p.0, all_push chunks c p.1 q)

body_push : (chunks : List Chunk) (c : Chunk) → body_of (chunks ++ c ∷ []) ≡ body_of chunks ++ c.data_bytes
body_push chunks c = flat_map-append (λ (k : Chunk). k.data_bytes) chunks (c ∷ []) ∙ ap (λ (t : List ℕ). body_of chunks ++ t) (append-nil c.data_bytes)

bytes_push : (chunks : List Chunk) (c : Chunk) → flat_map chunk_bytes (chunks ++ c ∷ []) ≡ flat_map chunk_bytes chunks ++ chunk_bytes c
bytes_push chunks c = flat_map-append chunk_bytes chunks (c ∷ []) ∙ ap (λ (t : List ℕ). flat_map chunk_bytes chunks ++ t) (append-nil (chunk_bytes c))

-- chunks, and one behind them
pub record Pushed (bytes : List ℕ) (body : List ℕ) (rest : List ℕ) : Type 0 where
  pub chunks : List Chunk
  pub begins : BeginsChunks bytes chunks rest
  pub data_of : body ≡ body_of chunks

pub begins_push : (bytes rest more data_bytes : List ℕ) (chunks : List Chunk) → BeginsChunks bytes chunks rest → Stands (length (body_of chunks)) rest (AChunk data_bytes more)
    → Pushed bytes (body_of chunks ++ data_bytes) more
begins_push bytes rest more data_bytes chunks b s =
    let h = stands_chunk (length (body_of chunks)) rest data_bytes more s in
    let c : Chunk = made h.line data_bytes in
    record {
      chunks = chunks ++ c ∷ [];
      begins = record {
        split = b.split ∙ ap (λ (t : List ℕ). flat_map chunk_bytes chunks ++ t) h.split ∙ sym (append_assoc (flat_map chunk_bytes chunks) (chunk_bytes c) more)
            ∙ ap (λ (t : List ℕ). t ++ more) (sym (bytes_push chunks c));
        each = all_push chunks c b.each h.is;
        bound = omega (arith, h.bound, ap length (body_push chunks c), length-append (body_of chunks) data_bytes);
      };
      data_of = sym (body_push chunks c);
    }

pub begins_more : (bytes rest more : List ℕ) (chunks : List Chunk) → BeginsChunks bytes chunks rest → BeginsChunks (bytes ++ more) chunks (rest ++ more)
begins_more bytes rest more chunks b = record {
  split = ap (λ (t : List ℕ). t ++ more) b.split ∙ append_assoc (flat_map chunk_bytes chunks) rest more;
  each = b.each;
  bound = b.bound;
}

-- ---- one list of chunks, where something else stands behind them

-- chunks that follow one another, from some count of bytes to another
abbrev Follows : ℕ → List ℕ → List Chunk → ℕ → List ℕ → Type 0
Follows so_far bytes [] last rest = (bytes ≡ rest) × (so_far ≡ last)
Follows so_far bytes (c ∷ chunks) last rest = (more : List ℕ) × Stands so_far bytes (AChunk c.data_bytes more) × Follows (so_far + length c.data_bytes) more chunks last rest

follows : (so_far : ℕ) (bytes : List ℕ) (chunks : List Chunk) (last : ℕ) (rest : List ℕ) → bytes ≡ flat_map chunk_bytes chunks ++ rest → AllByRecursion IsChunk chunks
    → so_far + length (body_of chunks) ≡ last → last ≤ greatest_body → Follows so_far bytes chunks last rest
follows so_far bytes [] last rest split each count bound = (split, omega (arith, count))
follows so_far bytes (c ∷ chunks) last rest split each count bound =
    let more : List ℕ = flat_map chunk_bytes chunks ++ rest in
    let n : length (body_of (c ∷ chunks)) ≡ length c.data_bytes + length (body_of chunks) = length-append c.data_bytes (body_of chunks) in (
      more,
      chunk_stands so_far c bytes more each.0 (omega (arith, count, bound, n)) (split ∙ append_assoc (chunk_bytes c) (flat_map chunk_bytes chunks) rest),
      follows (so_far + length c.data_bytes) more chunks last rest refl each.1 (omega (arith, count, n)) bound,
    )

abbrev IsNoChunk : Standing → Type 0
IsNoChunk (AChunk chunk rest) = ⊥
IsNoChunk (TheLast rest) = ⊤
IsNoChunk OutOfForm = ⊤
IsNoChunk TooLong = ⊤
IsNoChunk Undecided = ⊤

no_chunk : (v : Standing) (chunk rest : List ℕ) → v ≡ AChunk chunk rest → IsNoChunk v → ⊥
no_chunk v chunk rest e none = subst IsNoChunk e none

follows_one : (so_far : ℕ) (bytes : List ℕ) (cs ds : List Chunk) (m n : ℕ) (r t : List ℕ) (v w : Standing) → Follows so_far bytes cs m r → Follows so_far bytes ds n t
    → Stands m r v → Stands n t w → IsNoChunk v → IsNoChunk w → (body_of cs ≡ body_of ds) × (r ≡ t) × (v ≡ w)
follows_one so_far bytes [] [] m n r t v w f g p q none neither =
    let rests : r ≡ t = sym f.0 ∙ g.0 in
    let counts : m ≡ n = sym f.1 ∙ g.1 in
    (refl, rests, stands_one n t v w (subst (λ (k : ℕ). Stands k t v) counts (subst (λ (b : List ℕ). Stands m b v) rests p)) q)
follows_one so_far bytes [] (d ∷ ds) m n r t v w f g p q none neither =
    let here : Stands so_far bytes v = subst (λ (k : ℕ). Stands k bytes v) (sym f.1) (subst (λ (b : List ℕ). Stands m b v) (sym f.0) p) in
    absurd (no_chunk v d.data_bytes g.0 (stands_one so_far bytes v (AChunk d.data_bytes g.0) here g.1) none)
follows_one so_far bytes (c ∷ cs) [] m n r t v w f g p q none neither =
    let here : Stands so_far bytes w = subst (λ (k : ℕ). Stands k bytes w) (sym g.1) (subst (λ (b : List ℕ). Stands n b w) (sym g.0) q) in
    absurd (no_chunk w c.data_bytes f.0 (stands_one so_far bytes w (AChunk c.data_bytes f.0) here f.1) neither)
follows_one so_far bytes (c ∷ cs) (d ∷ ds) m n r t v w f g p q none neither =
    let parts = chunk_parts c.data_bytes d.data_bytes f.0 g.0 (stands_one so_far bytes (AChunk c.data_bytes f.0) (AChunk d.data_bytes g.0) f.1 g.1) in
    let behind : Follows (so_far + length d.data_bytes) g.0 cs m r =
    subst (λ (k : ℕ). Follows k g.0 cs m r) (ap (λ (k : List ℕ). so_far + length k) parts.0) (subst (λ (b : List ℕ). Follows (so_far + length c.data_bytes) b cs m r) parts.1 f.2) in
    let others = follows_one (so_far + length d.data_bytes) g.0 cs ds m n r t v w behind g.2 p q none neither in
    let same : c.data_bytes ≡ d.data_bytes = parts.0 in
    let rest : body_of cs ≡ body_of ds = others.0 in
    (cc (same, rest), others.1, others.2)

-- chunks, and what else stands behind them
pub record Found (bytes body rest : List ℕ) (what : Standing) : Type 0 where
  pub chunks : List Chunk
  pub begins : BeginsChunks bytes chunks rest
  pub data_of : body ≡ body_of chunks
  pub stands : Stands (length body) rest what
  pub other : IsNoChunk what

found_follows : (bytes body rest : List ℕ) (what : Standing) (f : Found bytes body rest what) → Follows 0 bytes f.chunks (length body) rest
found_follows bytes body rest what f =
    let n : length body ≡ length (body_of f.chunks) = ap length f.data_of in
    follows 0 bytes f.chunks (length body) rest f.begins.split f.begins.each (omega (arith, n)) (omega (arith, n, f.begins.bound))

pub found_one : (bytes body other rest behind : List ℕ) (what that : Standing) → Found bytes body rest what → Found bytes other behind that → (body ≡ other) × (rest ≡ behind) × (what ≡ that)
found_one bytes body other rest behind what that f g =
    let r = follows_one 0 bytes f.chunks g.chunks (length body) (length other) rest behind what that (found_follows bytes body rest what f) (found_follows bytes other behind that g) f.stands g.stands f.other g.other in
    (f.data_of ∙ r.0 ∙ sym g.data_of, r.1, r.2)
