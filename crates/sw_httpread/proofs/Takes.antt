-- Chunks that are read and used, and what comes of a body.
use Rattle.std.proofs.Common.{◌≡◌, ◌≤◌, ◌<◌, inl, inr, ℕ, List, [], ◌++◌, length, Option, Err, refl, sym, ap, ◌∙◌, subst, arith, append_assoc}
use Rattle.std.specs.Io.KnownBytes.{IsAtEnd}
use Rattle.std.proofs.KnownBytes.{Consumes-nil, Consumes-trans}
use Rattle.std.proofs.lemmas.List.{append-nil}
use Rattle.sw_io.specs.declared.source.ReadError.{ReadError}
use Rattle.sw_io.specs.declared.source.ReadError.TheVariants.{Failed, NoMemory as WantOfMemory}
use Rattle.sw_httpread.specs.Reading.{Grew, IsNeeded}
use Rattle.sw_httpread.specs.Chunks.{greatest_body, Standing, AChunk, TheLast, OutOfForm, TooLong, Undecided, Stands}
use Rattle.sw_httpread.specs.Bodies.{Chunk, body_of, BeginsChunks, IsBodyNext, IsOpen, ReadsBody, TookChunks, next_of}
use Rattle.sw_httpread.specs.declared.body.Framing.TheVariants as framing
use Rattle.sw_httpread.specs.declared.body.BodyNext.{BodyNext}
use Rattle.sw_httpread.specs.declared.body.BodyNext.TheVariants.{Body, Cut, BadChunk, TooLarge, ReadFault, NoMemory}
use Rattle.sw_httpread.proofs.Chunks.{begins_more, begins_push, stands_chunk}

-- ---- chunks

pub took_start : (a : Option (List ℕ)) (x : List ℕ) → TookChunks a a x x []
took_start a x = record {
  got = [];
  consumed = Consumes-nil a;
  needed = inl refl;
  chunks = [];
  begins = record { split = append-nil x; each = tt; bound = omega arith };
  data_of = refl;
}

pub took_bound : (a b : Option (List ℕ)) (x carry body : List ℕ) → TookChunks a b x carry body → length body ≤ greatest_body
took_bound a b x carry body t = omega (arith, t.begins.bound, ap length t.data_of)

-- what is had once more was read
had_more : (x got carry more : List ℕ) (chunks : List Chunk) → BeginsChunks (x ++ got) chunks carry → BeginsChunks (x ++ (got ++ more)) chunks (carry ++ more)
had_more x got carry more chunks b = subst (λ (t : List ℕ). BeginsChunks t chunks (carry ++ more)) (append_assoc x got more) (begins_more (x ++ got) carry more chunks b)

took_needed : (x got carry more body : List ℕ) (chunks : List Chunk) → BeginsChunks (x ++ got) chunks carry → body ≡ body_of chunks → IsNeeded (IsOpen framing.Chunked) x got
    → IsNeeded (λ t. Stands (length body) t Undecided) carry more → IsNeeded (IsOpen framing.Chunked) x (got ++ more)
took_needed x got carry more body chunks b e before (inl none) =
    subst (IsNeeded (IsOpen framing.Chunked) x) (sym (ap (λ (t : List ℕ). got ++ t) none ∙ append-nil got)) before
took_needed x got carry more body chunks b e before (inr n) =
    inr (
      got ++ n.0,
      n.1,
      ap (λ (t : List ℕ). got ++ t) n.2 ∙ sym (append_assoc got n.0 n.1),
      n.3,
      (carry ++ n.0, (chunks, had_more x got carry n.0 chunks b, subst (λ (d : List ℕ). Stands (length d) (carry ++ n.0) Undecided) e n.4)),
    )

pub took_read : (a b c : Option (List ℕ)) (x carry carry' body : List ℕ) → TookChunks a b x carry body → Grew (λ t. Stands (length body) t Undecided) b c carry carry' → TookChunks a c x carry' body
took_read a b c x carry carry' body t g = record {
  got = t.got ++ g.got;
  consumed = Consumes-trans a b c t.got g.got t.consumed g.consumed;
  needed = took_needed x t.got carry g.got body t.chunks t.begins t.data_of t.needed g.needed;
  chunks = t.chunks;
  begins = subst (λ (r : List ℕ). BeginsChunks (x ++ (t.got ++ g.got)) t.chunks r) (sym g.grown) (had_more x t.got carry g.got t.chunks t.begins);
  data_of = t.data_of;
}

pub took_chunk : (a b : Option (List ℕ)) (x carry body data_bytes rest : List ℕ) → TookChunks a b x carry body → Stands (length body) carry (AChunk data_bytes rest) → TookChunks a b x rest (body ++ data_bytes)
took_chunk a b x carry body data_bytes rest t s =
    let p = begins_push (x ++ t.got) carry rest data_bytes t.chunks t.begins (subst (λ (d : List ℕ). Stands (length d) carry (AChunk data_bytes rest)) t.data_of s) in
    record {
      got = t.got;
      consumed = t.consumed;
      needed = t.needed;
      chunks = p.chunks;
      begins = p.begins;
      data_of = ap (λ (d : List ℕ). d ++ data_bytes) t.data_of ∙ p.data_of;
    }

-- the same by the body's length, as it was found
pub took_next : (a b c : Option (List ℕ)) (x carry carry' body : List ℕ) (so_far : ℕ) → so_far ≡ length body → TookChunks a b x carry body → Grew (λ t. Stands so_far t Undecided) b c carry carry' → TookChunks a c x carry' body
took_next a b c x carry carry' body so_far e t g = took_read a b c x carry carry' body t (subst (λ (n : ℕ). Grew (λ t. Stands n t Undecided) b c carry carry') e g)

pub stands_at : (so_far : ℕ) (carry body : List ℕ) (what : Standing) → so_far ≡ length body → Stands so_far carry what → Stands (length body) carry what
stands_at so_far carry body what e s = subst (λ (n : ℕ). Stands n carry what) e s

pub chunk_some : (so_far : ℕ) (carry data_bytes rest : List ℕ) → Stands so_far carry (AChunk data_bytes rest) → 0 < length data_bytes
chunk_some so_far carry data_bytes rest s = (stands_chunk so_far carry data_bytes rest s).is.some

-- ---- what comes of a chunked body

reads : (a b : Option (List ℕ)) (x carry body rest : List ℕ) (next : BodyNext) (t : TookChunks a b x carry body) → IsBodyNext framing.Chunked (x ++ t.got) b next rest → ReadsBody framing.Chunked a b x rest next
reads a b x carry body rest next t n = record { got = t.got; consumed = t.consumed; needed = t.needed; outcome = n }

at_chunks : (a b : Option (List ℕ)) (x carry body : List ℕ) (what : Standing) (t : TookChunks a b x carry body) → Stands (length body) carry what → Stands (length (body_of t.chunks)) carry what
at_chunks a b x carry body what t s = subst (λ (d : List ℕ). Stands (length d) carry what) t.data_of s

pub reads_last : (a b : Option (List ℕ)) (x carry body rest : List ℕ) → TookChunks a b x carry body → Stands (length body) carry (TheLast rest) → ReadsBody framing.Chunked a b x rest (Body body)
reads_last a b x carry body rest t s = reads a b x carry body rest (Body body) t (t.chunks, carry, t.begins, t.data_of, s)

pub reads_bad : (a b : Option (List ℕ)) (x carry body : List ℕ) → TookChunks a b x carry body → Stands (length body) carry OutOfForm → ReadsBody framing.Chunked a b x carry BadChunk
reads_bad a b x carry body t s = reads a b x carry body carry BadChunk t (t.chunks, t.begins, at_chunks a b x carry body OutOfForm t s)

pub reads_too_large : (a b : Option (List ℕ)) (x carry body : List ℕ) → TookChunks a b x carry body → Stands (length body) carry TooLong → ReadsBody framing.Chunked a b x carry TooLarge
reads_too_large a b x carry body t s = reads a b x carry body carry TooLarge t (t.chunks, t.begins, at_chunks a b x carry body TooLong t s)

pub reads_cut : (a b : Option (List ℕ)) (x carry body : List ℕ) → TookChunks a b x carry body → Stands (length body) carry Undecided → IsAtEnd b → ReadsBody framing.Chunked a b x carry Cut
reads_cut a b x carry body t s end = reads a b x carry body carry Cut t (end, (t.chunks, t.begins, at_chunks a b x carry body Undecided t s))

pub reads_failed : (a b : Option (List ℕ)) (x carry body : List ℕ) → TookChunks a b x carry body → Stands (length body) carry Undecided → ReadsBody framing.Chunked a b x carry ReadFault
reads_failed a b x carry body t s = reads a b x carry body carry ReadFault t (t.chunks, t.begins, at_chunks a b x carry body Undecided t s)

pub reads_no_memory : (a b : Option (List ℕ)) (x carry body : List ℕ) → TookChunks a b x carry body → ReadsBody framing.Chunked a b x carry NoMemory
reads_no_memory a b x carry body t = reads a b x carry body carry NoMemory t (t.chunks, t.begins)

pub reads_err : (a b : Option (List ℕ)) (x carry body : List ℕ) (e : ReadError) → TookChunks a b x carry body → (e ≡ Failed → Stands (length body) carry Undecided) → ReadsBody framing.Chunked a b x carry (next_of (Err e))
reads_err a b x carry body Failed t s = reads_failed a b x carry body t (s refl)
reads_err a b x carry body WantOfMemory t s = reads_no_memory a b x carry body t

-- ---- no body

pub reads_none : (a : Option (List ℕ)) (x : List ℕ) → ReadsBody framing.None a a x x (Body [])
reads_none a x = record { got = []; consumed = Consumes-nil a; needed = inl refl; outcome = (refl, sym (append-nil x)) }
