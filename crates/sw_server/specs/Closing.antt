-- How a server is closed, once no connection comes any more.
use Rattle.std.specs.Prelude.{◌≡◌, ℕ, Bool, true, false, codes, List, [], ◌∷◌, ◌++◌}
use Rattle.std.specs.Fmt.{decimal}
use Rattle.sw_ring.specs.Cluster.{ClusterModel, ids_of}
use Rattle.sw_pass.specs.declared.known.Known.{Known}
use Rattle.sw_cell.specs.Learning.{HasLearnt}
use Rattle.sw_local.specs.Link.{LocalModel}
use Rattle.sw_law_served.specs.Served.{local_ways}
use Rattle.sw_serve.specs.Serving.{IsProperFront}
use Rattle.sw_serve.specs.Soundly.{fresh_link}
use Rattle.sw_server.specs.Passes.{RunPasses}
use Rattle.sw_server.specs.declared.end.ServeEnd.{ServeEnd}
use Rattle.sw_server.specs.declared.end.ServeEnd.TheVariants.{Closed, NoMemory, WriteFault}

abbrev pub closed_text : (count : ℕ) → List ℕ
closed_text count = codes "closed " ++ decimal count ++ 10 ∷ []

module _ {T : Type 0} (cluster : ClusterModel) (tells : Bool) (shows : T → ℕ → Type 0) (clock : T) where
  -- Passes ran, one of each device, over a link that no call was lost of: from what a seat knew, and has learnt since, to what it knows then; and
  -- whether a node wanted memory.
  pub record RunOnce (is_whole wants : Bool) (before after : Known) : Type 0 where
    pub first : Known
    pub learnt : HasLearnt cluster before first
    pub last : LocalModel T
    pub last_is : last.known ≡ after
    pub passes : RunPasses (local_ways cluster tells shows) cluster (ids_of cluster) is_whole (fresh_link first clock) last
    pub wants_is : last.wants ≡ wants

  -- They ran to their ends and without a node's want of memory, and the number of connections was written, or a front of its line, or none where
  -- memory was wanted.
  abbrev pub Closes : (count : ℕ) → (before : Known) → ServeEnd → (after : Known) → (told : List ℕ) → Type 0
  Closes count before (Closed told_count) after told = RunOnce true false before after × (told_count ≡ count) × (told ≡ closed_text count)
  Closes count before WriteFault after told = RunOnce true false before after × IsProperFront told (closed_text count)
  Closes count before NoMemory after told = (told ≡ []) × (is_whole : Bool) × (wants : Bool) × RunOnce is_whole wants before after
  Closes count before other after told = ⊥
