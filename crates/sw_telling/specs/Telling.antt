-- What contracts see of a link that tells, what it tells, and what its calls and draws do.
use Rattle.std.specs.Prelude.{◌≡◌, ◌<◌, ℕ, Bool, true, false, if◌then◌else◌, [], ◌∷◌, ◌++◌, Contains, Option, Some, None, Result, Ok, Err}
use Rattle.sw_words.specs.Counts.{one_more}
use Rattle.sw_types.specs.Name.{NameModel}
use Rattle.sw_types.specs.Object.{ObjectModel}
use Rattle.sw_types.specs.Stamp.{greatest_stamp}
use Rattle.sw_ring.specs.Cluster.{KeepsRules}
use Rattle.sw_message.specs.Learnt.{Learnt}
use Rattle.sw_message.specs.Soundly.{is_sound_learnt, stamps_of, told_soundly}
use Rattle.sw_message.specs.declared.draw.DrawFault.{DrawFault}
use Rattle.sw_message.specs.declared.message.Msg.{Msg}
use Rattle.sw_message.specs.declared.reply.Reply.{Reply}
use Rattle.sw_sim_nodes.specs.Nodes as nodes
use Rattle.sw_sim_nodes.specs.Nodes.{NodesModel, devices_of}
use Rattle.sw_law_scene.specs.Filed.{AreFiled}
use Rattle.sw_law_scene.specs.Moves.{next_stamp}
use Rattle.sw_law_scene.specs.Sound.{IsDrawn}

pub record TellingModel : Type 0 where
  pub nodes : NodesModel
  -- what it has learnt since its beginning, as long as it is not silent
  pub known : Learnt
  -- what its clock shows, the last stamp that was drawn, and how many draws were refused
  pub clock : ℕ
  pub last : Option ℕ
  pub refused : ℕ
  -- memory was wanted, so it tells nothing any more
  pub is_silent : Bool

abbrev pub nothing_known : Learnt
nothing_known = record { book = []; marks = []; heard = [] }

-- What it tells: what it has learnt, unless it is silent. Puts and deletes that are not sound are told by none.
abbrev pub learnt_by : TellingModel → Option Learnt
learnt_by telling = if telling.is_silent then None else told_soundly telling.nodes.cluster.policy telling.known

-- What always holds of one that is not silent: no node wanted memory; what it has learnt is sound, and its stamps were drawn; each archive in the
-- files of its nodes is that of a put of the book.
pub record Tells (telling : TellingModel) : Type 0 where
  pub goes_on : telling.nodes.is_wanting ≡ false
  pub sound : is_sound_learnt telling.nodes.cluster.policy telling.known ≡ true
  pub drawn : (stamp : ℕ) → Contains (stamps_of telling.known) stamp → IsDrawn telling.last stamp
  pub filed : AreFiled telling.nodes.cluster telling.known.book (devices_of telling.nodes.nodes)

pub record IsTelling (telling : TellingModel) : Type 0 where
  pub rules : KeepsRules telling.nodes.cluster
  pub tells : telling.is_silent ≡ false → Tells telling

-- ---- what is learnt

-- by a call, if there is a reply
abbrev pub with_reply : Learnt → (device : ℕ) → Msg → Option Reply → Learnt
with_reply known device msg None = known
with_reply known device msg (Some reply) = record known { heard = known.heard ++ record { device = device; msg = msg; reply = reply } ∷ [] }

-- by a draw for a put of an object, or for a delete where there is none
abbrev pub with_own : Learnt → (stamp : ℕ) → NameModel → Option ObjectModel → Learnt
with_own known stamp name None = record known { marks = known.marks ++ record { stamp = stamp; name = name } ∷ [] }
with_own known stamp name (Some object) = record known { book = known.book ++ record { stamp = stamp; name = name; object = object } ∷ [] }

-- ---- calls and draws

-- One that is silent stays so; one that is not has learnt exactly this.
pub record Learns (before : TellingModel) (known : Learnt) (after : TellingModel) : Type 0 where
  pub silent : before.is_silent ≡ true → after.is_silent ≡ true
  pub known_is : after.is_silent ≡ false → after.known ≡ known

-- A call is one of the nodes, and nothing but the reply is learnt.
pub record Calls (before : TellingModel) (device : ℕ) (msg : Msg) (answer : Option Reply) (after : TellingModel) : Type 0 where
  pub nodes_are : nodes.Calls before.nodes device msg answer after.nodes
  pub learns : Learns before (with_reply before.known device msg answer) after
  pub after_is : after ≡ record before { nodes = after.nodes; known = after.known; is_silent = after.is_silent }

-- A stamp was drawn, the next one; nothing but the put or the delete is learnt.
pub record Drew (before : TellingModel) (name : NameModel) (object : Option ObjectModel) (stamp : ℕ) (after : TellingModel) : Type 0 where
  pub stamp_is : stamp ≡ next_stamp before.clock before.last
  pub learns : Learns before (with_own before.known stamp name object) after
  pub after_is : after ≡ record before { last = Some stamp; known = after.known; is_silent = after.is_silent }

-- None was, since the last had been drawn before.
pub record Spent (before after : TellingModel) : Type 0 where
  pub above : greatest_stamp < next_stamp before.clock before.last
  pub after_is : after ≡ record before { refused = one_more before.refused }

abbrev pub Draws : TellingModel → NameModel → Option ObjectModel → Result ℕ DrawFault → TellingModel → Type 0
Draws before name object (Ok stamp) after = Drew before name object stamp after
Draws before name object (Err fault) after = Spent before after

abbrev pub losses : TellingModel → ℕ
losses telling = telling.nodes.lost
