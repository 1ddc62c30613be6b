-- A world in which nothing was started stands for the empty one.
use Rattle.std.proofs.Common.{◌≡◌, ℕ, suc, false, not, List, [], Some, None, refl, sym, ap, subst, arith}
use Rattle.std.specs.List.{AllZip, slice_get}
use Rattle.std.proofs.lemmas.Option.{none-some}
use Rattle.sw_diskfile.proofs.Lists.{Contains-none}
use Rattle.sw_ring.specs.Cluster.{ClusterModel, KeepsRules}
use Rattle.sw_ring.specs.Ring.{is_among}
use Rattle.sw_law_scene.specs.Devices.{no_folders}
use Rattle.sw_core.specs.World.{first_clock}
use Rattle.sw_core.proofs.Numbered.{none-numbered}
use Rattle.sw_sim_nodes.specs.Nodes.{devices_of}
use Rattle.sw_sim_world.specs.ScriptedWorld.{empty_script}
use Rattle.sw_sim_world.specs.Standing.{IsDeviceOf, IsKeptOf, IsLetterOf, StandsFor, WorldModel}
use Rattle.sw_sim_exchange.specs.declared.letter.Letter.{Letter}
use Rattle.sw_sim_exchange.specs.declared.operating.Operating.{Operating}

-- no disk has a file, and all devices are up
record IsFresh (model : WorldModel) : Type 0 where
  pub rules : KeepsRules model.cluster
  pub goes_on : model.is_wanting ≡ false
  pub up : model.down ≡ []
  pub empty : (device : ℕ) (name : List ℕ) → devices_of model.nodes device name ≡ []
  pub clock : model.clock ≡ first_clock
  pub last : model.last ≡ None
  pub letters : model.letters ≡ []
  pub first : model.first ≡ 0
  pub operations : model.operations ≡ []

module _ (model : WorldModel) (fresh : IsFresh model) where
  -- no letter was made
  no_letter : (slot : ℕ) (letter : Letter) → slice_get model.letters slot ≡ Some letter → ⊥
  no_letter slot letter is = none-some letter (subst (λ (letters : List Letter). slice_get letters slot ≡ Some letter) fresh.letters is)

  -- each device is up and has no file
  device_stands : (device : ℕ) → IsDeviceOf model (empty_script model.cluster) device
  device_stands device = record {
    folders = no_folders;
    sure = refl;
    same = λ name. sym (fresh.empty device name);
    is_up = ap (λ (down : List ℕ). not (is_among down device)) (sym fresh.up);
  }

  -- it stands for the empty world
  stands_empty : StandsFor model (empty_script model.cluster)
  stands_empty = record {
    goes_on = fresh.goes_on;
    events = [];
    run = record { rules = fresh.rules; lead = refl };
    cluster_is = refl;
    clock_is = sym fresh.clock;
    last_is = sym fresh.last;
    devices = λ device member. device_stands device;
    letters = subst (λ (letters : List Letter). AllZip IsLetterOf letters []) (sym fresh.letters) tt;
    marked = λ slot letter is. absurd (no_letter slot letter is);
    within = λ message has. absurd (Contains-none message has);
    first = omega (arith, fresh.first);
    delivered = λ slot letter before is. absurd (no_letter slot letter is);
    operations = subst (λ (operations : List Operating). AllZip IsKeptOf operations []) (sym fresh.operations) tt;
    clusters = λ number operation is. absurd (none-numbered number operation is);
    requests = λ at number sent has. absurd (Contains-none _ has);
    numbers = λ slot letter is. absurd (no_letter slot letter is);
    closed = λ slot at number sent reply is has. absurd (Contains-none (suc slot) has);
  }

-- so does one of which all this is known
pub fresh_stands : (model : WorldModel) (cluster : ClusterModel) → model.cluster ≡ cluster → KeepsRules model.cluster → model.is_wanting ≡ false → model.down ≡ [] → ((device : ℕ) (name : List ℕ) → devices_of model.nodes device name ≡ [])
    → model.clock ≡ first_clock → model.last ≡ None → model.letters ≡ [] → model.first ≡ 0 → model.operations ≡ [] → StandsFor model (empty_script cluster)
fresh_stands model cluster same rules goes_on up empty clock last letters first operations =
    subst (λ (one : ClusterModel). StandsFor model (empty_script one)) same
    (stands_empty model (record { rules = rules; goes_on = goes_on; up = up; empty = empty; clock = clock; last = last; letters = letters; first = first; operations = operations }))
