-- The changes of the table that leave each archive in the files of a place that of a put.
use Rattle.std.proofs.Common.{◌≡◌, ℕ, Bool, true, false, List, [], sym, subst, arith}
use Rattle.std.specs.List.{All}
use Rattle.std.proofs.lemmas.List.Elements.{All-nil}
use Rattle.sw_types.proofs.Policies.{bounds}
use Rattle.sw_disk.specs.Folder.{Change, Rename}
use Rattle.sw_hashpath.specs.FileName.{IsFileName}
use Rattle.sw_hashpath.specs.Place.{PlaceModel}
use Rattle.sw_hashpath.specs.declared.file_name.FileName.TheVariants.{Data}
use Rattle.sw_hashdir.proofs.Texts.{one_text}
use Rattle.sw_diskfile.specs.Changes.{new_file}
use Rattle.sw_ring.specs.Cluster.{ClusterModel}
use Rattle.sw_message.specs.Learnt.{Booked, IsSoundBook}
use Rattle.sw_message.specs.Table.{durable_text, plain_text, tombstone_text}
use Rattle.sw_message.specs.Warrant.{IsOfPut}
use Rattle.sw_law_scene.specs.Filed.{IsFiled}
use Rattle.sw_law_scene.proofs.Changed.{Keeps}
use Rattle.sw_law_scene.proofs.Tombstones.{no_archive}

module _ (cluster : ClusterModel) (book : List Booked) (place : PlaceModel) where
  -- a change leaves them so, and so do some
  abbrev pub Leaves : Change → Type 0
  Leaves change = Keeps (IsFiled cluster book place) change

  abbrev pub Leave : List Change → Type 0
  Leave changes = All (Keeps (IsFiled cluster book place)) changes

  pub none : Leave []
  none = All-nil (Keeps (IsFiled cluster book place))

  of_name : (stamp index other at : ℕ) (a b : Bool) (bytes : List ℕ) → Data stamp index a ≡ Data other at b → IsOfPut cluster book place stamp index bytes → IsOfPut cluster book place other at bytes
  of_name stamp index other at a b bytes same is =
      let stamps : stamp ≡ other = cc in
      let indices : index ≡ at = cc in
      subst (λ (i : ℕ). IsOfPut cluster book place other i bytes) indices (subst (λ (s : ℕ). IsOfPut cluster book place s index bytes) stamps is)

  pub archive-leaves : IsSoundBook cluster.policy book → (stamp index : ℕ) (bytes : List ℕ) → IsOfPut cluster book place stamp index bytes → Leaves (new_file (plain_text stamp index) bytes)
  archive-leaves sound stamp index bytes is = λ other at durable is_name same.
      let put = sound.puts is.booked is.known in
      let made : IsFileName (Data stamp index false) = (omega (arith, put.stamp_bound, is.stamp_is), omega (arith, is.index_below, (bounds cluster.policy put.policy_rules).total)) in
      of_name stamp index other at false durable bytes (one_text (Data stamp index false) (Data other at durable) made is_name same) is

  pub commit-leaves : (stamp index : ℕ) → IsFileName (Data stamp index false) → Leaves (Rename (plain_text stamp index) (durable_text stamp index))
  commit-leaves stamp index made = λ file named filed other at durable is_name same.
      of_name stamp index other at true durable file.content.bytes (one_text (Data stamp index true) (Data other at durable) made is_name same) (filed stamp index false made named)

  pub tombstone-leaves : (stamp : ℕ) → Leaves (new_file (tombstone_text stamp) [])
  tombstone-leaves stamp = λ other at durable is_name same. absurd (no_archive other at durable stamp (sym same))
