-- A message has one reply, and leads to the same folders.
use Rattle.std.proofs.Common.{◌≡◌, inl, inr, ℕ, List, Option, Some, None, sym, ap, ◌∙◌}
use Rattle.sw_disk.specs.Folder.{all_changed}
use Rattle.sw_hashpath.specs.Place.{PlaceModel, folder_of}
use Rattle.sw_diskfile.proofs.Directories.{same_or_other}
use Rattle.sw_ring.specs.Cluster.{ClusterModel}
use Rattle.sw_message.specs.Message.{place_in}
use Rattle.sw_message.specs.Step.{Folders, IsNodeStep, IsPlaceStep, IsStepAt}
use Rattle.sw_message.specs.Table.{Handling}
use Rattle.sw_message.specs.declared.message.Msg.{Msg}
use Rattle.sw_message.specs.declared.reply.Reply.{Reply}
use Rattle.sw_message.proofs.Handlings.{one_handling}
use Rattle.sw_message.proofs.Surveys.{one_answer}

module _ (cluster : ClusterModel) (device room : ℕ) (message : Msg) (before after other : Folders) (first second : Reply) where
  -- the replies and the folders are the same
  abbrev AreOne : Type 0
  AreOne = (first ≡ second) × ((name : List ℕ) → after name ≡ other name)

  one_in_place : (place : PlaceModel) → IsPlaceStep cluster device room message place before after first → IsPlaceStep cluster device room message place before other second → AreOne
  one_in_place place x y =
      let folder = folder_of place in
      let one = one_handling cluster (before folder) room x.found y.found x.is_found y.is_found device message x.handling y.handling x.handled y.handled in
      let there : after folder ≡ other folder = x.changed.changed ∙ ap (λ (h : Handling). all_changed h.changes (before folder)) one ∙ sym y.changed.changed in (
        x.replied ∙ ap (λ (h : Handling). h.reply) one ∙ sym y.replied,
        λ name. elim (same_or_other name folder) [
          | inl same ↦ ap after same.1 ∙ there ∙ sym (ap other same.1)
          | inr apart ↦ x.changed.others name apart.1 ∙ sym (y.changed.others name apart.1)
        ],
      )

  one_at : (place : Option PlaceModel) → IsStepAt cluster device room message place before after first → IsStepAt cluster device room message place before other second → AreOne
  one_at None x y = (one_answer cluster.part_power before message first second x.surveyed y.surveyed, λ name. x.same name ∙ sym (y.same name))
  one_at (Some place) x y = one_in_place place x y

  pub one_step : IsNodeStep cluster device room message before after first → IsNodeStep cluster device room message before other second → AreOne
  one_step x y = one_at (place_in message) x y
