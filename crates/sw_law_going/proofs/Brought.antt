-- What the replies of a transcript bring for fetches: the archives that were asked for, of puts.
use Rattle.std.proofs.Common.{ℕ, Contains, List, [], ◌∷◌, Option, Some, None}
use Rattle.std.specs.Prelude.{⊤}
use Rattle.std.proofs.lemmas.List.Elements.{All-contains}
use Rattle.sw_hashpath.specs.Place.{PlaceModel}
use Rattle.sw_archive.specs.Archive.{ArchiveModel, IsArchive}
use Rattle.sw_diskfile.proofs.Lists.{Contains-first, Contains-later, Contains-none}
use Rattle.sw_ring.specs.Cluster.{ClusterModel}
use Rattle.sw_message.specs.Learnt.{Booked, IsGenuine, IsOfBook, Learnt}
use Rattle.sw_message.specs.Spoil.{IsArchiveOf}
use Rattle.sw_message.specs.Transcript.{Closed, Step}
use Rattle.sw_message.specs.declared.message.Msg.{Msg}
use Rattle.sw_message.specs.declared.message.Msg.TheVariants as message
use Rattle.sw_message.specs.declared.reply.Reply.{Reply}
use Rattle.sw_message.specs.declared.reply.Reply.TheVariants as reply
use Rattle.sw_message.specs.declared.sent.Sent.{Sent}
use Rattle.sw_law_scene.specs.Scene.{Answer, Message, Scene, known_to}
use Rattle.sw_law_scene.specs.Sound.{IsSoundScene}
use Rattle.sw_core.specs.Sound.{Stands}
use Rattle.sw_core.specs.World.{Operating}
use Rattle.sw_law_going.proofs.Replies.{AllRight, IsRight, IsRightMessage}

-- bytes are the archive of a place, a stamp and an index, and that is one of a put
pub record IsStored (cluster : ClusterModel) (book : List Booked) (place : PlaceModel) (stamp index : ℕ) (bytes : List ℕ) : Type 0 where
  pub is : IsArchiveOf cluster place stamp index bytes
  pub of : (archive : ArchiveModel) → IsArchive bytes archive → IsOfBook cluster book archive

module _ (cluster : ClusterModel) (book : List Booked) where
  -- bytes in a reply to a fetch are
  abbrev pub Brings : Msg → Reply → Type 0
  Brings (message.Fetch place stamp index) (reply.Fragment bytes) = IsStored cluster book place stamp index bytes
  Brings msg given = ⊤

  abbrev pub AnswerBrings : Msg → Option Reply → Type 0
  AnswerBrings msg None = ⊤
  AnswerBrings msg (Some given) = Brings msg given

  -- in each reply of a transcript
  abbrev pub AreStored : List Step → Type 0
  AreStored past = (sent : Sent) (given : Reply) → Contains past (Closed sent (Some given)) → Brings sent.msg given

  pub none_stored : AreStored []
  none_stored sent given has = absurd (Contains-none (Closed sent (Some given)) has)

  pub earlier_stored : (step : Step) (past : List Step) → AreStored (step ∷ past) → AreStored past
  earlier_stored step past are sent given has = are sent given (Contains-later step past (Closed sent (Some given)) has)

  pub last_brings : (sent : Sent) (answer : Option Reply) (past : List Step) → AreStored (Closed sent answer ∷ past) → AnswerBrings sent.msg answer
  last_brings sent None past are = tt
  last_brings sent (Some given) past are = are sent given (Contains-first (Closed sent (Some given)) past)

-- what is right and genuine is so
brings : (cluster : ClusterModel) (learnt : Learnt) (msg : Msg) (given : Reply) → IsRight cluster msg given → IsGenuine cluster learnt given → Brings cluster learnt.book msg given
brings cluster learnt (message.Fetch place stamp index) (reply.Fragment bytes) right genuine = record { is = right; of = genuine }
brings cluster learnt msg given right genuine = tt

-- an operation of a scene has such replies
pub operation_stored : (scene : Scene) → IsSoundScene scene → AllRight scene → (number : ℕ) (operation : Operating) → Stands scene number operation → AreStored scene.cluster (known_to scene).book operation.past
operation_stored scene sound right number operation stands sent given has =
    let made = stands.told sent given has in
    let answer : Message = Answer made.0 number sent given in
    brings scene.cluster (known_to scene) sent.msg given (All-contains (IsRightMessage scene.cluster) scene.messages answer right made.2) (sound.messages answer made.2)
