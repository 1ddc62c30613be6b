-- An operation that starts: what the world of the program then stands for.
use Rattle.std.proofs.Common.{◌≡◌, ⊎_elim, ℕ, suc, ◌+◌, Bool, true, false, Contains, List, [], ◌∷◌, ◌++◌, length, map, slice_get, Option, Some, None, refl, sym, ap, subst, ◌∙◌, length-append, length-set, arith}
use Rattle.std.specs.List.{AllZip}
use Rattle.std.proofs.lemmas.Option.{slice_get_within}
use Rattle.sw_types.specs.Name.{NameModel}
use Rattle.sw_ring.specs.Cluster.{ClusterModel, place_of_name}
use Rattle.sw_message.specs.Message.{is_primary}
use Rattle.sw_message.specs.declared.reply.Reply.{Reply}
use Rattle.sw_message.specs.declared.sent.Sent.{Sent}
use Rattle.sw_law_scene.specs.Moves.{books, marks}
use Rattle.sw_law_scene.specs.Scene.{Answer, Scene, StartedDelete, StartedPut}
use Rattle.sw_core.specs.Event.{Begins, Job, Start, Starts, begins, stamp_in}
use Rattle.sw_core.specs.Event as core
use Rattle.sw_operation.specs.Operating.{Begun, cluster_of, recon_of}
use Rattle.sw_core.specs.World as worlds
use Rattle.sw_core.proofs.Numbered.{pushed-cases, pushed-last}
use Rattle.sw_sim_exchange.specs.declared.lines.EndLine.{EndLine}
use Rattle.sw_script.specs.declared.event.Job.{Job as ScriptJob}
use Rattle.sw_script.specs.declared.event.Job.TheVariants as job
use Rattle.sw_sim_exchange.specs.Exchange.{ExchangeModel, Proceeded, slot_of}
use Rattle.sw_sim_exchange.specs.Letters.{letter_of}
use Rattle.sw_sim_exchange.specs.declared.letter.Letter.{Letter}
use Rattle.sw_sim_exchange.specs.declared.operating.Operating.{Operating}
use Rattle.sw_sim_world.specs.Leading.{IsBegunBy, LeadsByOne}
use Rattle.sw_sim_world.specs.ScriptedWorld.{ScriptedWorld}
use Rattle.sw_sim_world.specs.Standing.{IsClosed, IsKeptOf, IsLetterOf, StandsFor, WorldModel, exchange_of}
use Rattle.sw_sim_world.specs.Unfolding.{Ended, TellsEnd, job_of}
use Rattle.sw_sim_world.specs.WorldInside.{inner_seen}
use Rattle.sw_sim_world.specs.declared.inner.Inner.TheInside.{Inside}
use Rattle.sw_sim_world.proofs.Ends.{ended-begun, told-end}
use Rattle.sw_sim_world.proofs.Going.{IsReady, alike-then, at_later, closed-then, gone_on, grown, proceeds}
use Rattle.sw_sim_world.proofs.Likeness.{alike, leads}
use Rattle.sw_sim_world.proofs.Slots.{at-numbered, item-at, zip-at, zip-length, zip-numbered}
use Rattle.sw_sim_world.proofs.Posts.{more-operations}

-- ---- one operation more

module _ (model : WorldModel) (before : ScriptedWorld) (stands : StandsFor model before) (begun : Begun) (of_cluster : cluster_of begun ≡ model.cluster) (kept : Operating)
    (last : Option ℕ) (book : List StartedPut) (deletes : List StartedDelete) where
  -- its number, and the scene once a stamp may have been drawn
  abbrev next : ℕ
  next = length before.world.operations + 1

  abbrev scene_then : Scene
  scene_then = record before.world.scene { last = last; book = book; marks = deletes }

  -- the worlds in which it stands at its beginning
  abbrev opened : ScriptedWorld
  opened = record before { world = record before.world { scene = scene_then; operations = before.world.operations ++ begins begun before.world ∷ [] } }

  abbrev opened_model : WorldModel
  opened_model = record model { last = last; operations = model.operations ++ kept ∷ [] }

  -- as many are kept as there are
  as_many : length model.operations ≡ length before.world.operations
  as_many = zip-length IsKeptOf model.operations before.world.operations stands.operations

  -- no reply was made for it
  no-reply : (slot at : ℕ) (sent : Sent) (reply : Reply) → slice_get before.world.scene.messages slot ≡ Some (Answer at next sent reply) → ⊥
  no-reply slot at sent reply is =
      let letters = zip-length IsLetterOf model.letters before.world.scene.messages stands.letters in
      let letter = item-at model.letters slot (omega (arith, letters, slice_get_within before.world.scene.messages slot (Answer at next sent reply) is)) in
      let is_letter = zip-at IsLetterOf model.letters before.world.scene.messages stands.letters slot letter.0 (Answer at next sent reply) letter.1 is in
      omega (arith, is_letter.0, (stands.numbers slot letter.0 letter.1).1, as_many)

  -- the others are told no more than before
  still-closed : (slot at other : ℕ) (sent : Sent) (reply : Reply) → slice_get before.world.scene.messages slot ≡ Some (Answer at other sent reply) → Contains before.delivered (suc slot) → (other ≡ next → ⊥)
      → (found : Option worlds.Operating) → worlds.numbered (before.world.operations ++ begins begun before.world ∷ []) other ≡ found → IsClosed found sent.ticket
  still-closed slot at other sent reply is has apart None none = refl
  still-closed slot at other sent reply is has apart (Some operation) there = ⊎_elim
      (λ old. subst (λ (found : Option worlds.Operating). IsClosed found sent.ticket) old (stands.closed slot at other sent reply is has))
      (λ new. absurd (apart new.0))
      (pushed-cases before.world.operations (begins begun before.world) other operation there)

  -- it is to go on from its beginning
  pub ready-begun : IsReady opened_model opened next (begins begun before.world) []
  ready-begun = record {
    goes_on = stands.goes_on;
    cluster_is = stands.cluster_is;
    clock_is = stands.clock_is;
    last_is = refl;
    devices = λ device member. let is = stands.devices device member in record { folders = is.folders; sure = is.sure; same = is.same; is_up = is.is_up };
    post = more-operations model.cluster model.letters model.first (length model.operations) before.world.scene.messages before.delivered (alike model before stands).post (length (model.operations ++ kept ∷ []))
        (omega (arith, length-append model.operations (kept ∷ [])));
    some = omega arith;
    there = pushed-last before.world.operations (begins begun before.world);
    as_many = omega (arith, as_many, length-append model.operations (kept ∷ []), length-append before.world.operations (begins begun before.world ∷ []));
    others = λ other mine one apart here is. ⊎_elim
        (λ old. ⊎_elim
        (λ also. zip-numbered IsKeptOf model.operations before.world.operations stands.operations other mine one old also)
        (λ new. absurd (apart new.0))
        (pushed-cases before.world.operations (begins begun before.world) other one is))
        (λ new. absurd (apart (omega (arith, new.0, as_many))))
        (pushed-cases model.operations kept other mine here);
    clusters = λ other one is. ⊎_elim
        (λ old. stands.clusters other one old)
        (λ new. subst (λ (that : worlds.Operating). cluster_of that.begun ≡ model.cluster) new.1 of_cluster)
        (pushed-cases before.world.operations (begins begun before.world) other one is);
    closed = λ slot at other sent reply is has apart. still-closed slot at other sent reply is has apart (worlds.numbered (before.world.operations ++ begins begun before.world ∷ []) other) refl;
    closed_here = λ slot at sent reply is has. absurd (no-reply slot at sent reply is);
  }

  -- it went on as far as it can
  pub begun-leads : (job : Job) → ((after : worlds.World) → Begins begun scene_then before.world after → Starts job before.world after)
      → (left : WorldModel) (old_ends new_ends : List EndLine) → Proceeded next begun [] (exchange_of opened_model) (exchange_of left) old_ends new_ends
      → left ≡ record opened_model { letters = left.letters; operations = left.operations } → LeadsByOne (Start job) before left old_ends new_ends
  begun-leads job starts left old_ends new_ends proceeded rest =
      let first = begins begun before.world in
      let later = at_later first proceeded.later proceeded.is_over in
      let after = gone_on opened next proceeded.sents later in
      let goes = proceeds opened_model opened next first [] ready-begun (exchange_of left) old_ends new_ends proceeded in
      let path : left ≡ grown opened_model next proceeded.sents proceeded.kept = rest ∙ ap (λ (store : ExchangeModel). record opened_model { letters = store.letters; operations = store.operations }) proceeded.new_is in
      subst (λ (one : WorldModel). LeadsByOne (Start job) before one old_ends new_ends) (sym path)
      (leads model before stands (Start job) (grown opened_model next proceeded.sents proceeded.kept) after refl (starts after.world goes)
      (alike-then opened_model opened next first [] ready-begun (exchange_of left) old_ends new_ends proceeded) (closed-then opened_model opened next first [] ready-begun (exchange_of left) old_ends new_ends proceeded)
      proceeded.mine old_ends new_ends refl proceeded.ends
      (subst (λ (ended : List Ended). AllZip TellsEnd ended proceeded.mine) (sym (ended-begun later before.world.operations first))
      (told-end later next proceeded.is_over proceeded.mine proceeded.told)))

-- ---- each job

-- the puts and the deletes that were started, once a job was
abbrev pub book_with : Job → worlds.World → List StartedPut
book_with (core.Put name object) world = (books (stamp_in world) name object world.scene).book
book_with other world = world.scene.book

abbrev pub marks_with : Job → worlds.World → List StartedDelete
marks_with (core.Delete name) world = (marks (stamp_in world) name world.scene).marks
marks_with other world = world.scene.marks

-- the scene then
abbrev pub scene_with : Job → worlds.World → Option ℕ → Scene
scene_with job world last = record world.scene { last = last; book = book_with job world; marks = marks_with job world }

-- what it was begun with may be given by an equal
same-begins : (world : worlds.World) (one : Job) (begun other : Begun) (last later : Option ℕ) → begun ≡ other → last ≡ later
    → (after : worlds.World) → Begins begun (scene_with one world last) world after → Begins other (scene_with one world later) world after
same-begins world one begun other last later same equal after goes =
    subst (λ (this : Begun). Begins this (scene_with one world later) world after) same (subst (λ (that : Option ℕ). Begins begun (scene_with one world that) world after) equal goes)

-- what a job was begun with begins as it starts
pub starts-begun : (world : worlds.World) (one : ScriptJob) (begun : Begun) (last : Option ℕ) → IsBegunBy world.scene.cluster world.clock world.scene.last one begun last
    → (after : worlds.World) → Begins begun (scene_with (job_of one) world last) world after → Starts (job_of one) world after
starts-begun world (job.Put name object) begun last (fits, put, is, last_is) after goes = (fits, put, same-begins world (core.Put name object) begun _ last _ is last_is after goes)
starts-begun world (job.Get name) begun last (is, last_is) after goes = same-begins world (core.Get name) begun _ last _ is last_is after goes
starts-begun world (job.Head name) begun last (is, last_is) after goes = same-begins world (core.Head name) begun _ last _ is last_is after goes
starts-begun world (job.Delete name) begun last (fits, is, last_is) after goes = (fits, same-begins world (core.Delete name) begun _ last _ is last_is after goes)
starts-begun world (job.Recon device name) begun last (member, is, last_is) after goes = (member, same-begins world (core.Recon device name) begun _ last _ is last_is after goes)

-- what a job was begun with is of the cluster
recon-cluster : (cluster : ClusterModel) (is_primary : Bool) (device : ℕ) (name : NameModel) → cluster_of (recon_of is_primary cluster device name) ≡ cluster
recon-cluster cluster true device name = refl
recon-cluster cluster false device name = refl

begun-cluster : (cluster : ClusterModel) (clock : ℕ) (last later : Option ℕ) (one : ScriptJob) (begun : Begun) → IsBegunBy cluster clock last one begun later → cluster_of begun ≡ cluster
begun-cluster cluster clock last later (job.Put name object) begun (fits, put, is, last_is) = ap cluster_of is
begun-cluster cluster clock last later (job.Get name) begun (is, last_is) = ap cluster_of is
begun-cluster cluster clock last later (job.Head name) begun (is, last_is) = ap cluster_of is
begun-cluster cluster clock last later (job.Delete name) begun (fits, is, last_is) = ap cluster_of is
begun-cluster cluster clock last later (job.Recon device name) begun (member, is, last_is) =
    ap cluster_of is ∙ recon-cluster cluster (is_primary cluster device (place_of_name cluster name)) device name

-- ---- what the program keeps

-- One that has handed out nothing was kept as one more of the operations, with this number.
module _ (inside : Inside) (number : ℕ) (kept : Operating) (store : ExchangeModel)
    (is : (number ≡ suc (length inside.exchange.operations)) × (store ≡ record inside.exchange { operations = inside.exchange.operations ++ kept ∷ [] })) where
  -- it is there
  pub kept-there : slice_get store.operations (slot_of number) ≡ Some kept
  kept-there =
      let all = inside.exchange.operations in
      let next : length all + 1 ≡ number = omega (arith, is.0) in
      subst (λ (one : ExchangeModel). slice_get one.operations (slot_of number) ≡ Some kept) (sym is.1)
      (subst (λ (n : ℕ). slice_get (all ++ kept ∷ []) (slot_of n) ≡ Some kept) next (at-numbered (all ++ kept ∷ []) (length all + 1) kept (pushed-last all kept)))

  module _ (begun : Begun) (new : ExchangeModel) (old_ends new_ends : List EndLine) (proceeded : Proceeded number begun [] store new old_ends new_ends) where
    -- it is the last of them
    pub kept-last : number ≡ length new.operations
    kept-last =
        let all = inside.exchange.operations in
        omega (
          arith,
          is.0,
          ap (λ (one : ExchangeModel). length one.operations) is.1,
          length-append all (kept ∷ []),
          ap (λ (one : ExchangeModel). length one.operations) proceeded.new_is,
          length-set store.operations (slot_of number) proceeded.kept,
        )

    -- its messages were made
    pub kept-letters : (letters : List Letter) → inside.exchange.letters ≡ letters → (sents : List Sent) × (new.letters ≡ letters ++ map (letter_of number) sents)
    kept-letters letters same = (
      proceeded.sents,
      ap (λ (one : ExchangeModel). one.letters) proceeded.new_is ∙ ap (λ (earlier : List Letter). earlier ++ map (letter_of number) proceeded.sents) (ap (λ (one : ExchangeModel). one.letters) is.1 ∙ same),
    )

    -- and that is the start of a job
    pub kept-leads : (model : WorldModel) (before : ScriptedWorld) → StandsFor model before → (last : Option ℕ) → inner_seen inside ≡ record model { last = last } → (one : ScriptJob) → IsBegunBy model.cluster model.clock model.last one begun last
        → LeadsByOne (Start (job_of one)) before (inner_seen (record inside { exchange = new })) old_ends new_ends
    kept-leads model before stands last view one by =
        let world = before.world in
        let by_world : IsBegunBy world.scene.cluster world.clock world.scene.last one begun last =
        subst (λ (cluster : ClusterModel). IsBegunBy cluster world.clock world.scene.last one begun last) (sym stands.cluster_is)
        (subst (λ (clock : ℕ). IsBegunBy model.cluster clock world.scene.last one begun last) (sym stands.clock_is) (subst (λ (earlier : Option ℕ). IsBegunBy model.cluster model.clock earlier one begun last) (sym stands.last_is) by)) in
        let same : length model.operations ≡ length world.operations = zip-length IsKeptOf model.operations world.operations stands.operations in
        let next : number ≡ length world.operations + 1 = omega (arith, is.0, ap (λ (left : WorldModel). length left.operations) view, same) in
        let stored : store ≡ record { letters = model.letters; operations = model.operations ++ kept ∷ [] } =
        is.1 ∙ ap (λ (left : WorldModel). record { letters = left.letters; operations = left.operations ++ kept ∷ [] }) view in
        begun-leads model before stands begun (begun-cluster model.cluster model.clock model.last last one begun by) kept last (book_with (job_of one) world) (marks_with (job_of one) world) (job_of one)
        (starts-begun world one begun last by_world) (inner_seen (record inside { exchange = new })) old_ends new_ends
        (subst (λ (n : ℕ). Proceeded n begun [] (record { letters = model.letters; operations = model.operations ++ kept ∷ [] }) new old_ends new_ends) next
        (subst (λ (one : ExchangeModel). Proceeded number begun [] one new old_ends new_ends) stored proceeded))
        (ap (λ (left : WorldModel). record left { letters = new.letters; operations = new.operations }) view)
