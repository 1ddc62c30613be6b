-- An operation goes on: the world of a script that the world of the program then stands for.
use Rattle.std.proofs.Common.{◌≡◌, ◌≢◌, ◌⊎◌, ⊎_elim, ℕ, suc, ◌<◌, ◌≤◌, Bool, false, All, Contains, List, ◌++◌, length, map, slice_get, slice_set, Option, Some, None, refl, sym, subst, ◌∙◌, length-set, arith}
use Rattle.std.proofs.lemmas.Bool.{cases_eq}
use Rattle.sw_ring.specs.Cluster.{ClusterModel}
use Rattle.sw_message.specs.Message.{IsMember}
use Rattle.sw_message.specs.Running.{IsOf}
use Rattle.sw_message.specs.Transcript.{Step, after_answer, given, open_at}
use Rattle.sw_message.specs.declared.reply.Reply.{Reply}
use Rattle.sw_message.specs.declared.sent.Sent.{Sent}
use Rattle.sw_law_scene.specs.Moves.{requests_of, sends}
use Rattle.sw_law_scene.specs.Scene.{Answer}
use Rattle.sw_core.specs.Event.{Proceeds}
use Rattle.sw_operation.specs.Operating.{cluster_of}
use Rattle.sw_core.specs.World as worlds
use Rattle.sw_core.proofs.Happening.{run-sound}
use Rattle.sw_core.proofs.Numbered.{numbered-within, replaced-cases, replaced-length}
use Rattle.sw_core.proofs.Transcripts.{told-given}
use Rattle.sw_sim_exchange.specs.declared.lines.EndLine.{EndLine}
use Rattle.sw_sim_exchange.specs.Exchange.{ExchangeModel, Proceeded, slot_of}
use Rattle.sw_sim_exchange.specs.Letters.{letter_of}
use Rattle.sw_sim_world.specs.ScriptedWorld.{ScriptedWorld}
use Rattle.sw_sim_world.specs.Standing.{IsClosed, IsDeviceOf, IsKeptOf, StandsFor, WorldModel, exchange_of}
use Rattle.sw_sim_exchange.specs.declared.letter.Letter.{Letter}
use Rattle.sw_sim_exchange.specs.declared.operating.Operating.{Operating}
use Rattle.sw_sim_world.proofs.Closing.{answer-below, handed-same, told-closed, told-still}
use Rattle.sw_sim_world.proofs.Likeness.{AreClosed, IsLike}
use Rattle.sw_sim_world.proofs.Slots.{behind-cases, numbered-above, numbered-put, replaced-at, replaced-other, zip-from, zip-length, zip-numbered}
use Rattle.sw_sim_world.proofs.Posts.{IsPost, no-answer, sents-made}

-- A world of the program is like one of a script, in which an operation of a number is to go on from a transcript.
pub record IsReady (model : WorldModel) (scripted : ScriptedWorld) (number : ℕ) (operation : worlds.Operating) (past : List Step) : Type 0 where
  pub goes_on : model.is_wanting ≡ false
  pub cluster_is : scripted.world.scene.cluster ≡ model.cluster
  pub clock_is : scripted.world.clock ≡ model.clock
  pub last_is : scripted.world.scene.last ≡ model.last
  pub devices : (device : ℕ) → IsMember model.cluster device → IsDeviceOf model scripted device
  pub post : IsPost model.cluster model.letters model.first (length model.operations) scripted.world.scene.messages scripted.delivered
  pub some : 0 < number
  pub there : worlds.numbered scripted.world.operations number ≡ Some operation
  pub as_many : length model.operations ≡ length scripted.world.operations
  pub others : (other : ℕ) (kept : Operating) (one : worlds.Operating) → other ≢ number → worlds.numbered model.operations other ≡ Some kept → worlds.numbered scripted.world.operations other ≡ Some one → IsKeptOf kept one
  pub clusters : (other : ℕ) (one : worlds.Operating) → worlds.numbered scripted.world.operations other ≡ Some one → cluster_of one.begun ≡ model.cluster
  -- a reply that was delivered is told no more, and was made before
  pub closed : (slot at other : ℕ) (sent : Sent) (reply : Reply) → slice_get scripted.world.scene.messages slot ≡ Some (Answer at other sent reply) → Contains scripted.delivered (suc slot) → other ≢ number →
      IsClosed (worlds.numbered scripted.world.operations other) sent.ticket
  pub closed_here : (slot at : ℕ) (sent : Sent) (reply : Reply) → slice_get scripted.world.scene.messages slot ≡ Some (Answer at number sent reply) → Contains scripted.delivered (suc slot) →
      (open_at sent.ticket past ≡ None) × (sent.ticket < length (given past))

-- ---- what it leads to

-- the operation, later
abbrev pub at_later : worlds.Operating → (past : List Step) → (is_over : Bool) → worlds.Operating
at_later operation past is_over = record operation { past = past; is_over = is_over }

-- its messages were made
abbrev pub gone_on : ScriptedWorld → (number : ℕ) → List Sent → worlds.Operating → ScriptedWorld
gone_on scripted number sents later =
    record scripted { world = record scripted.world { scene = sends number sents scripted.world.scene; operations = worlds.with_numbered number later scripted.world.operations } }

-- and are kept as letters
abbrev pub grown : WorldModel → (number : ℕ) → List Sent → Operating → WorldModel
grown model number sents kept = record model { letters = model.letters ++ map (letter_of number) sents; operations = slice_set model.operations (slot_of number) kept }

module _ (model : WorldModel) (scripted : ScriptedWorld) (number : ℕ) (operation : worlds.Operating) (past : List Step) (ready : IsReady model scripted number operation past) (new : ExchangeModel) (before after : List EndLine)
    (proceeded : Proceeded number operation.begun past (exchange_of model) new before after) where
  -- so the operation proceeds in the world of a script
  pub proceeds : Proceeds scripted.world number operation past (gone_on scripted number proceeded.sents (at_later operation proceeded.later proceeded.is_over)).world
  proceeds = record {
    sents = proceeded.sents;
    later = at_later operation proceeded.later proceeded.is_over;
    goes_on = record { handed = proceeded.handed; rests = proceeded.rests; same = refl };
    after_is = refl;
  }

  -- what is kept of each operation
  each-kept : (other : ℕ) (kept : Operating) (one : worlds.Operating) → worlds.numbered (slice_set model.operations (slot_of number) proceeded.kept) other ≡ Some kept
      → worlds.numbered (worlds.with_numbered number (at_later operation proceeded.later proceeded.is_over) scripted.world.operations) other ≡ Some one → IsKeptOf kept one
  each-kept other kept one here there = ⊎_elim
      (λ this. ⊎_elim
      (λ also.
      subst (λ (that : Operating). IsKeptOf that one) this.1
      (subst (IsKeptOf proceeded.kept) also.1 (record { is_at = proceeded.is_kept; rests = proceeded.rests })))
      (λ apart. absurd (apart.0 this.0))
      (replaced-cases number (at_later operation proceeded.later proceeded.is_over) scripted.world.operations other one there))
      (λ that. ⊎_elim
      (λ same. absurd (that.0 same.0))
      (λ old. ready.others other kept one that.0 that.1 old.1)
      (replaced-cases number (at_later operation proceeded.later proceeded.is_over) scripted.world.operations other one there))
      (numbered-put model.operations number proceeded.kept other kept ready.some here)

  -- the world of the program is like that of the script then
  pub alike-then : IsLike (grown model number proceeded.sents proceeded.kept) (gone_on scripted number proceeded.sents (at_later operation proceeded.later proceeded.is_over))
  alike-then =
      let later = at_later operation proceeded.later proceeded.is_over in
      let of_cluster = ready.clusters number operation ready.there in
      let within : number ≤ length model.operations = omega (arith, numbered-within scripted.world.operations number operation ready.there, ready.as_many) in
      record {
        goes_on = ready.goes_on;
        cluster_is = ready.cluster_is;
        clock_is = ready.clock_is;
        last_is = ready.last_is;
        devices = λ device member. let is = ready.devices device member in record { folders = is.folders; sure = is.sure; same = is.same; is_up = is.is_up };
        post = subst (λ (count : ℕ). IsPost model.cluster (model.letters ++ map (letter_of number) proceeded.sents) model.first count (scripted.world.scene.messages ++ requests_of scripted.world.scene.now number proceeded.sents) scripted.delivered)
            (sym (length-set model.operations (slot_of number) proceeded.kept))
            (sents-made number model.cluster model.letters model.first (length model.operations) scripted.world.scene.messages scripted.delivered ready.post scripted.world.scene.now proceeded.sents ready.some within
            (subst (λ (cluster : ClusterModel). All (λ (sent : Sent). IsOf cluster sent.device sent.msg) proceeded.sents) of_cluster proceeded.each));
        operations = zip-from IsKeptOf (slice_set model.operations (slot_of number) proceeded.kept) (worlds.with_numbered number later scripted.world.operations)
            (omega (arith, length-set model.operations (slot_of number) proceeded.kept, replaced-length number later scripted.world.operations, ready.as_many))
            (λ slot kept one here there. each-kept (suc slot) kept one here there);
        clusters = λ other one is. ⊎_elim
            (λ this. subst (λ (that : worlds.Operating). cluster_of that.begun ≡ model.cluster) this.1 of_cluster)
            (λ old. ready.clusters other one old.1)
            (replaced-cases number later scripted.world.operations other one is);
      }

  -- a reply that was delivered, and was made before, is told no more then
  still-closed : (slot at other : ℕ) (sent : Sent) (reply : Reply) → slice_get scripted.world.scene.messages slot ≡ Some (Answer at other sent reply) → Contains scripted.delivered (suc slot)
      → IsClosed (worlds.numbered (worlds.with_numbered number (at_later operation proceeded.later proceeded.is_over) scripted.world.operations) other) sent.ticket
  still-closed slot at other sent reply is has =
      let later = at_later operation proceeded.later proceeded.is_over in
      ⊎_elim
      (λ same.
      let closed = ready.closed_here slot at sent reply (subst (λ (n : ℕ). slice_get scripted.world.scene.messages slot ≡ Some (Answer at n sent reply)) same is) has in
      subst (λ (n : ℕ). IsClosed (worlds.numbered (worlds.with_numbered number later scripted.world.operations) n) sent.ticket) (sym same)
      (subst (λ (found : Option worlds.Operating). IsClosed found sent.ticket) (sym (replaced-at scripted.world.operations number operation later ready.there))
      (λ running. handed-same operation.begun proceeded.sents past proceeded.later sent.ticket proceeded.handed closed.1 ∙ closed.0)))
      (λ apart.
      subst (λ (found : Option worlds.Operating). IsClosed found sent.ticket) (sym (replaced-other scripted.world.operations number other later apart)) (ready.closed slot at other sent reply is has apart))
      (cases_eq other number)

  -- and so is each that was delivered
  pub closed-then : AreClosed (scripted.world.scene.messages ++ requests_of scripted.world.scene.now number proceeded.sents) scripted.delivered
      (worlds.with_numbered number (at_later operation proceeded.later proceeded.is_over) scripted.world.operations)
  closed-then slot at other sent reply is has = ⊎_elim
      (λ old. still-closed slot at other sent reply old has)
      (λ made. absurd (no-answer number scripted.world.scene.now proceeded.sents made.0 at other sent reply made.2))
      (behind-cases scripted.world.scene.messages (requests_of scripted.world.scene.now number proceeded.sents) slot (Answer at other sent reply) is)

-- ---- operations that are told an answer

-- Letters may have been delivered, of which the reply is one; the operation is running.
module _ (model : WorldModel) (before : ScriptedWorld) (stands : StandsFor model before) (letters : List Letter) (delivered : List ℕ) (post : IsPost model.cluster letters model.first (length model.operations) before.world.scene.messages delivered)
    (number ticket : ℕ) (answer : Option Reply) (operation : worlds.Operating) (there : worlds.numbered before.world.operations number ≡ Some operation) (running : operation.is_over ≡ false)
    (either : (slot at other : ℕ) (sent : Sent) (reply : Reply) → slice_get before.world.scene.messages slot ≡ Some (Answer at other sent reply) → Contains delivered (suc slot)
    → Contains before.delivered (suc slot) ⊎ ((other ≡ number) × (sent.ticket ≡ ticket))) where
  -- the tickets of the replies of the operation that were delivered are closed once it is told
  closed-here : (slot at : ℕ) (sent : Sent) (reply : Reply) → slice_get before.world.scene.messages slot ≡ Some (Answer at number sent reply) → Contains delivered (suc slot)
      → (open_at sent.ticket (after_answer operation.past ticket answer) ≡ None) × (sent.ticket < length (given (after_answer operation.past ticket answer)))
  closed-here slot at sent reply is has = (
    ⊎_elim
        (λ old.
        told-still operation.past ticket answer sent.ticket
        (subst (λ (found : Option worlds.Operating). IsClosed found sent.ticket) there (stands.closed slot at number sent reply is old) running))
        (λ this. subst (λ (other : ℕ). open_at other (after_answer operation.past ticket answer) ≡ None) (sym this.1) (told-closed operation.past ticket answer))
        (either slot at number sent reply is has),
    subst (λ (sents : List Sent). sent.ticket < length sents) (sym (told-given operation.past ticket answer))
        (answer-below model.cluster before.world (run-sound model.cluster stands.events before.world stands.run) slot at number sent reply is operation there),
  )

  -- the operation is to go on from the answer
  pub ready-told : IsReady (record model { letters = letters }) (record before { delivered = delivered }) number operation (after_answer operation.past ticket answer)
  ready-told = record {
    goes_on = stands.goes_on;
    cluster_is = stands.cluster_is;
    clock_is = stands.clock_is;
    last_is = stands.last_is;
    devices = λ device member. let is = stands.devices device member in record { folders = is.folders; sure = is.sure; same = is.same; is_up = is.is_up };
    post = post;
    some = numbered-above before.world.operations number operation there;
    there = there;
    as_many = zip-length IsKeptOf model.operations before.world.operations stands.operations;
    others = λ other kept one apart here is. zip-numbered IsKeptOf model.operations before.world.operations stands.operations other kept one here is;
    clusters = stands.clusters;
    closed = λ slot at other sent reply is has apart. ⊎_elim (λ old. stands.closed slot at other sent reply is old) (λ this. absurd (apart this.0)) (either slot at other sent reply is has);
    closed_here = closed-here;
  }
