-- The letters of a world of the program stand for its messages: as more are made, as one is delivered, and as operations are added.
use Rattle.std.proofs.Common.{◌≡◌, inl, inr, ⊎_elim, ℕ, suc, ◌<◌, ◌≤◌, true, false, true≢false, Contains, List, [], ◌∷◌, ◌++◌, length, map, set, slice_get, Some, refl, sym, ap, subst, ◌∙◌, length-append, length-set, arith}
use Rattle.std.specs.List.{All, AllZip}
use Rattle.std.proofs.lemmas.List.Elements.{Contains-append_cases, Contains-append_right}
use Rattle.std.proofs.lemmas.Option.{get_or_from_slice_get, slice_get_within}
use Rattle.sw_ring.specs.Cluster.{ClusterModel}
use Rattle.sw_message.specs.Running.{IsOf}
use Rattle.sw_message.specs.declared.reply.Reply.{Reply}
use Rattle.sw_message.specs.declared.sent.Sent.{Sent}
use Rattle.sw_law_scene.specs.Moves.{requests_of}
use Rattle.sw_law_scene.specs.Scene.{Answer, Message, Request}
use Rattle.sw_sim_exchange.specs.Letters.{letter_of}
use Rattle.sw_sim_world.specs.Standing.{AreMarked, IsLetterOf}
use Rattle.sw_sim_exchange.specs.declared.letter.Letter.{Letter}
use Rattle.sw_sim_world.proofs.Slots.{Contains-cases, Contains-first, behind-cases, contained, mapped, put-cases, zip-behind, zip-put}

-- What a world keeps of messages, of which some were delivered: of the first letters all were, and each is of one of so many operations.
pub record IsPost (cluster : ClusterModel) (letters : List Letter) (first count : ℕ) (messages : List Message) (delivered : List ℕ) : Type 0 where
  pub kept : AllZip IsLetterOf letters messages
  pub marked : AreMarked letters delivered
  pub within : (message : ℕ) → Contains delivered message → message ≤ length letters
  pub reached : first ≤ length letters
  pub earlier : (slot : ℕ) (letter : Letter) → slot < first → slice_get letters slot ≡ Some letter → letter.is_delivered ≡ true
  pub requests : (at number : ℕ) (sent : Sent) → Contains messages (Request at number sent) → IsOf cluster sent.device sent.msg
  pub numbers : (slot : ℕ) (letter : Letter) → slice_get letters slot ≡ Some letter → (0 < letter.operation) × (letter.operation ≤ count)

-- a letter that was not delivered, of one of so many operations
abbrev pub IsFresh : (count : ℕ) → Letter → Type 0
IsFresh count letter = (letter.is_delivered ≡ false) × (0 < letter.operation) × (letter.operation ≤ count)

module _ (cluster : ClusterModel) (letters : List Letter) (first count : ℕ) (messages : List Message) (delivered : List ℕ) (post : IsPost cluster letters first count messages delivered) where
  -- more messages are made
  pub more-letters : (more : List Letter) (news : List Message) → AllZip IsLetterOf more news → ((slot : ℕ) (letter : Letter) → slice_get more slot ≡ Some letter → IsFresh count letter)
      → ((at number : ℕ) (sent : Sent) → Contains news (Request at number sent) → IsOf cluster sent.device sent.msg) → IsPost cluster (letters ++ more) first count (messages ++ news) delivered
  more-letters more news kept fresh requests = record {
    kept = zip-behind IsLetterOf letters messages more news post.kept kept;
    marked = λ slot letter is. elim (behind-cases letters more slot letter is) [
      | inl old ↦ post.marked slot letter old
      | inr new ↦ (
        (λ marks. absurd (true≢false (sym marks ∙ (fresh new.0 letter new.2).0))),
        (λ has. absurd (omega (arith, post.within (suc slot) has, new.1))),
      )
    ];
    within = λ message has. omega (arith, post.within message has, length-append letters more);
    reached = omega (arith, post.reached, length-append letters more);
    earlier = λ slot letter before is. elim (behind-cases letters more slot letter is) [
      | inl old ↦ post.earlier slot letter before old
      | inr new ↦ absurd (omega (arith, before, post.reached, new.1))
    ];
    requests = λ at number sent has. ⊎_elim (λ old. post.requests at number sent old) (λ new. requests at number sent new) (Contains-append_cases messages news (Request at number sent) has);
    numbers = λ slot letter is. elim (behind-cases letters more slot letter is) [
      | inl old ↦ post.numbers slot letter old
      | inr new ↦ ((fresh new.0 letter new.2).1, (fresh new.0 letter new.2).2)
    ];
  }

  -- one is delivered
  pub one-delivered : (slot : ℕ) (old new : Letter) (one : Message) → slice_get letters slot ≡ Some old → slice_get messages slot ≡ Some one → IsLetterOf new one → new.is_delivered ≡ true → new.operation ≡ old.operation
      → IsPost cluster (set letters slot new) first count messages (suc slot ∷ delivered)
  one-delivered slot old new one here there is_letter is_marked same = record {
    kept = zip-put IsLetterOf letters messages post.kept slot new one there is_letter;
    marked = λ other letter is. elim (put-cases letters slot new other letter is) [
      | inl this ↦ (
        (λ marks. subst (Contains (suc slot ∷ delivered)) (ap suc (sym this.0)) (Contains-first (suc slot) delivered)),
        (λ has. subst (λ (that : Letter). that.is_delivered ≡ true) this.1 is_marked),
      )
      | inr that ↦ (
        (λ marks. Contains-append_right (suc slot ∷ []) delivered (suc other) ((post.marked other letter that.1).0 marks)),
        (λ has. (post.marked other letter that.1).1 (⊎_elim (λ equal. absurd (that.0 (omega (arith, equal)))) (λ later. later) (Contains-cases (suc slot) delivered (suc other) has))),
      )
    ];
    within = λ message has. elim (Contains-cases (suc slot) delivered message has) [
      | inl equal ↦ omega (arith, equal, slice_get_within letters slot old here, length-set letters slot new)
      | inr later ↦ omega (arith, post.within message later, length-set letters slot new)
    ];
    reached = omega (arith, post.reached, length-set letters slot new);
    earlier = λ other letter before is. elim (put-cases letters slot new other letter is) [
      | inl this ↦ subst (λ (that : Letter). that.is_delivered ≡ true) this.1 is_marked
      | inr that ↦ post.earlier other letter before that.1
    ];
    requests = post.requests;
    numbers = λ other letter is. elim (put-cases letters slot new other letter is) [
      | inl this ↦ subst (λ (that : Letter). (0 < that.operation) × (that.operation ≤ count)) this.1 (subst (λ (number : ℕ). (0 < number) × (number ≤ count)) (sym same) (post.numbers slot old here))
      | inr that ↦ post.numbers other letter that.1
    ];
  }

  -- operations are added
  pub more-operations : (later : ℕ) → count ≤ later → IsPost cluster letters first later messages delivered
  more-operations later more = record {
    kept = post.kept;
    marked = post.marked;
    within = post.within;
    reached = post.reached;
    earlier = post.earlier;
    requests = post.requests;
    numbers = λ slot letter is. let range = post.numbers slot letter is in (range.0, omega (arith, range.1, more));
  }

-- ---- requests that are made

module _ (number : ℕ) where
  -- their letters are of them
  sent-kept : (at : ℕ) (sents : List Sent) → AllZip IsLetterOf (map (letter_of number) sents) (requests_of at number sents)
  sent-kept at [] = tt
  sent-kept at (sent ∷ sents) = ((refl, refl, refl, refl), sent-kept at sents)

  -- which were not delivered
  sent-fresh : (count : ℕ) → 0 < number → number ≤ count → (sents : List Sent) (slot : ℕ) (letter : Letter) → slice_get (map (letter_of number) sents) slot ≡ Some letter → IsFresh count letter
  sent-fresh count some within sents slot letter is = let from = mapped (letter_of number) sents slot letter is in subst (IsFresh count) from.2 (refl, some, within)

  -- each of them is one of an operation
  pub asked : (at : ℕ) (sents : List Sent) (slot : ℕ) (one : Message) → slice_get (requests_of at number sents) slot ≡ Some one → (sent : Sent) × (slice_get sents slot ≡ Some sent) × (Request at number sent ≡ one)
  asked at sents slot one is = mapped (λ (sent : Sent). Request at number sent) sents slot one is

  -- none of them is a reply
  pub no-answer : (at : ℕ) (sents : List Sent) (slot when other : ℕ) (sent : Sent) (reply : Reply) → slice_get (requests_of at number sents) slot ≡ Some (Answer when other sent reply) → ⊥
  no-answer at sents slot when other sent reply is = let from = asked at sents slot (Answer when other sent reply) is in let apart = from.2 in absurd (cc)

  module _ (cluster : ClusterModel) (letters : List Letter) (first count : ℕ) (messages : List Message) (delivered : List ℕ) (post : IsPost cluster letters first count messages delivered) where
    -- the letters stand for the messages with them
    pub sents-made : (at : ℕ) (sents : List Sent) → 0 < number → number ≤ count → All (λ (sent : Sent). IsOf cluster sent.device sent.msg) sents
        → IsPost cluster (letters ++ map (letter_of number) sents) first count (messages ++ requests_of at number sents) delivered
    sents-made at sents some within each = more-letters cluster letters first count messages delivered post (map (letter_of number) sents) (requests_of at number sents) (sent-kept at sents) (sent-fresh count some within sents) (λ when other sent has.
        let here = contained (requests_of at number sents) (Request when other sent) has in
        let from = asked at sents here.0 (Request when other sent) here.1 in
        let equal = from.2 in
        let same : from.0 ≡ sent = cc in
        subst (λ (one : Sent). IsOf cluster one.device one.msg) same (may from.0 here.0 from.1))
      where
        may : (one : Sent) (slot : ℕ) → slice_get sents slot ≡ Some one → IsOf cluster one.device one.msg
        may one slot is = subst (λ (that : Sent). IsOf cluster that.device that.msg) (get_or_from_slice_get sents slot one one is) (each slot one (slice_get_within sents slot one is))
