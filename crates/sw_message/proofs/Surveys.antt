-- A message that is about no place has one answer.
use Rattle.std.proofs.Common.{◌≡◌, ◌≢◌, ℕ, ◌<◌, Contains, List, [], sym, ap, subst, ◌∙◌, arith}
use Rattle.std.proofs.lemmas.Cmp.{nat_list_cmp_total}
use Rattle.std.proofs.lemmas.List.Elements.{All-contains}
use Rattle.md5.specs.Md5.{md5}
use Rattle.sw_hashpath.specs.Place.{PlaceModel}
use Rattle.sw_hashdir.specs.declared.floor.Floor.{Floor}
use Rattle.sw_diskfile.proofs.Lists.{Contains-map, IsBefore as IsLess, IsBefore-never as IsLess-never, mapped, same_ascending}
use Rattle.sw_suffix.proofs.Laws.{IsBefore-never}
use Rattle.sw_suffix.specs.Suffix.{suffix_number, suffix_text}
use Rattle.sw_suffix.specs.Table.{AreHashes, Hashed, IsBefore, in_suffix}
use Rattle.sw_message.specs.Step.{AreFloors, Folders}
use Rattle.sw_message.specs.Survey.{AreParts, ArePlaces, IsSurveyed}
use Rattle.sw_message.specs.declared.message.Msg.{Msg}
use Rattle.sw_message.specs.declared.message.Msg.TheVariants as message
use Rattle.sw_message.specs.declared.reply.Reply.{Reply}
use Rattle.sw_message.specs.declared.reply.Reply.TheVariants.{PartList, PlaceList, SuffixList}
use Rattle.sw_message.proofs.Ascending.{number_trans, same_numbers}

-- ---- floors, by partition, suffix and hash

abbrev Placed : Type 0
Placed = PlaceModel × Floor

IsBefore-trans : (a b c : Placed) → IsBefore a b → IsBefore b c → IsBefore a c
IsBefore-trans a b c first second = number_trans a.0.part b.0.part c.0.part first second (λ f g.
    number_trans (suffix_number a.0.hash) (suffix_number b.0.hash) (suffix_number c.0.hash) f g (nat_list_cmp_total.trans a.0.hash b.0.hash c.0.hash))

-- ---- the lists

one_floors : (power : ℕ) (folders : Folders) (a b : List Placed) → AreFloors power folders a → AreFloors power folders b → a ≡ b
one_floors power folders a b first second = same_ascending IsBefore (λ a. IsBefore-never a.0 a.1 a.1) IsBefore-trans a b first.ordered second.ordered
    (λ x. (λ has. (second.all x.0 x.1).1 ((first.all x.0 x.1).0 has), λ has. (first.all x.0 x.1).1 ((second.all x.0 x.1).0 has)))

has_hash : (part : ℕ) (floors : List Placed) (a b : List Hashed) → AreHashes part floors a → AreHashes part floors b → (x : Hashed) → Contains a x → Contains b x
has_hash part floors a b first second x has =
    let there = (second.suffixes x.0).1 ((first.suffixes x.0).0 (Contains-map (λ (hash : Hashed). hash.0) a x has)) in
    let y = mapped (λ (hash : Hashed). hash.0) b x.0 there in
    let scratch = λ (suffix : ℕ). md5 (suffix_text (in_suffix part suffix floors)) in
    let hash : y.0.1 ≡ x.1 = All-contains (λ (h : Hashed). h.1 ≡ scratch h.0) b y.0 second.scratch y.1 ∙ ap scratch y.2 ∙ sym (All-contains (λ (h : Hashed). h.1 ≡ scratch h.0) a x first.scratch has) in
    let same : ◌≡◌ {A = Hashed} y.0 x = ap (λ (suffix : ℕ). (suffix, y.0.1)) y.2 ∙ ap (λ (hash : List ℕ). (x.0, hash)) hash in
    subst (Contains b) same y.1

one_hashes : (part : ℕ) (floors : List Placed) (a b : List Hashed) → AreHashes part floors a → AreHashes part floors b → a ≡ b
one_hashes part floors a b first second = same_ascending (λ (x y : Hashed). x.0 < y.0) (λ x less. absurd (omega arith)) (λ x y z one two. omega arith) a b first.ascend second.ascend
    (λ x. (has_hash part floors a b first second x, has_hash part floors b a second first x))

module _ (power : ℕ) (HasAFile : List ℕ → Type 0) where
  one_parts : (a b : List ℕ) → AreParts power HasAFile a → AreParts power HasAFile b → a ≡ b
  one_parts a b first second = same_numbers a b first.ascend second.ascend
      (λ part. (λ has. (second.all part).1 ((first.all part).0 has), λ has. (first.all part).1 ((second.all part).0 has)))

  one_places : (part : ℕ) (a b : List PlaceModel) → ArePlaces power part HasAFile a → ArePlaces power part HasAFile b → a ≡ b
  one_places part a b first second = same_ascending (λ (x y : PlaceModel). IsLess x.hash y.hash) (λ x. IsLess-never x.hash) (λ x y z. nat_list_cmp_total.trans x.hash y.hash z.hash) a b first.ascend second.ascend
      (λ place. (λ has. (second.all place).1 ((first.all place).0 has), λ has. (first.all place).1 ((second.all place).0 has)))

module _ (power : ℕ) (folders : Folders) where
  abbrev Answers : Msg → Reply → Type 0
  Answers message reply = IsSurveyed power (λ folder. folders folder ≢ []) (AreFloors power folders) message reply

  pub one_answer : (message : Msg) (a b : Reply) → Answers message a → Answers message b → a ≡ b
  one_answer message.Parts a b x y = x.2 ∙ ap (λ l. PartList l) (one_parts power (λ folder. folders folder ≢ []) x.0 y.0 x.1 y.1) ∙ sym y.2
  one_answer (message.Suffixes part) a b x y =
      let floors = one_floors power folders x.0 y.0 x.1 y.1 in
      let hashes = one_hashes part y.0 x.2 y.2 (subst (λ f. AreHashes part f x.2) floors x.3) y.3 in
      x.4 ∙ ap (λ l. SuffixList l) hashes ∙ sym y.4
  one_answer (message.Places part) a b x y = x.2 ∙ ap (λ l. PlaceList l) (one_places power (λ folder. folders folder ≢ []) part x.0 y.0 x.1 y.1) ∙ sym y.2
  one_answer (message.PutFrag place stamp index bytes) a b x y = absurd x
  one_answer (message.Commit place stamp index) a b x y = absurd x
  one_answer (message.Delete place stamp) a b x y = absurd x
  one_answer (message.Ask place) a b x y = absurd x
  one_answer (message.Fetch place stamp index) a b x y = absurd x
  one_answer (message.Remove place stamp index) a b x y = absurd x
