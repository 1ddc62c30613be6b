-- A get hands out only messages that read the folder of its place.
use Rattle.std.proofs.Common.{◌≡◌, inl, inr, ⊎_elim, Contains, List, [], ◌∷◌, refl, sym, subst}
use Rattle.sw_hashpath.specs.Place.{PlaceModel}
use Rattle.sw_diskfile.proofs.Lists.{Contains-cases, Contains-none}
use Rattle.sw_message.specs.Transcript.{Gave, Hand, Next, Step}
use Rattle.sw_message.specs.declared.message.Msg.{Msg}
use Rattle.sw_message.specs.declared.message.Msg.TheVariants as message
use Rattle.sw_message.specs.declared.sent.Sent.{Sent}
use Rattle.sw_get.specs.Get as gets
use Rattle.sw_get.proofs.Rounds.{handed_so}
use Rattle.sw_operation.specs.Operating.{Begun, Delete, Get, Head, IsGetOf, IsNext, Put, Revert, Sync}
use Rattle.sw_core.specs.World.{HandsOut}

-- the message asks what the folder of the place has, or for an archive in it
abbrev pub Reads : PlaceModel → Msg → Type 0
Reads place (message.Ask other) = other ≡ place
Reads place (message.Fetch other stamp index) = other ≡ place
Reads place other = ⊥

module _ (get : gets.Begun) where
  get_reads : (past : List Step) (sent : Sent) → gets.IsNext get past (Hand sent) → Reads (gets.place_of get) sent.msg
  get_reads past sent next = elim (handed_so get past sent next.0 next next.1) [
    | inl asks ↦ subst (λ (one : Sent). Reads (gets.place_of get) one.msg) (sym asks.is) refl
    | inr (inl fetches) ↦ subst (λ (one : Sent). Reads (gets.place_of get) one.msg) (sym fetches.is) refl
    | inr (inr begins) ↦ subst (λ (one : Sent). Reads (gets.place_of get) one.msg) (sym begins.is) refl
  ]

  -- the machine of an operation that is a get, or a head, is that of the get
  get_next : (begun : Begun) (past : List Step) (next : Next) → IsGetOf begun get → IsNext begun past next → gets.IsNext get past next
  get_next (Get one) past next same is = subst (λ (it : gets.Begun). gets.IsNext it past next) same is
  get_next (Head one) past next same is = subst (λ (it : gets.Begun). gets.IsNext it past next) same is
  get_next (Put one) past next none is = absurd none
  get_next (Delete one) past next none is = absurd none
  get_next (Sync one) past next none is = absurd none
  get_next (Revert one) past next none is = absurd none

  -- what it hands out as it goes on
  pub hands_reads : (begun : Begun) → IsGetOf begun get → (sents : List Sent) (past after : List Step) → HandsOut begun sents past after → (sent : Sent) → Contains sents sent → Reads (gets.place_of get) sent.msg
  hands_reads begun is [] past after same sent has = absurd (Contains-none sent has)
  hands_reads begun is (first ∷ sents) past after (next, more) sent has = ⊎_elim
      (λ here. get_reads past sent (get_next begun past (Hand sent) is (subst (λ (one : Sent). IsNext begun past (Hand one)) here next)))
      (λ later. hands_reads begun is sents (Gave first ∷ past) after more sent later)
      (Contains-cases first sents sent has)
