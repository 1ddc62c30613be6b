-- As a message is delivered that was not, less is left to do.
use Rattle.std.proofs.Common.{◌≡◌, ℕ, ◌+◌, ◌<◌, Bool, false, if◌then◌else◌, set, slice_get, sum_by, Option, Some, refl, ap, subst, arith}
use Rattle.std.proofs.lemmas.List.Sums.{sum_by-set, sum_by_push}
use Rattle.std.proofs.lemmas.Option.{get_or_from_slice_get, slice_get_within}
use Rattle.sw_message.specs.declared.message.Msg.{Msg}
use Rattle.sw_message.specs.declared.reply.Reply.{Reply}
use Rattle.sw_sim_nodes.specs.Nodes.{NodesModel}
use Rattle.sw_sim_exchange.specs.Letters.{answer_letter, emptied, marked}
use Rattle.sw_sim_exchange.specs.Work.{weight_in, weight_of, work_of}
use Rattle.sw_sim_world.specs.Standing.{WorldModel, exchange_of}
use Rattle.sw_sim_exchange.specs.declared.letter.Content.TheVariants as content
use Rattle.sw_sim_exchange.specs.declared.letter.Letter.{Letter}
use Rattle.sw_sim_world.proofs.Deliveries.{answered_by}

module _ (model : WorldModel) (slot : ℕ) (letter : Letter) (here : slice_get model.letters slot ≡ Some letter) where
  -- another letter in its place changes the sum by its weight
  put-weight : (new : Letter) → sum_by weight_of (set model.letters slot new) + weight_of letter ≡ sum_by weight_of model.letters + weight_of new
  put-weight new =
      subst (λ (one : Letter). sum_by weight_of (set model.letters slot new) + weight_of one ≡ sum_by weight_of model.letters + weight_of new) (get_or_from_slice_get model.letters slot letter letter here)
      (sum_by-set weight_of model.letters slot new letter (slice_get_within model.letters slot letter here))

  module _ (fresh : letter.is_delivered ≡ false) where
    -- what one weighs that was not delivered
    fresh-weight : weight_of letter ≡ weight_in letter.content
    fresh-weight = ap (λ (b : Bool). if b then 0 else weight_in letter.content) fresh

    -- a request is lost
    pub work-lost : (msg : Msg) → letter.content ≡ content.Request msg → work_of (exchange_of (record model { letters = set model.letters slot (marked letter) })) < work_of (exchange_of model)
    work-lost msg is =
        let none : weight_of (marked letter) ≡ 0 = refl in
        let two : weight_in letter.content ≡ 2 = ap weight_in is in
        omega (arith, put-weight (marked letter), fresh-weight, none, two)

    -- it is answered
    pub work-answered : (msg : Msg) → letter.content ≡ content.Request msg → (reply : Reply) (nodes : NodesModel) → work_of (exchange_of (answered_by model slot letter reply nodes)) < work_of (exchange_of model)
    work-answered msg is reply nodes =
        let answer = answer_letter letter.operation letter.ticket letter.device reply in
        let none : weight_of (marked letter) ≡ 0 = refl in
        let one : weight_of answer ≡ 1 = refl in
        let two : weight_in letter.content ≡ 2 = ap weight_in is in
        omega (arith, put-weight (marked letter), fresh-weight, none, one, two, sum_by_push weight_of (set model.letters slot (marked letter)) answer)

    -- a reply is taken out
    pub work-emptied : (given : Option Reply) → letter.content ≡ content.Answer given → work_of (exchange_of (record model { letters = set model.letters slot (emptied letter) })) < work_of (exchange_of model)
    work-emptied given is =
        let none : weight_of (emptied letter) ≡ 0 = refl in
        let one : weight_in letter.content ≡ 1 = ap weight_in is in
        omega (arith, put-weight (emptied letter), fresh-weight, none, one)
