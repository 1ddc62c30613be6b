-- Passes over a link that begins with what a seat knew: what is known goes on.
use Rattle.std.proofs.Common.{◌≡◌, ◌<◌, ℕ, Bool, false, List, [], ◌∷◌, length, take, Option, Some, None, inl, inr, refl, sym, ap, subst, ◌∙◌}
use Rattle.sw_ring.specs.Cluster.{ClusterModel, ids_of}
use Rattle.sw_message.specs.Running.{AreCalls}
use Rattle.sw_message.specs.Transcript.{Closed, Gave, Step}
use Rattle.sw_message.specs.declared.message.Msg.{Msg}
use Rattle.sw_message.specs.declared.reply.Reply.{Reply}
use Rattle.sw_pass.specs.declared.known.Known.{Known}
use Rattle.sw_cell.specs.Learning.{HasLearnt}
use Rattle.sw_local.specs.Link.{Calls, LocalModel}
use Rattle.sw_law_served.specs.Served.{local_ways}
use Rattle.sw_serve.specs.Serving.{IsProperFront}
use Rattle.sw_serve.specs.Soundly.{fresh_link}
use Rattle.sw_server.specs.Closing.{RunOnce}
use Rattle.sw_server.specs.Passes.{RunPasses}
use Rattle.sw_server.specs.Served.{GoesOn}
use Rattle.sw_server.proofs.Going.{goes_both, goes_same}

-- ---- calls

module _ {T : Type 0} (cluster : ClusterModel) (tells : Bool) where
  call_goes : (before : LocalModel T) (device : ℕ) (msg : Msg) (answer : Option Reply) (after : LocalModel T) → Calls cluster tells before device msg answer after → GoesOn after.known before.known
  call_goes before device msg None after lost = subst (λ (link : LocalModel T). GoesOn link.known before.known) (sym lost.after_is) (goes_same before.known)
  call_goes before device msg (Some given) after was = was.called.learnt.grown.covers

  module _ (losses : LocalModel T → ℕ) where
    calls_go : (before : LocalModel T) (past : List Step) (after : LocalModel T) → AreCalls (Calls cluster tells) losses before past after → GoesOn after.known before.known
    calls_go before [] after same = subst (λ (link : LocalModel T). GoesOn link.known before.known) same (goes_same before.known)
    calls_go before (Gave sent ∷ more) after none = absurd none
    calls_go before (Closed sent answer ∷ []) after none = absurd none
    calls_go before (Closed sent answer ∷ Closed same again ∷ more) after none = absurd none
    calls_go before (Closed sent answer ∷ Gave same ∷ more) after (between, were, same_is, call, counts) =
        goes_both before.known between.known after.known (calls_go before more between were) (call_goes between sent.device sent.msg answer after call)

  -- ---- passes

  module _ (shows : T → ℕ → Type 0) where
    passes_go : (devices : List ℕ) (is_whole : Bool) (before after : LocalModel T) → RunPasses (local_ways cluster tells shows) cluster devices is_whole before after → GoesOn after.known before.known
    passes_go [] is_whole before after (whole, same) = subst (λ (link : LocalModel T). GoesOn link.known before.known) (sym same) (goes_same before.known)
    passes_go (device ∷ devices) is_whole before after (inl (between, ran, rest)) =
        goes_both before.known between.known after.known (calls_go (λ (link : LocalModel T). link.losses) before ran.past between ran.calls) (passes_go devices is_whole between after rest)
    passes_go (device ∷ devices) is_whole before after (inr (part, ran)) = calls_go (λ (link : LocalModel T). link.losses) before ran.past after ran.calls

    -- ---- one of each device

    module _ (clock : T) (before : Known) (link last : LocalModel T) (after : Known) (learnt : HasLearnt cluster before link.known) (lost : List ℕ)
        (rest : link ≡ record { known = link.known; clock = clock; lost = lost; calls = 0; losses = 0; refused = 0; wants = false }) (none : lost ≡ []) (known : after ≡ last.known)
        (of : ClusterModel) (same : of ≡ cluster) (is_whole : Bool) (passes : RunPasses (local_ways cluster tells shows) of (ids_of of) is_whole link last) where
      is_fresh : link ≡ fresh_link link.known clock
      is_fresh = rest ∙ ap (λ (numbers : List ℕ). record { known = link.known; clock = clock; lost = numbers; calls = 0; losses = 0; refused = 0; wants = false }) none

      pub ran_once : RunOnce cluster tells shows clock is_whole last.wants before after
      ran_once = record {
        first = link.known;
        learnt = learnt;
        last = last;
        last_is = sym known;
        passes = subst (λ (it : LocalModel T). RunPasses (local_ways cluster tells shows) cluster (ids_of cluster) is_whole it last) is_fresh (rw same at passes);
        wants_is = refl;
      }

      pub goes_once : GoesOn after before
      goes_once = subst (λ (it : Known). GoesOn it before) (sym known) (goes_both before link.known last.known learnt.grown.covers (passes_go (ids_of cluster) is_whole link last (rw same at passes)))

-- so many bytes of a text, fewer than it has
pub proper : (n : ℕ) (bytes whole : List ℕ) → bytes ≡ whole → n < length bytes → IsProperFront (take n bytes) whole
proper n bytes whole is less = subst (IsProperFront (take n bytes)) is (n, less, refl)
