-- What a seat knows after a join, by what the two knew.
use Rattle.std.proofs.Common.{◌≡◌, ◌≤◌, ℕ, Contains, List, [], ◌∷◌, sym, ap, subst, ◌∙◌}
use Rattle.std.proofs.Math.Nat.{le-max_left}
use Rattle.sw_diskfile.proofs.Lists.{Contains-first, Contains-later}
use Rattle.sw_ring.specs.Cluster.{ClusterModel}
use Rattle.sw_view.specs.History.{Continues}
use Rattle.sw_view.specs.View.{IsSoundView}
use Rattle.sw_view.specs.declared.event.Event.{Event}
use Rattle.sw_pass.specs.Known.{AllAgree, Covers, history, view_of}
use Rattle.sw_pass.specs.Steps.{Knows, joined, learned, longest, noted, old_of, own_kept}
use Rattle.sw_pass.specs.declared.known.Drawn.{Drawn}
use Rattle.sw_pass.specs.declared.known.Kind.TheVariants as kind
use Rattle.sw_pass.specs.declared.known.Known.{Known}
use Rattle.sw_pass.specs.declared.known.Old.{Old}
use Rattle.sw_pass.proofs.Histories.{history_same}
use Rattle.sw_cell.specs.Learning.{HasLearnt}

module _ (one other after : Known) (rest : after ≡ learned (joined one other)) where
  -- the seat of a node has of its own device the history that it had
  pub own_stays : (slot : ℕ) → one.kind ≡ kind.Node slot → history after.histories slot ≡ history one.histories slot
  own_stays slot node =
      ap (λ (known : Known). history known.histories slot) rest
      ∙ subst (λ of. history (own_kept of one.histories other.histories) slot ≡ history one.histories slot) (sym node) (history_same (longest one.histories other.histories) slot (history one.histories slot))

  module _ (cluster : ClusterModel) (knows : Knows cluster (joined one other)) where
    -- its view is sound
    pub sound_after : IsSoundView cluster (view_of cluster after)
    sound_after = subst (IsSoundView cluster) (sym (ap (view_of cluster) rest)) knows.sound

    covers_after : (old : Old) → Covers (joined one other) old → Covers after old
    covers_after old covers = record {
      drawn = λ fact has. subst (λ (facts : List Drawn). Contains facts fact) (sym (ap (λ (known : Known). known.drawn) rest)) (covers.drawn fact has);
      histories = λ slot. subst (λ (events : List Event). Continues events (history old.histories slot)) (sym (ap (λ (known : Known). history known.histories slot) rest)) (covers.histories slot);
    }

    -- and it knows what both did
    pub covers_first : Covers after (old_of one)
    covers_first = covers_after (old_of one) (knows.covers (old_of one) (Contains-first (old_of one) (old_of other ∷ [])))

    pub covers_second : Covers after (old_of other)
    covers_second = covers_after (old_of other) (knows.covers (old_of other) (Contains-later (old_of one) (old_of other ∷ []) (old_of other) (Contains-first (old_of other) [])))

    -- a note tells what the seat knew that made it
    pub covers_noted : (known : Known) → other ≡ noted known → Covers after (old_of known)
    covers_noted known note = subst (Covers after) (ap old_of note) covers_second

    -- what it has learnt
    pub learnt_after : HasLearnt cluster one after
    learnt_after = record {
      grown = record {
        covers = covers_first;
        mark = subst (λ (mark : ℕ). one.mark ≤ mark) (sym (ap (λ (known : Known). known.mark) rest)) (le-max_left one.mark other.mark);
        clock = ap (λ (known : Known). known.clock) rest;
        draws = ap (λ (known : Known). known.draws) rest;
      };
      sound = sound_after;
      agree = subst (λ (facts : List Drawn). AllAgree facts facts) (sym (ap (λ (known : Known). known.drawn) rest)) knows.agree;
    }
