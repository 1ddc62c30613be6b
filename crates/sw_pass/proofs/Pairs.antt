-- What the rule says of any two seats.
use Rattle.std.proofs.Common.{◌≡◌, ◌⊎◌, ℕ, List, [], ◌∷◌, length, sym, ◌∙◌, subst, inl, inr, arith}
use mathlib.Core.Option.{some}
use mathlib.Core.Logic.{dite}
use native.Mathlib.Decide.{dec_le}
use native.Mathlib.Nat.{lt_of_not-le}
use lib.ListN.{get_elem?}
use Rattle.sw_view.specs.History.{Continues}
use Rattle.sw_view.specs.declared.event.Event.{Event}
use Rattle.sw_pass.specs.declared.known.Kind.TheVariants as kind
use Rattle.sw_pass.specs.declared.known.Known.{Known}
use Rattle.sw_ring.specs.Cluster.{ClusterModel}
use Rattle.sw_pass.specs.Known.{history}
use Rattle.sw_pass.specs.Rule.{IsKept, IsNodeOf, KindFits, Table, begun}
use Rattle.sw_pass.specs.Pairs.{IsPaired}
use Rattle.sw_pass.proofs.Events.{begun_none, begun_one, begun_some, none_before}
use Rattle.sw_pass.proofs.Histories.{continues_of}
use Rattle.sw_pass.proofs.Views.{sound_of}

pub paired : (cluster : ClusterModel) (s : Table) → IsKept cluster s → IsPaired cluster s
paired cluster s k = record {
  agree = k.agree;
  histories = λ i j v w a b x.
      let f = (k.each i v a).histories x in
      let g = (k.each j w b).histories x in
      dite (dec_le (length (history w.histories x)) (length (history v.histories x)))
      (λ le. inl (continues_of (k.account.past x) (history v.histories x) (history w.histories x) f g le))
      (λ no. let l = lt_of_not-le no in inr (continues_of (k.account.past x) (history w.histories x) (history v.histories x) g f (omega arith)));
  word = λ x inside. zero_or_one (k.account.past x) (k.device x inside).claimed;
  nothing = λ i v a x inside none. none_before (history v.histories x) (subst (λ past. Continues past (history v.histories x)) (begun_none (k.account.past x) (sym (k.device x inside).claimed ∙ none)) ((k.each i v a).histories x));
  one_node = λ i j x v w a b e f. (node i x v a e).holder ∙ sym (node j x w b f).holder;
  whole = λ i j x v w a e b. subst (λ events. Continues events (history w.histories x)) (sym (node i x v a e).whole) ((k.each j w b).histories x);
  has_node = λ x inside above. let one = k.nodes x inside (begun_some (k.account.past x) (λ none. let c = (k.device x inside).claimed in absurd (omega arith))) in (k.account.seat x, one.0, one.1, one.2);
  begun = λ i x v a e. let n = node i x v a e in (n.inside, (k.device x n.inside).claimed ∙ begun_one (k.account.past x) n.begun);
  sound = λ i v a. sound_of cluster k.account _ _ i v k.rules (k.each i v a) (k.agree i i v v a a);
}
  where
    node : (i x : ℕ) (v : Known) → get_elem? s.views i ≡ some v → v.kind ≡ kind.Node x → IsNodeOf cluster k.account i v x
    node i x v a e = subst (KindFits cluster k.account i v) e (k.each i v a).kind

    zero_or_one : {word : ℕ} (past : List Event) → word ≡ begun past → (word ≡ 0) ⊎ (word ≡ 1)
    zero_or_one [] is = inl is
    zero_or_one (event ∷ past) is = inr is
