-- How the rule is kept where one seat changes, or one comes.
use Rattle.std.proofs.Common.{◌≡◌, ◌≢◌, ℕ, zero, suc, ◌+◌, ◌≤◌, ◌<◌, false, List, [], ◌∷◌, ◌++◌, length, set, get_or, None, sym, ap, ◌∙◌, subst, ⊎_elim, arith}
use mathlib.Core.Option.{some, some-injective, some-ne-none}
use mathlib.Core.Logic.{dite}
use native.Mathlib.Decide.{ℕ_discrete}
use lib.Seq.{set-get_or}
use lib.ListN.{get_elem?}
use Rattle.atomic_table.specs.Table.{keeps, stepped}
use Rattle.atomic_table.proofs.Lists.{at_longer, at_set, at_snoc, set_else, set_here}
use Rattle.sw_ring.specs.Cluster.{ClusterModel}
use Rattle.sw_view.specs.History.{Continues, IsGuarded}
use Rattle.sw_pass.specs.Known.{AllAgree, history, size_of, slot_of}
use Rattle.sw_pass.specs.Rule.{Account, CountsFit, DeviceFits, Fits, HaveNodes, IsDrawn, IsKept, KindFits, Table, claims, due, is_node, one_if, total, word_at}
use Rattle.sw_pass.specs.Steps.{most_passes}
use Rattle.sw_pass.specs.declared.known.Drawn.{Drawn}
use Rattle.sw_pass.specs.declared.known.Kind.{Kind}
use Rattle.sw_pass.specs.declared.known.Kind.TheVariants as kind
use Rattle.sw_pass.specs.declared.known.Known.{Known}
use Rattle.sw_pass.proofs.Counts.{greatest_added, greatest_set, total_added, total_set}
use Rattle.sw_pass.proofs.Histories.{continues_itself, continues_length, continues_more}
use Rattle.sw_pass.proofs.Losses.{losses_more}

pub agree_sym : (fs gs : List Drawn) → AllAgree fs gs → AllAgree gs fs
agree_sym fs gs h g f b a e = sym (h f g a b (sym e))

-- what fits a seat still does where the words and the histories grow
pub fits_grown : (cluster : ClusterModel) (g g' : Account) (n n' l l' id : ℕ) (v : Known) → n ≤ n' → l ≤ l' → ((x : ℕ) → Continues (g'.past x) (g.past x)) → ((f : Drawn) → IsDrawn cluster g n l f → (device : ℕ) → IsGuarded cluster device f.stamp f.mark (due g' (slot_of cluster device)))
    → KindFits cluster g' id v v.kind → Fits cluster g n l id v → Fits cluster g' n' l' id v
fits_grown cluster g g' n n' l l' id v a b more guard fit f = record {
  kind = fit;
  drawn = λ x has. let d = f.drawn x has in let s = d.stamp in let m = d.mark in record { stamp = omega arith; bound = d.bound; may = d.may; mark = omega arith; guarded = guard x d };
  histories = λ x. continues_more (g'.past x) (g.past x) _ (more x) (f.histories x);
  closed = f.closed;
  olds = f.olds;
  mark = let m = f.mark in omega arith;
  clock = let m = f.clock in omega arith;
  raising = f.raising;
  losing = f.losing;
  late = λ x has. let h = f.late x has in let c = continues_length (g'.past x) (g.past x) (more x) in omega arith;
  full = λ is. let m = f.full is in omega arith;
}

pub fits_more : (cluster : ClusterModel) (g : Account) (n n' l l' id : ℕ) (v : Known) → n ≤ n' → l ≤ l' → Fits cluster g n l id v → Fits cluster g n' l' id v
fits_more cluster g n n' l l' id v a b f = fits_grown cluster g g n n' l l' id v a b (λ x. continues_itself (g.past x)) (λ x d. d.guarded) f.kind f

pub device_more : (cluster : ClusterModel) (g : Account) (n n' l l' word x : ℕ) → n ≤ n' → l ≤ l' → DeviceFits cluster g n l word x → DeviceFits cluster g n' l' word x
device_more cluster g n n' l l' word x a b d = record { claimed = d.claimed; fresh = λ device stamp mark at le. d.fresh device stamp mark at (omega (arith, a, le)); rises = d.rises; beneath = losses_more l l' b (due g x) d.beneath; unclaimed = d.unclaimed }

-- one seat changes
pub moved : (cluster : ClusterModel) (s : Table) (id : ℕ) (w : Known) (words : List ℕ) (g : Account) (k : IsKept cluster s)
    → length words ≡ size_of cluster + 2
    → Fits cluster g (get_or words 0 0) (get_or words (size_of cluster + 1) 0) id w
    → ((j : ℕ) (u : Known) → j ≢ id → get_elem? s.views j ≡ some u → Fits cluster g (get_or words 0 0) (get_or words (size_of cluster + 1) 0) j u)
    → AllAgree w.drawn w.drawn → ((j : ℕ) (u : Known) → get_elem? s.views j ≡ some u → AllAgree w.drawn u.drawn)
    → ((x : ℕ) → x < size_of cluster → DeviceFits cluster g (get_or words 0 0) (get_or words (size_of cluster + 1) 0) (word_at words x) x)
    → ((x : ℕ) → size_of cluster ≤ x → (g.past x ≡ []) × (g.owed x ≡ None))
    → CountsFit (get_or words 0 0) (get_or words (size_of cluster + 1) 0) (claims (word_at words) (size_of cluster)) (set s.views id w)
    → HaveNodes cluster g (set s.views id w)
    → IsKept cluster (record { words = words; homes = s.homes; views = set s.views id w })
moved cluster s id w words g k wide fits others own agree device beyond counts nodes = record {
  account = g;
  rules = k.rules;
  wide = wide;
  each = λ j u e. ⊎_elim (λ (t : (j ≡ id) × (w ≡ u)). subst (λ (z : ℕ × Known). Fits cluster g (get_or words 0 0) (get_or words (size_of cluster + 1) 0) z.0 z.1) (λ i. (sym t.0 i, t.1 i)) fits)
      (λ (t : (j ≢ id) × (get_elem? s.views j ≡ some u)). others j u t.0 t.1) (at_set s.views id j w u e);
  agree = λ i j x y e f.
      ⊎_elim
      (λ (t : (i ≡ id) × (w ≡ x)). subst (λ (z : Known). AllAgree z.drawn y.drawn) t.1
      (⊎_elim (λ (p : (j ≡ id) × (w ≡ y)). subst (λ (z : Known). AllAgree w.drawn z.drawn) p.1 own)
      (λ (p : (j ≢ id) × (get_elem? s.views j ≡ some y)). agree j y p.1) (at_set s.views id j w y f)))
      (λ (t : (i ≢ id) × (get_elem? s.views i ≡ some x)).
      ⊎_elim (λ (p : (j ≡ id) × (w ≡ y)). subst (λ (z : Known). AllAgree x.drawn z.drawn) p.1 (agree_sym w.drawn x.drawn (agree i x t.1)))
      (λ (p : (j ≢ id) × (get_elem? s.views j ≡ some y)). k.agree i j x y t.1 p.1) (at_set s.views id j w y f))
      (at_set s.views id i w x e);
  device = device;
  nodes = nodes;
  beyond = beyond;
  counts = counts;
}

-- two seats that count the same
pub record CountsLike (v w : Known) : Type 0 where
  pub passes : w.passes ≤ v.passes
  pub clock : w.clock ≡ v.clock
  pub raising : w.raising ≡ v.raising
  pub draws : w.draws ≡ v.draws
  pub losing : w.losing ≡ v.losing
  pub kind : is_node w.kind ≡ is_node v.kind

pub counts_like : (n l c : ℕ) (vs : List Known) (id : ℕ) (v w : Known) → get_elem? vs id ≡ some v → CountsLike v w → CountsFit n l c vs → CountsFit n l c (set vs id w)
counts_like n l c vs id v w at same fit =
    let p0 = total_set (λ u. u.passes) vs id v w at in
    let p1 = same.passes in
    let p2 = fit.passes in
    let a = total_set (λ u. one_if u.raising) vs id v w at in
    let a' : one_if w.raising ≡ one_if v.raising = ap one_if same.raising in
    let b = total_set (λ u. u.draws) vs id v w at in
    let b' = same.draws in
    let d = total_set (λ u. one_if u.losing) vs id v w at in
    let d' : one_if w.losing ≡ one_if v.losing = ap one_if same.losing in
    let e = total_set (λ u. is_node u.kind) vs id v w at in
    let e' = same.kind in
    let h = same.clock in
    let g = (greatest_set vs id v w at (omega arith)).0 in
    let q0 = fit.pending in
    let q1 = fit.clock in
    let q2 = fit.lost in
    let q3 = fit.nodes in
    record { passes = omega arith; pending = omega arith; clock = omega arith; lost = omega arith; nodes = omega arith }

pub there : (seats : List Known) (id : ℕ) (known : Known) → get_elem? seats id ≡ some known → id < length seats
there [] id known is = absurd (some-ne-none known (sym is))
there (first ∷ others) zero known is = omega arith
there (first ∷ others) (suc id) known is = let less = there others id known is in omega arith

-- the nodes are there still as a seat changes that stays what it is
pub nodes_like : (cluster : ClusterModel) (g : Account) (vs : List Known) (id : ℕ) (v w : Known) → get_elem? vs id ≡ some v → w.kind ≡ v.kind → HaveNodes cluster g vs → HaveNodes cluster g (set vs id w)
nodes_like cluster g vs id v w at kinds have slot inside begun =
    let one = have slot inside begun in
    dite (ℕ_discrete (g.seat slot) id)
    (λ e.
    let same : v ≡ one.0 = some-injective v one.0 (sym at ∙ (ap (get_elem? vs) (sym e) ∙ one.1)) in
    (w, ap (get_elem? (set vs id w)) e ∙ set_here vs id w (there vs id v at), kinds ∙ (ap (λ (z : Known). z.kind) same ∙ one.2)))
    (λ ne. (one.0, set_else vs id (g.seat slot) w ne ∙ one.1, one.2))

-- as the seat of a node changes at its slot
pub nodes_at : (cluster : ClusterModel) (g g' : Account) (vs : List Known) (id x : ℕ) (v w : Known) → get_elem? vs id ≡ some v → w.kind ≡ kind.Node x → ((slot : ℕ) → v.kind ≡ kind.Node slot → slot ≡ x)
    → g'.seat x ≡ id → ((slot : ℕ) → slot ≢ x → (g'.seat slot ≡ g.seat slot) × (g'.past slot ≡ g.past slot)) → HaveNodes cluster g vs → HaveNodes cluster g' (set vs id w)
nodes_at cluster g g' vs id x v w at node own seat others have slot inside begun =
    dite (ℕ_discrete slot x)
    (λ e. (w, ap (get_elem? (set vs id w)) (ap g'.seat e ∙ seat) ∙ set_here vs id w (there vs id v at), node ∙ ap kind.Node (sym e)))
    (λ ne.
    let same = others slot ne in
    let one = have slot inside (subst (λ past. 0 < length past) same.1 begun) in
    let apart : g.seat slot ≢ id = λ e.
    let known : v ≡ one.0 = some-injective v one.0 (sym at ∙ (ap (get_elem? vs) (sym e) ∙ one.1)) in
    ne (own slot (ap (λ (z : Known). z.kind) known ∙ one.2)) in
    (one.0, ap (get_elem? (set vs id w)) same.0 ∙ (set_else vs id (g.seat slot) w apart ∙ one.1), one.2))

-- and as a note is joined away
pub nodes_joined : (cluster : ClusterModel) (g : Account) (vs : List Known) (other : ℕ) (v w : Known) → get_elem? vs other ≡ some v → ((slot : ℕ) → v.kind ≡ kind.Node slot → ⊥) → HaveNodes cluster g vs → HaveNodes cluster g (set vs other w)
nodes_joined cluster g vs other v w at never have slot inside begun =
    let one = have slot inside begun in
    let apart : g.seat slot ≢ other = λ e.
    let known : v ≡ one.0 = some-injective v one.0 (sym at ∙ (ap (get_elem? vs) (sym e) ∙ one.1)) in
    never slot (ap (λ (z : Known). z.kind) known ∙ one.2) in
    (one.0, set_else vs other (g.seat slot) w apart ∙ one.1, one.2)

-- the words stay, and one seat changes that knows the same facts, and counts so
pub kept_counting : (cluster : ClusterModel) (s : Table) (id : ℕ) (v w : Known) (k : IsKept cluster s) → get_elem? s.views id ≡ some v → w.drawn ≡ v.drawn → w.kind ≡ v.kind
    → CountsFit (get_or s.words 0 0) (get_or s.words (size_of cluster + 1) 0) (claims (word_at s.words) (size_of cluster)) (set s.views id w)
    → Fits cluster k.account (get_or s.words 0 0) (get_or s.words (size_of cluster + 1) 0) id w
    → IsKept cluster (record { words = s.words; homes = s.homes; views = set s.views id w })
kept_counting cluster s id v w k at facts kinds counts fits =
    moved cluster s id w s.words k.account k k.wide fits (λ j u _ e. k.each j u e)
    (subst (λ fs. AllAgree fs fs) (sym facts) (k.agree id id v v at at))
    (λ j u e. subst (λ fs. AllAgree fs u.drawn) (sym facts) (k.agree id j v u at e))
    k.device k.beyond counts (nodes_like cluster k.account s.views id v w at kinds k.nodes)

-- or the same
pub kept : (cluster : ClusterModel) (s : Table) (id : ℕ) (v w : Known) (k : IsKept cluster s) → get_elem? s.views id ≡ some v → w.drawn ≡ v.drawn → w.kind ≡ v.kind → CountsLike v w
    → Fits cluster k.account (get_or s.words 0 0) (get_or s.words (size_of cluster + 1) 0) id w
    → IsKept cluster (record { words = s.words; homes = s.homes; views = set s.views id w })
kept cluster s id v w k at facts kinds same fits = kept_counting cluster s id v w k at facts kinds (counts_like _ _ _ s.views id v w at same k.counts) fits

-- a new seat comes, which counts nothing but the passes that it may be split into, and knows the facts of another
pub came : (cluster : ClusterModel) (s : Table) (id : ℕ) (v w : Known) (k : IsKept cluster s) → get_elem? s.views id ≡ some v → w.drawn ≡ v.drawn
    → total (λ u. u.passes) s.views + w.passes ≤ most_passes → w.raising ≡ false → w.draws ≡ 0 → w.losing ≡ false → is_node w.kind ≡ 0
    → ((j : ℕ) → Fits cluster k.account (get_or s.words 0 0) (get_or s.words (size_of cluster + 1) 0) j w)
    → IsKept cluster (record { words = s.words; homes = s.homes; views = s.views ++ w ∷ [] })
came cluster s id v w k at facts room raising draws losing other fits =
    let vs : List Known = s.views ++ w ∷ [] in
    let p0 = total_added (λ u. u.passes) s.views w in
    let a = total_added (λ u. one_if u.raising) s.views w in
    let a' : one_if w.raising ≡ 0 = ap one_if raising in
    let b = total_added (λ u. u.draws) s.views w in
    let d = total_added (λ u. one_if u.losing) s.views w in
    let d' : one_if w.losing ≡ 0 = ap one_if losing in
    let e = total_added (λ u. is_node u.kind) s.views w in
    let g = greatest_added s.views w in
    let q0 = k.counts.pending in
    let q1 = k.counts.clock in
    let q2 = k.counts.lost in
    let q3 = k.counts.nodes in
    let old : (j : ℕ) (u : Known) → get_elem? s.views j ≡ some u → AllAgree w.drawn u.drawn = λ j u at'. subst (λ fs. AllAgree fs u.drawn) (sym facts) (k.agree id j v u at at') in
    let own : AllAgree w.drawn w.drawn = subst (λ fs. AllAgree fs fs) (sym facts) (k.agree id id v v at at) in record {
      account = k.account;
      rules = k.rules;
      wide = k.wide;
      each = λ j u at'. ⊎_elim (λ was. k.each j u was) (λ (is : w ≡ u). subst (Fits cluster k.account (get_or s.words 0 0) (get_or s.words (size_of cluster + 1) 0) j) is (fits j)) (at_snoc s.views w u j at');
      agree = λ i j x y at1 at2.
          ⊎_elim
          (λ was. ⊎_elim (λ (was' : get_elem? s.views j ≡ some y). k.agree i j x y was was') (λ (is : w ≡ y). subst (λ (z : Known). AllAgree x.drawn z.drawn) is (agree_sym w.drawn x.drawn (old i x was))) (at_snoc s.views w y j at2))
          (λ (is : w ≡ x). subst (λ (z : Known). AllAgree z.drawn y.drawn) is
          (⊎_elim (λ (was : get_elem? s.views j ≡ some y). old j y was) (λ (is' : w ≡ y). subst (λ (z : Known). AllAgree w.drawn z.drawn) is' own) (at_snoc s.views w y j at2)))
          (at_snoc s.views w x i at1);
      device = k.device;
      nodes = λ slot inside begun. let one = k.nodes slot inside begun in (one.0, at_longer s.views (w ∷ []) (k.account.seat slot) one.0 one.1, one.2);
      beyond = k.beyond;
      counts = record { passes = omega arith; pending = omega arith; clock = omega arith; lost = omega arith; nodes = omega arith };
    }

pub loads : (cluster : ClusterModel) (i id : ℕ) (s : Table) (cs : List (ℕ × Unit)) (w : Known) → IsKept cluster (record { words = s.words; homes = s.homes; views = set s.views id w }) → IsKept cluster (stepped s i (get_or s.words i 0) id cs w keeps)
loads cluster i id s cs w made = subst (λ ws. IsKept cluster (record { words = ws; homes = s.homes; views = set s.views id w })) (sym (set-get_or s.words i 0)) made

-- the kind still fits a seat that knows the same history, and owes the same
pub kind_like : (cluster : ClusterModel) (g : Account) (id : ℕ) (v w : Known) (k : Kind) → w.histories ≡ v.histories → w.owing ≡ v.owing → KindFits cluster g id v k → KindFits cluster g id w k
kind_like cluster g id v w kind.Pass hs o f = o ∙ f
kind_like cluster g id v w kind.Note hs o f = o ∙ f
kind_like cluster g id v w kind.Spent hs o f = o ∙ f
kind_like cluster g id v w (kind.Node x) hs o f = record { inside = f.inside; holder = f.holder; whole = ap (λ z. history z x) hs ∙ f.whole; begun = f.begun; owing = o ∙ f.owing }
