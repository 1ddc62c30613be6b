-- A join: one seat knows what two did, and the other is spent.
use Rattle.std.proofs.Common.{◌≡◌, ◌≢◌, ◌⊎◌, ℕ, zero, suc, ◌+◌, true≢false, List, [], ◌∷◌, ◌++◌, set, get_or, Contains, refl, sym, ap, ◌∙◌, subst, inl, inr, ⊎_elim, arith}
use mathlib.Core.Option.{some}
use lib.ListN.{get_elem?}
use Rattle.std.proofs.lemmas.List.Elements.{Contains-append_cases, Contains-append_left, Contains-append_right}
use Rattle.atomic_table.specs.Table.{Joins}
use Rattle.atomic_table.proofs.Lists.{at_set}
use Rattle.sw_diskfile.proofs.Lists.{Contains-none}
use Rattle.sw_ring.specs.Cluster.{ClusterModel}
use Rattle.sw_law_scene.specs.Devices.{no_folders}
use Rattle.sw_law_scene.specs.Disks.{Sure}
use Rattle.sw_view.specs.View.{IsClosed}
use Rattle.sw_view.proofs.Growth.{closed_in_both}
use Rattle.sw_pass.specs.Known.{AllAgree, Covers, IsNote, history, size_of, slot_of, view_of}
use Rattle.sw_pass.specs.Rule.{Account, Fits, IsKept, KindFits, is_node, one_if}
use Rattle.sw_pass.specs.Steps.{joined, longest, old_of, own_kept, spent}
use Rattle.sw_pass.specs.declared.known.Drawn.{Drawn}
use Rattle.sw_pass.specs.declared.known.Kind.{Kind}
use Rattle.sw_pass.specs.declared.known.Kind.TheVariants as kind
use Rattle.sw_pass.specs.declared.known.Known.{Known}
use Rattle.sw_pass.specs.declared.known.Old.{Old}
use Rattle.sw_pass.proofs.Counts.{greatest_set, total_set}
use Rattle.sw_pass.proofs.Histories.{Both, IsWhole, continues_none, history_same, own_both}
use Rattle.sw_pass.proofs.Keeps.{agree_sym, nodes_joined, nodes_like}
use Rattle.sw_pass.proofs.Views.{grows_with}

-- what a seat that knows nothing knows is closed
pub nothing_closed : (cluster : ClusterModel) → IsClosed cluster (view_of cluster spent)
nothing_closed cluster = record { fair = λ device event has. absurd (Contains-none event has); replayed = λ device. (Sure no_folders, refl) }

two_olds : (a b o : Old) → Contains (a ∷ b ∷ []) o → (a ≡ o) ⊎ (b ≡ o)
two_olds a b o (zero, l, e) = inl e
two_olds a b o (suc zero, l, e) = inr e
two_olds a b o (suc (suc k), l, e) = absurd (omega arith)

whole_of : (cluster : ClusterModel) (g : Account) (id : ℕ) (v : Known) (k : Kind) → KindFits cluster g id v k → IsWhole g.past v.histories k
whole_of cluster g id v kind.Pass f = tt
whole_of cluster g id v kind.Note f = tt
whole_of cluster g id v kind.Spent f = tt
whole_of cluster g id v (kind.Node x) f = f.whole

-- the kind still fits after a join
kind_joined : (cluster : ClusterModel) (g : Account) (id : ℕ) (v w : Known) (k : Kind) → ((x : ℕ) → k ≡ kind.Node x → history w.histories x ≡ history v.histories x) → w.owing ≡ v.owing → KindFits cluster g id v k → KindFits cluster g id w k
kind_joined cluster g id v w kind.Pass hs o f = o ∙ f
kind_joined cluster g id v w kind.Note hs o f = o ∙ f
kind_joined cluster g id v w kind.Spent hs o f = o ∙ f
kind_joined cluster g id v w (kind.Node x) hs o f = record { inside = f.inside; holder = f.holder; whole = hs x refl ∙ f.whole; begun = f.begun; owing = o ∙ f.owing }

joined_fits : (cluster : ClusterModel) (g : Account) (n l id other : ℕ) (v w : Known) → Fits cluster g n l id v → Fits cluster g n l other w → Fits cluster g n l id (joined v w)
joined_fits cluster g n l id other v w a b = record {
  kind = by_kind v.kind refl a.kind;
  drawn = λ x has. ⊎_elim (λ (c : Contains v.drawn x). a.drawn x c) (λ (c : Contains w.drawn x). b.drawn x c) (Contains-append_cases v.drawn w.drawn x has);
  histories = λ x. (both x).2;
  closed = closed_in_both cluster (view_of cluster v) (view_of cluster w) (view_of cluster (joined v w)) a.closed b.closed (record {
    first = grows_with cluster v.drawn (joined v w).drawn v.histories (joined v w).histories (λ y c. Contains-append_left v.drawn w.drawn y c) (λ y. (both y).0);
    second = grows_with cluster w.drawn (joined v w).drawn w.histories (joined v w).histories (λ y c. Contains-append_right v.drawn w.drawn y c) (λ y. (both y).1);
    either = λ device. (both (slot_of cluster device)).3;
  });
  olds = λ o c. ⊎_elim (λ (e : old_of v ≡ o). subst (Covers (joined v w)) e covers_v) (λ (e : old_of w ≡ o). subst (Covers (joined v w)) e covers_w) (two_olds (old_of v) (old_of w) o c);
  mark = let m = a.mark in let m' = b.mark in omega arith;
  clock = a.clock;
  raising = a.raising;
  losing = a.losing;
  late = a.late;
  full = a.full;
}
  where
    both : (x : ℕ) → Both (g.past x) (history v.histories x) (history w.histories x) (history (own_kept v.kind v.histories w.histories) x)
    both = own_both g.past v.histories w.histories a.histories b.histories v.kind (whole_of cluster g id v v.kind a.kind)

    covers_v : Covers (joined v w) (old_of v)
    covers_v = record { drawn = λ x c. Contains-append_left v.drawn w.drawn x c; histories = λ x. (both x).0 }

    covers_w : Covers (joined v w) (old_of w)
    covers_w = record { drawn = λ x c. Contains-append_right v.drawn w.drawn x c; histories = λ x. (both x).1 }

    by_kind : (k : Kind) → v.kind ≡ k → KindFits cluster g id v k → KindFits cluster g id (joined v w) k
    by_kind k e fit = kind_joined cluster g id v (joined v w) k
        (λ x is. subst (λ z. history (own_kept z v.histories w.histories) x ≡ history v.histories x) (sym (e ∙ is)) (history_same (longest v.histories w.histories) x (history v.histories x)))
        refl fit

append_agrees : (fs gs hs : List Drawn) → AllAgree fs hs → AllAgree gs hs → AllAgree (fs ++ gs) hs
append_agrees fs gs hs a b f h has has' = ⊎_elim (λ (c : Contains fs f). a f h c has') (λ (c : Contains gs f). b f h c has') (Contains-append_cases fs gs f has)

spent_fits : (cluster : ClusterModel) (g : Account) (n l id : ℕ) → Fits cluster g n l id spent
spent_fits cluster g n l id = record {
  kind = refl;
  drawn = λ x c. absurd (Contains-none x c);
  histories = λ x. continues_none (g.past x);
  closed = nothing_closed cluster;
  olds = λ o c. absurd (Contains-none o c);
  mark = omega arith;
  clock = omega arith;
  raising = omega arith;
  losing = omega arith;
  late = λ x c. absurd (Contains-none x c);
  full = λ is. absurd (true≢false (sym is));
}

pub joins : (cluster : ClusterModel) (id other : ℕ) (v w : Known) → IsNote w → Joins (IsKept cluster) id v other w (joined v w) spent
joins cluster id other v w note s k at apart there =
    let n : ℕ = get_or s.words 0 0 in
    let l : ℕ = get_or s.words (size_of cluster + 1) 0 in
    let vs : List Known = set s.views id (joined v w) in
    let before : get_elem? s.views other ≡ some w = ⊎_elim (λ (t : (other ≡ id) × (joined v w ≡ w)). absurd (apart t.0)) (λ (t : (other ≢ id) × (get_elem? s.views other ≡ some w)). t.1) (at_set s.views id other (joined v w) w there) in
    let f = k.each id v at in
    let g = k.each other w before in
    let mine : (j : ℕ) (u : Known) → get_elem? s.views j ≡ some u → AllAgree (v.drawn ++ w.drawn) u.drawn = λ j u e. append_agrees v.drawn w.drawn u.drawn (k.agree id j v u at e) (k.agree other j w u before e) in
    let own : AllAgree (v.drawn ++ w.drawn) (v.drawn ++ w.drawn) = append_agrees v.drawn w.drawn (v.drawn ++ w.drawn) (agree_sym (v.drawn ++ w.drawn) v.drawn (mine id v at)) (agree_sym (v.drawn ++ w.drawn) w.drawn (mine other w before)) in
    -- which view stands at a place
    let cases : (i : ℕ) (u : Known) (Z : Type 0) → get_elem? (set vs other spent) i ≡ some u → ((i ≡ other) → (spent ≡ u) → Z) → ((i ≡ id) → (joined v w ≡ u) → Z) → (get_elem? s.views i ≡ some u → Z) → Z = λ i u Z e a b c.
    ⊎_elim (λ (t : (i ≡ other) × (spent ≡ u)). a t.0 t.1)
    (λ (t : (i ≢ other) × (get_elem? vs i ≡ some u)). ⊎_elim (λ (q : (i ≡ id) × (joined v w ≡ u)). b q.0 q.1) (λ (q : (i ≢ id) × (get_elem? s.views i ≡ some u)). c q.1) (at_set s.views id i (joined v w) u t.1))
    (at_set vs other i spent u e) in
    let none : (u : Known) → spent ≡ u → (fs : List Drawn) → AllAgree u.drawn fs = λ u is fs. subst (λ (z : Known). AllAgree z.drawn fs) is (λ f g has. absurd (Contains-none f has)) in
    let p0 = total_set (λ u. u.passes) s.views id v (joined v w) at in
    let p0' = total_set (λ u. u.passes) vs other w spent there in
    let a = total_set (λ u. one_if u.raising) s.views id v (joined v w) at in
    let a' = total_set (λ u. one_if u.raising) vs other w spent there in
    let a'' : one_if w.raising ≡ 0 = ap one_if note.raising in
    let b = total_set (λ u. u.draws) s.views id v (joined v w) at in
    let b' = total_set (λ u. u.draws) vs other w spent there in
    let b'' = note.draws in
    let c = total_set (λ u. one_if u.losing) s.views id v (joined v w) at in
    let c' = total_set (λ u. one_if u.losing) vs other w spent there in
    let d = total_set (λ u. is_node u.kind) s.views id v (joined v w) at in
    let d' = total_set (λ u. is_node u.kind) vs other w spent there in
    let d'' : is_node w.kind ≡ 0 = ap is_node note.kind in
    let m = (greatest_set s.views id v (joined v w) at (omega arith)).0 in
    let z = note.clock in
    let m' = (greatest_set vs other w spent there (omega arith)).0 in
    let q0 = k.counts.passes in
    let q1 = k.counts.pending in
    let q2 = k.counts.clock in
    let q3 = k.counts.lost in
    let q4 = k.counts.nodes in record {
      account = k.account;
      rules = k.rules;
      wide = k.wide;
      each = λ i u has. cases i u (Fits cluster k.account n l i u) has
          (λ _ is. subst (Fits cluster k.account n l i) is (spent_fits cluster k.account n l i))
          (λ here is. subst (λ (y : ℕ × Known). Fits cluster k.account n l y.0 y.1) (λ i'. (sym here i', is i')) (joined_fits cluster k.account n l id other v w f g))
          (λ was. k.each i u was);
      agree = λ i j x y at1 at2.
          cases i x (AllAgree x.drawn y.drawn) at1
          (λ _ is. none x is y.drawn)
          (λ _ is. subst (λ (z' : Known). AllAgree z'.drawn y.drawn) is (cases j y (AllAgree (v.drawn ++ w.drawn) y.drawn) at2
          (λ _ is'. agree_sym y.drawn (v.drawn ++ w.drawn) (none y is' (v.drawn ++ w.drawn)))
          (λ _ is'. subst (λ (z' : Known). AllAgree (v.drawn ++ w.drawn) z'.drawn) is' own)
          (λ was. mine j y was)))
          (λ was. cases j y (AllAgree x.drawn y.drawn) at2
          (λ _ is'. agree_sym y.drawn x.drawn (none y is' x.drawn))
          (λ _ is'. subst (λ (z' : Known). AllAgree x.drawn z'.drawn) is' (agree_sym (v.drawn ++ w.drawn) x.drawn (mine i x was)))
          (λ was'. k.agree i j x y was was'));
      device = k.device;
      nodes = nodes_joined cluster k.account vs other w spent there (λ slot is. let no : kind.Note ≡ kind.Node slot = sym note.kind ∙ is in cc (no)) (nodes_like cluster k.account s.views id v (joined v w) at refl k.nodes);
      beyond = k.beyond;
      counts = record { passes = omega arith; pending = omega arith; clock = omega arith; lost = omega arith; nodes = omega arith };
    }
