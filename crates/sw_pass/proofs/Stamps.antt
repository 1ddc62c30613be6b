-- The steps on the word of stamps: it is raised to a clock, and a stamp is drawn.
use Rattle.std.proofs.Common.{◌≡◌, ◌≢◌, ℕ, suc, ◌+◌, ◌%◌, ◌^◌, ◌≤◌, ◌<◌, max, mod-eq_of_lt, if◌then◌else◌, nat_lt, Bool, true, false, true≢false, List, ◌∷◌, set, get_or, Contains, Option, None, refl, sym, ap, ◌∙◌, subst, inl, ⊎_elim, arith, length-set, get_or-set_same, get_or-set_other}
use mathlib.Core.Option.{none, some}
use mathlib.Core.Logic.{dite}
use native.Mathlib.Decide.{dec_le}
use native.Mathlib.Nat.{lt_of_not-le}
use lib.ListN.{get_elem?}
use Rattle.std.proofs.lemmas.Bool.Decides.{nat_tests}
use Rattle.atomic_table.specs.Table.{Allows, keeps, step, stepped}
use Rattle.atomic_table.proofs.Lists.{at_set}
use Rattle.sw_types.specs.Name.{NameModel}
use Rattle.sw_types.specs.Object.{ObjectModel}
use Rattle.sw_types.specs.Stamp.{greatest_stamp}
use Rattle.sw_diskfile.proofs.Lists.{Contains-cases, Contains-later}
use Rattle.sw_ring.specs.Cluster.{ClusterModel}
use Rattle.sw_view.specs.History.{Continues, IsGuarded}
use Rattle.sw_view.specs.View.{IsClosed}
use Rattle.sw_pass.specs.Known.{AllAgree, IsPass, history, size_of, slot_of, view_of, view_with}
use Rattle.sw_pass.specs.Losses.{with_owed}
use Rattle.sw_pass.specs.Rule.{CountsFit, DeviceFits, Fits, IsDrawn, IsKept, KindFits, Table, claims, due, is_node, one_if, total, word_at}
use Rattle.sw_pass.specs.Steps.{MayDraw, Raises, Takes, counted, drew, fact_of, filled, most_passes, raise, raised, take}
use Rattle.sw_pass.specs.declared.known.Drawn.{Drawn}
use Rattle.sw_pass.specs.declared.known.Known.{Known}
use Rattle.sw_pass.proofs.Counts.{claims_same, greatest_set, total_le, total_set}
use Rattle.sw_pass.proofs.Histories.{continues_itself}
use Rattle.sw_pass.proofs.Keeps.{device_more, fits_more, kind_like, moved, nodes_like}
use Rattle.sw_pass.proofs.Views.{closed_after, grows_with}

pub tested : (a n : ℕ) (P : Bool → Type 0) (b : Bool) → nat_lt a n ≡ b → (a < n → P true) → (n ≤ a → P false) → P b
tested a n P true is above below = above (grind (arith, nat_tests))
tested a n P false is above below = below (grind (arith, nat_tests))

one_if_le : (b : Bool) → one_if b ≤ 1
one_if_le true = omega arith
one_if_le false = omega arith

-- by whether a stamp was left
by_left : (n : ℕ) (P : Known → Type 0) (v w : Known) → (greatest_stamp < n → P v) → (n ≤ greatest_stamp → P w) → P (if nat_lt greatest_stamp n then v else w)
by_left n P v w above below = tested greatest_stamp n (λ b. P (if b then v else w)) (nat_lt greatest_stamp n) refl above below

-- word 0 grows, and one seat changes
stamped : (cluster : ClusterModel) (s : Table) (id n : ℕ) (v w : Known) (k : IsKept cluster s) → get_elem? s.views id ≡ some v → get_or s.words 0 0 ≤ n
    → Fits cluster k.account n (get_or s.words (size_of cluster + 1) 0) id w
    → AllAgree w.drawn w.drawn → ((j : ℕ) (u : Known) → get_elem? s.views j ≡ some u → AllAgree w.drawn u.drawn)
    → CountsFit n (get_or s.words (size_of cluster + 1) 0) (claims (word_at s.words) (size_of cluster)) (set s.views id w) → w.kind ≡ v.kind
    → IsKept cluster (record { words = set s.words 0 n; homes = s.homes; views = set s.views id w })
stamped cluster s id n v w k at up fits own others counts kinds =
    let ws : List ℕ = set s.words 0 n in
    let wide = k.wide in
    let first : get_or ws 0 0 ≡ n = get_or-set_same s.words 0 n 0 (omega arith) in
    let other : (i : ℕ) → get_or ws (i + 1) 0 ≡ get_or s.words (i + 1) 0 = λ i. get_or-set_other s.words 0 (i + 1) n 0 (λ e. omega arith) in
    let l : ℕ = get_or s.words (size_of cluster + 1) 0 in
    let same : (P : ℕ → ℕ → Type 0) → P n l → P (get_or ws 0 0) (get_or ws (size_of cluster + 1) 0) = λ P p. subst (λ z. P z (get_or ws (size_of cluster + 1) 0)) (sym first) (subst (P n) (sym (other (size_of cluster))) p) in
    moved cluster s id w ws k.account k (length-set s.words 0 n ∙ wide)
    (same (λ a b. Fits cluster k.account a b id w) fits)
    (λ j u _ e. same (λ a b. Fits cluster k.account a b j u) (fits_more cluster k.account (get_or s.words 0 0) n l l j u up (omega arith) (k.each j u e)))
    own others
    (λ x inside. same (λ a b. DeviceFits cluster k.account a b (get_or ws (x + 1) 0) x) (subst (λ z. DeviceFits cluster k.account n l z x) (sym (other x)) (device_more cluster k.account (get_or s.words 0 0) n l l (get_or s.words (x + 1) 0) x up (omega arith) (k.device x inside))))
    k.beyond
    (same (λ a b. CountsFit a b (claims (word_at ws) (size_of cluster)) (set s.views id w))
    (subst (λ c. CountsFit n l c (set s.views id w)) (sym (claims_same (word_at s.words) (word_at ws) (size_of cluster) (λ x _. other x))) counts))
    (nodes_like cluster k.account s.views id v w at kinds k.nodes)

-- a pass that was not between raise and draw raises
module _ (cluster : ClusterModel) (s : Table) (id clock : ℕ) (v w : Known) (k : IsKept cluster s) (at : get_elem? s.views id ≡ some v) (le : clock ≤ greatest_stamp) (free : v.raising ≡ false)
    (passes : w.passes ≡ v.passes) (clocks : w.clock ≡ max v.clock clock) (draws : w.draws ≡ v.draws) (losing : w.losing ≡ v.losing) (kinds : w.kind ≡ v.kind) where
  abbrev found : ℕ
  found = get_or s.words 0 0

  raised_counts : (w.raising ≡ true → (max found clock ≤ greatest_stamp) × (1 ≤ w.passes))
      → CountsFit (max found clock) (get_or s.words (size_of cluster + 1) 0) (claims (word_at s.words) (size_of cluster)) (set s.views id w)
  raised_counts low =
      let p = total_set (λ u. u.passes) s.views id v w at in
      let b = total_set (λ u. u.draws) s.views id v w at in
      let d = total_set (λ u. one_if u.losing) s.views id v w at in
      let d' : one_if w.losing ≡ one_if v.losing = ap one_if losing in
      let e = total_set (λ u. is_node u.kind) s.views id v w at in
      let e' : is_node w.kind ≡ is_node v.kind = ap is_node kinds in
      let g = greatest_set s.views id v w at (omega arith) in
      let g0 = g.0 in
      let g1 = g.1 in
      let q0 = k.counts.passes in
      let q1 = k.counts.clock in
      let q2 = k.counts.lost in
      let q3 = k.counts.nodes in
      record { passes = omega arith; pending = by_flag w.raising refl; clock = omega arith; lost = omega arith; nodes = omega arith }
    where
      by_flag : (b : Bool) → w.raising ≡ b → max (get_or s.words 0 0) clock + total (λ u. one_if u.raising) (set s.views id w) ≤ suc greatest_stamp + most_passes
      by_flag true is =
          let m = (low is).0 in
          let few = k.counts.passes in
          let p = total_set (λ u. u.passes) s.views id v w at in
          let a = total_set (λ u. one_if u.raising) s.views id v w at in
          let r : one_if v.raising ≡ 0 = ap one_if free in
          let r' : one_if w.raising ≡ 1 = ap one_if is in
          let own = (low is).1 in
          let t = total_le (λ u. one_if u.raising) (λ u. u.passes) (set s.views id w) (λ j u e. ⊎_elim
          (λ (here : (j ≡ id) × (w ≡ u)). subst (λ (z : Known). one_if z.raising ≤ z.passes) here.1 (omega arith))
          (λ (there : (j ≢ id) × (get_elem? s.views j ≡ some u)). (k.each j u there.1).raising)
          (at_set s.views id j w u e)) in
          omega arith
      by_flag false is =
          let a = total_set (λ u. one_if u.raising) s.views id v w at in
          let r : one_if v.raising ≡ 0 = ap one_if free in
          let r' : one_if w.raising ≡ 0 = ap one_if is in
          let few = k.counts.passes in
          let t = total_le (λ u. one_if u.raising) (λ u. u.passes) s.views (λ j u e. (k.each j u e).raising) in
          let q = k.counts.pending in
          omega arith

raised_keeps : (cluster : ClusterModel) (s : Table) (id clock : ℕ) (v w : Known) (k : IsKept cluster s) → get_elem? s.views id ≡ some v → clock ≤ greatest_stamp → IsPass v
    → w.kind ≡ v.kind → w.passes ≡ v.passes → w.drawn ≡ v.drawn → w.histories ≡ v.histories → w.olds ≡ v.olds → w.mark ≡ v.mark → w.clock ≡ max v.clock clock → w.draws ≡ v.draws → w.losing ≡ v.losing → w.owing ≡ v.owing → w.late ≡ v.late
    → (w.full ≡ true → greatest_stamp < get_or s.words 0 0) → (w.raising ≡ true → get_or s.words 0 0 ≤ greatest_stamp)
    → IsKept cluster (record { words = set s.words 0 (max (get_or s.words 0 0) clock); homes = s.homes; views = set s.views id w })
raised_keeps cluster s id clock v w k at le is kinds passes facts hs olds mark up draws losing owing late full raising =
    let n : ℕ = get_or s.words 0 0 in
    let l : ℕ = get_or s.words (size_of cluster + 1) 0 in
    let f : Fits cluster k.account (max n clock) l id v = fits_more cluster k.account n (max n clock) l l id v (omega arith) (omega arith) (k.each id v at) in
    let some_passes = is.passes in
    stamped cluster s id (max n clock) v w k at (omega arith)
    (record {
      kind = subst (KindFits cluster k.account id w) (sym kinds) (kind_like cluster k.account id v w v.kind hs owing f.kind);
      drawn = subst (λ fs. (x : Drawn) → Contains fs x → IsDrawn cluster k.account (max n clock) l x) (sym facts) f.drawn;
      histories = subst (λ z. (x : ℕ) → Continues (k.account.past x) (history z x)) (sym hs) f.histories;
      closed = subst (λ z. IsClosed cluster (view_with cluster w.drawn z)) (sym hs) (subst (λ z. IsClosed cluster (view_with cluster z v.histories)) (sym facts) f.closed);
      olds = λ o has. let c = f.olds o (subst (λ z. Contains z o) olds has) in record { drawn = λ x y. subst (λ z. Contains z x) (sym facts) (c.drawn x y); histories = subst (λ z. (x : ℕ) → Continues (history z x) (history o.histories x)) (sym hs) c.histories };
      mark = let m = f.mark in omega arith;
      clock = let m = f.clock in omega arith;
      raising = let o = one_if_le w.raising in omega arith;
      losing = let m = f.losing in let a : one_if w.losing ≡ one_if v.losing = ap one_if losing in let b : is_node w.kind ≡ is_node v.kind = ap is_node kinds in omega arith;
      late = λ x has. f.late x (subst (λ z. Contains z x) late has);
      full = λ is. let m = full is in omega arith;
    })
    (subst (λ fs. AllAgree fs fs) (sym facts) (k.agree id id v v at at))
    (λ j u e. subst (λ fs. AllAgree fs u.drawn) (sym facts) (k.agree id j v u at e))
    (raised_counts cluster s id clock v w k at le is.raising passes up draws losing kinds (λ yes. let m = raising yes in (omega (arith, m, le), omega (arith, passes, some_passes))))
    kinds

pub raises : (cluster : ClusterModel) (slots id clock : ℕ) (v : Known) (cs : List (ℕ × Unit)) → clock ≤ greatest_stamp → IsPass v
    → Allows (IsKept cluster) slots id (v, cs) 0 (λ n. max n clock) (Raises (step slots 0 clock 0 none) (v, cs))
raises cluster slots id clock v cs le is s k _ at _ =
    let n : ℕ = get_or s.words 0 0 in (
      raise clock n v,
      keeps,
      tt,
      by_left n (λ w. IsKept cluster (stepped s 0 (max n clock) id cs w keeps)) (filled (raised clock v)) (raised clock v)
          (λ above. raised_keeps cluster s id clock v (filled (raised clock v)) k at le is refl refl refl refl refl refl refl refl refl refl refl (λ _. above) (λ yes. absurd (true≢false (sym yes))))
          (λ below. raised_keeps cluster s id clock v (raised clock v) k at le is refl refl refl refl refl refl refl refl refl refl refl (k.each id v at).full (λ _. below)),
      refl,
    )

-- the number found grows by one, and the count of draws with it
took_counts : (n l c : ℕ) (vs : List Known) (id : ℕ) (v w : Known) → get_elem? vs id ≡ some v → v.raising ≡ true → w.raising ≡ false → w.passes ≡ v.passes → w.clock ≡ v.clock → w.draws ≡ v.draws + 1 → w.losing ≡ v.losing → w.kind ≡ v.kind
    → CountsFit n l c vs → CountsFit (n + 1) l c (set vs id w)
took_counts n l c vs id v w at was is passes clock draws losing kinds fit =
    let p = total_set (λ x. x.passes) vs id v w at in
    let a = total_set (λ x. one_if x.raising) vs id v w at in
    let r : one_if v.raising ≡ 1 = ap one_if was in
    let r' : one_if w.raising ≡ 0 = ap one_if is in
    let b = total_set (λ x. x.draws) vs id v w at in
    let d = total_set (λ x. one_if x.losing) vs id v w at in
    let d' : one_if w.losing ≡ one_if v.losing = ap one_if losing in
    let e = total_set (λ x. is_node x.kind) vs id v w at in
    let e' : is_node w.kind ≡ is_node v.kind = ap is_node kinds in
    let g = (greatest_set vs id v w at (omega arith)).0 in
    let q0 = fit.passes in
    let q1 = fit.pending in
    let q2 = fit.clock in
    let q3 = fit.lost in
    let q4 = fit.nodes in
    record { passes = omega arith; pending = omega arith; clock = omega arith; lost = omega arith; nodes = omega arith }

fact_agrees : (fs gs : List Drawn) (n : ℕ) (f : Drawn) → f.stamp ≡ n → ((g : Drawn) → Contains gs g → g.stamp < n) → AllAgree fs gs → AllAgree (f ∷ fs) gs
fact_agrees fs gs n f is drawn agree g h has has' same =
    ⊎_elim
    (λ (e : f ≡ g). let d = drawn h has' in let s : h.stamp ≡ n = sym same ∙ (ap (λ (x : Drawn). x.stamp) (sym e) ∙ is) in absurd (omega arith))
    (λ (c : Contains fs g). agree g h c has' same)
    (Contains-cases f fs g has)

own_agrees : (fs : List Drawn) (n : ℕ) (f : Drawn) → f.stamp ≡ n → ((g : Drawn) → Contains fs g → g.stamp < n) → AllAgree fs fs → AllAgree (f ∷ fs) (f ∷ fs)
own_agrees fs n f is drawn agree g h has has' same =
    ⊎_elim
    (λ (e : f ≡ h). ⊎_elim (λ (e' : f ≡ g). sym e' ∙ e) (λ (c : Contains fs g). sym (fact_agrees fs fs n f is drawn agree h g has' c (sym same))) (Contains-cases f fs g has))
    (λ (c : Contains fs h). fact_agrees fs fs n f is drawn agree g h has c same)
    (Contains-cases f fs h has')

drew_keeps : (cluster : ClusterModel) (s : Table) (id : ℕ) (name : NameModel) (object : Option ObjectModel) (v : Known) (k : IsKept cluster s) → get_elem? s.views id ≡ some v → v.raising ≡ true → MayDraw name object → get_or s.words 0 0 ≤ greatest_stamp
    → IsKept cluster (record { words = set s.words 0 (get_or s.words 0 0 + 1); homes = s.homes; views = set s.views id (drew (get_or s.words 0 0) name object v) })
drew_keeps cluster s id name object v k at was may bound =
    let n : ℕ = get_or s.words 0 0 in
    let l : ℕ = get_or s.words (size_of cluster + 1) 0 in
    let fact : Drawn = fact_of n name object v in
    let w : Known = drew n name object v in
    let f : Fits cluster k.account (n + 1) l id v = fits_more cluster k.account n (n + 1) l l id v (omega arith) (omega arith) (k.each id v at) in
    let below : (j : ℕ) (u : Known) → get_elem? s.views j ≡ some u → (g : Drawn) → Contains u.drawn g → g.stamp < n = λ j u e g has. ((k.each j u e).drawn g has).stamp in
    let guards : (device : ℕ) → IsGuarded cluster device n v.mark (due k.account (slot_of cluster device)) = λ device.
    let x : ℕ = slot_of cluster device in
    dite (dec_le (size_of cluster) x)
    (λ out. let b = k.beyond x out in subst (λ z. IsGuarded cluster device n v.mark (with_owed z (k.account.past x))) (sym b.1) (subst (λ z. IsGuarded cluster device n v.mark (with_owed None z)) (sym b.0) tt))
    (λ inside. (k.device x (lt_of_not-le inside)).fresh device n v.mark refl (omega arith)) in
    let new : IsDrawn cluster k.account (n + 1) l fact = record { stamp = omega arith; bound = bound; may = may; mark = f.mark; guarded = guards } in
    stamped cluster s id (n + 1) v w k at (omega arith)
    (record {
      kind = kind_like cluster k.account id v w v.kind refl refl f.kind;
      drawn = λ x has. ⊎_elim (λ (e : fact ≡ x). subst (IsDrawn cluster k.account (n + 1) l) e new) (λ (c : Contains v.drawn x). f.drawn x c) (Contains-cases fact v.drawn x has);
      histories = f.histories;
      closed = closed_after cluster (view_of cluster v) (view_of cluster w) (grows_with cluster v.drawn w.drawn v.histories v.histories (λ y c. Contains-later fact v.drawn y c) (λ y. continues_itself (history v.histories y)))
          (λ device event has. inl has) f.closed.replayed f.closed;
      olds = λ o has. let c = f.olds o has in record { drawn = λ x y. Contains-later fact v.drawn x (c.drawn x y); histories = c.histories };
      mark = f.mark;
      clock = f.clock;
      raising = omega arith;
      losing = f.losing;
      late = f.late;
      full = f.full;
    })
    (own_agrees v.drawn n fact refl (below id v at) (k.agree id id v v at at))
    (λ j u e. fact_agrees v.drawn u.drawn n fact refl (below j u e) (k.agree id j v u at e))
    (took_counts n l _ s.views id v w at was refl refl refl refl refl refl k.counts)
    refl

filled_keeps : (cluster : ClusterModel) (s : Table) (id : ℕ) (v : Known) (k : IsKept cluster s) → get_elem? s.views id ≡ some v → v.raising ≡ true → greatest_stamp < get_or s.words 0 0
    → IsKept cluster (record { words = set s.words 0 (get_or s.words 0 0 + 1); homes = s.homes; views = set s.views id (filled (counted v)) })
filled_keeps cluster s id v k at was above =
    let n : ℕ = get_or s.words 0 0 in
    let l : ℕ = get_or s.words (size_of cluster + 1) 0 in
    let w : Known = filled (counted v) in
    let f : Fits cluster k.account (n + 1) l id v = fits_more cluster k.account n (n + 1) l l id v (omega arith) (omega arith) (k.each id v at) in
    stamped cluster s id (n + 1) v w k at (omega arith)
    (record {
      kind = kind_like cluster k.account id v w v.kind refl refl f.kind;
      drawn = f.drawn;
      histories = f.histories;
      closed = f.closed;
      olds = λ o has. let c = f.olds o has in record { drawn = c.drawn; histories = c.histories };
      mark = f.mark;
      clock = f.clock;
      raising = omega arith;
      losing = f.losing;
      late = f.late;
      full = λ is. omega arith;
    })
    (k.agree id id v v at at)
    (λ j u e. k.agree id j v u at e)
    (took_counts n l _ s.views id v w at was refl refl refl refl refl refl k.counts)
    refl

pub whole_step : (n : ℕ) → n + 1 < 2 ^ 64 → (P : ℕ → Type 0) → P (n + 1) → P ((n + 1) % 2 ^ 64)
whole_step n l P p = subst P (sym (mod-eq_of_lt l)) p

pub takes : (cluster : ClusterModel) (slots id : ℕ) (name : NameModel) (object : Option ObjectModel) (v : Known) (cs : List (ℕ × Unit)) → MayDraw name object → v.raising ≡ true
    → Allows (IsKept cluster) slots id (v, cs) 0 (λ n. (n + 1) % 2 ^ 64) (Takes name object (step slots 0 1 0 none) (v, cs))
takes cluster slots id name object v cs may was s k _ at _ =
    let n : ℕ = get_or s.words 0 0 in
    let f = k.each id v at in
    let p = k.counts.pending in
    let small : n + 1 < 2 ^ 64 = omega arith in (
      take name object n v,
      keeps,
      tt,
      by_left n (λ w. IsKept cluster (stepped s 0 ((n + 1) % 2 ^ 64) id cs w keeps)) (filled (counted v)) (drew n name object v)
          (λ above. whole_step n small (λ x. IsKept cluster (record { words = set s.words 0 x; homes = s.homes; views = set s.views id (filled (counted v)) })) (filled_keeps cluster s id v k at was above))
          (λ below. whole_step n small (λ x. IsKept cluster (record { words = set s.words 0 x; homes = s.homes; views = set s.views id (drew n name object v) })) (drew_keeps cluster s id name object v k at was may below)),
      (refl, record { clock = f.clock; above = λ fact has. (f.drawn fact has).stamp }),
    )
