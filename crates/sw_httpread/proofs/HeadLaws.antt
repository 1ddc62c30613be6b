-- However bytes are cut into pieces, one head comes of them.
use Rattle.std.proofs.Common.{◌≡◌, ℕ, List, [], ◌++◌, Option, refl, sym, ap, ◌∙◌, subst, arith}
use Rattle.httparse.specs.Grammar.{ReadsRequest}
use Rattle.httparse.proofs.GrammarLemmas.{request_unique}
use Rattle.sw_httpread.specs.Lines.{IsWholeHead}
use Rattle.sw_httpread.specs.Ends.{IsUnended}
use Rattle.sw_httpread.specs.Request.{RequestHeadModel}
use Rattle.sw_httpread.specs.Heads.{IsHeadNext, IsDefinite, IsAnswer, IsHeadOf, parts_of}
use Rattle.sw_httpread.specs.declared.head.HeadNext.{HeadNext}
use Rattle.sw_httpread.specs.declared.head.HeadNext.TheVariants.{Head, End, Cut, BadHead, HeadTooLarge, ReadFault, NoMemory}
use Rattle.sw_httpread.proofs.Ends.{ends_more, nowhere_more, ends_same}
use Rattle.sw_httpread.proofs.Heads.{one_whole}

pub head_more : (had more unused : List ℕ) (left left' : Option (List ℕ)) (next : HeadNext) → IsDefinite next → IsHeadNext had left next unused → IsHeadNext (had ++ more) left' next (unused ++ more)
head_more had more unused left left' (Head head) d n = (n.0, ends_more IsWholeHead had n.0 unused more n.1, n.2)
head_more had more unused left left' BadHead d n = (ap (λ (t : List ℕ). t ++ more) n.0, n.1, n.2 ++ more, ends_more IsWholeHead had n.1 n.2 more n.3, n.4)
head_more had more unused left left' HeadTooLarge d n = (ap (λ (t : List ℕ). t ++ more) n.0, nowhere_more IsWholeHead had more n.1)
head_more had more unused left left' End d n = absurd d
head_more had more unused left left' Cut d n = absurd d
head_more had more unused left left' ReadFault d n = absurd d
head_more had more unused left left' NoMemory d n = absurd d

pub head_open : (had unused : List ℕ) (left : Option (List ℕ)) (next : HeadNext) → IsUnended IsWholeHead had → IsDefinite next → IsHeadNext had left next unused → ⊥
head_open had unused left (Head head) u d n = u.1 n.0 unused n.1
head_open had unused left BadHead u d n = u.1 n.1 n.2 n.3
head_open had unused left HeadTooLarge u d n = absurd (omega (arith, u.0, n.1.0))
head_open had unused left End u d n = absurd d
head_open had unused left Cut u d n = absurd d
head_open had unused left ReadFault u d n = absurd d
head_open had unused left NoMemory u d n = absurd d

same_head : (a b : List ℕ) (h k : RequestHeadModel) → a ≡ b → IsHeadOf a h → IsHeadOf b k → h ≡ k
same_head a b h k e p q =
    let r = request_unique b p.0 q.0 [] [] (subst (λ (t : List ℕ). ReadsRequest t p.0 []) e p.1) q.1 in
    p.2 ∙ ap parts_of r.0 ∙ sym q.2

pub head_one : (all x y : List ℕ) (left left' : Option (List ℕ)) (next other : HeadNext) → IsAnswer next → IsAnswer other → IsHeadNext all left next x → IsHeadNext all left' other y → (next ≡ other) × (x ≡ y)
head_one all x y left left' (Head h) (Head k) p q n m =
    let s = ends_same IsWholeHead one_whole all n.0 m.0 x y n.1 m.1 in
    (ap (λ (t : RequestHeadModel). Head t) (same_head n.0 m.0 h k s.0 n.2 m.2), s.1)
head_one all x y left left' (Head h) BadHead p q n m =
    let s = ends_same IsWholeHead one_whole all n.0 m.1 x m.2 n.1 m.3 in
    absurd (m.4 n.2.0 (subst (λ (t : List ℕ). ReadsRequest t n.2.0 []) s.0 n.2.1))
head_one all x y left left' (Head h) HeadTooLarge p q n m = absurd (m.1.1 n.0 x n.1)
head_one all x y left left' (Head h) End p q n m = absurd (m.2.1 n.0 x n.1)
head_one all x y left left' (Head h) Cut p q n m = absurd (m.2.1 n.0 x n.1)
head_one all x y left left' BadHead (Head k) p q n m =
    let s = ends_same IsWholeHead one_whole all m.0 n.1 y n.2 m.1 n.3 in
    absurd (n.4 m.2.0 (subst (λ (t : List ℕ). ReadsRequest t m.2.0 []) s.0 m.2.1))
head_one all x y left left' BadHead BadHead p q n m = (refl, n.0 ∙ sym m.0)
head_one all x y left left' BadHead HeadTooLarge p q n m = absurd (m.1.1 n.1 n.2 n.3)
head_one all x y left left' BadHead End p q n m = absurd (m.2.1 n.1 n.2 n.3)
head_one all x y left left' BadHead Cut p q n m = absurd (m.2.1 n.1 n.2 n.3)
head_one all x y left left' HeadTooLarge (Head k) p q n m = absurd (n.1.1 m.0 y m.1)
head_one all x y left left' HeadTooLarge BadHead p q n m = absurd (n.1.1 m.1 m.2 m.3)
head_one all x y left left' HeadTooLarge HeadTooLarge p q n m = (refl, n.0 ∙ sym m.0)
head_one all x y left left' HeadTooLarge End p q n m = absurd (omega (arith, n.1.0, m.2.0))
head_one all x y left left' HeadTooLarge Cut p q n m = absurd (omega (arith, n.1.0, m.2.0))
head_one all x y left left' End (Head k) p q n m = absurd (n.2.1 m.0 y m.1)
head_one all x y left left' End BadHead p q n m = absurd (n.2.1 m.1 m.2 m.3)
head_one all x y left left' End HeadTooLarge p q n m = absurd (omega (arith, n.2.0, m.1.0))
head_one all x y left left' End End p q n m = (refl, n.0 ∙ sym m.0)
head_one all x y left left' End Cut p q n m = absurd (m.3 n.3)
head_one all x y left left' Cut (Head k) p q n m = absurd (n.2.1 m.0 y m.1)
head_one all x y left left' Cut BadHead p q n m = absurd (n.2.1 m.1 m.2 m.3)
head_one all x y left left' Cut HeadTooLarge p q n m = absurd (omega (arith, n.2.0, m.1.0))
head_one all x y left left' Cut End p q n m = absurd (n.3 m.3)
head_one all x y left left' Cut Cut p q n m = (refl, n.0 ∙ sym m.0)
head_one all x y left left' ReadFault other p q n m = absurd p
head_one all x y left left' NoMemory other p q n m = absurd p
head_one all x y left left' (Head h) ReadFault p q n m = absurd q
head_one all x y left left' (Head h) NoMemory p q n m = absurd q
head_one all x y left left' BadHead ReadFault p q n m = absurd q
head_one all x y left left' BadHead NoMemory p q n m = absurd q
head_one all x y left left' HeadTooLarge ReadFault p q n m = absurd q
head_one all x y left left' HeadTooLarge NoMemory p q n m = absurd q
head_one all x y left left' End ReadFault p q n m = absurd q
head_one all x y left left' End NoMemory p q n m = absurd q
head_one all x y left left' Cut ReadFault p q n m = absurd q
head_one all x y left left' Cut NoMemory p q n m = absurd q
