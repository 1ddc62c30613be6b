-- A path is that of one name, or of none.
use Rattle.std.proofs.Common.{◌≡◌, ◌≤◌, ◌<◌, ℕ, ◌==◌, ◌&&◌, ◌||◌, ◌⊎◌, Bool, true, false, not, nat_lt, List, [], ◌∷◌, ◌++◌, length, length-append, append_assoc, Option, Some, None, refl, sym, ap, ap₂, subst, ◌∙◌, inl, inr, arith, eq-eqb, eqb-true}
use Rattle.std.proofs.lemmas.Bool.{cases_Bool, ltb-false, or_parts}
use Rattle.std.proofs.Math.Bool.{or-true}
use Rattle.std.specs.List.{list_any}
use Rattle.std.specs.Str.{is_utf8}
use Rattle.sw_words.proofs.Rules.{kept, neither}
use Rattle.sw_types.specs.Name.{NameModel, part_fault, name_fault, path_of, most_bytes, may_hold_slash}
use Rattle.sw_types.specs.declared.name.Part.{Part}
use Rattle.sw_types.specs.declared.name.Part.TheVariants.{Account, Container, Object}
use Rattle.sw_types.specs.declared.name.NameFault.TheVariants.{Empty, TooLong, NotUtf8, Nul, Slash}
use Rattle.sw_archive.specs.Parts.{IsPath}

abbrev has_slash : List ℕ → Bool
has_slash text = list_any (λ byte. byte == 47) text

-- ---- the parts of a name

-- what a part without a fault is like
record IsPart (part : Part) (text : List ℕ) : Type 0 where
  bound : length text ≤ most_bytes part
  plain : may_hold_slash part ≡ false → has_slash text ≡ false

no_slash : (may slash : Bool) → (not may && slash) ≡ false → may ≡ false → slash ≡ false
no_slash true slash e may = absurd (cc)
no_slash false slash e may = e

part_is : (part : Part) (text : List ℕ) → part_fault part text ≡ None → IsPart part text
part_is part text e =
    let some = kept (length text == 0) (Empty part) _ e in
    let short = kept (nat_lt (most_bytes part) (length text)) (TooLong part (length text)) _ some.1 in
    let utf8 = kept (not (is_utf8 text)) (NotUtf8 part) _ short.1 in
    let nul = kept (list_any (λ byte. byte == 0) text) (Nul part) _ utf8.1 in
    let slash = kept (not (may_hold_slash part) && has_slash text) (Slash part) _ nul.1 in
    record { bound = ltb-false _ _ short.0; plain = no_slash (may_hold_slash part) (has_slash text) slash.0 }

record IsNamed (name : NameModel) : Type 0 where
  account : IsPart Account name.account
  container : IsPart Container name.container
  object : IsPart Object name.object

named : (name : NameModel) → name_fault name ≡ None → IsNamed name
named name e =
    let first = neither (part_fault Account name.account) _ e in
    let others = neither (part_fault Container name.container) _ first.1 in
    record {
      account = part_is Account name.account first.0;
      container = part_is Container name.container others.0;
      object = part_is Object name.object others.1;
    }

pub length-path : (name : NameModel) → name_fault name ≡ None → length (path_of name) < 2048
length-path name e = let n = named name e in simp length-append (omega (arith, n.account.bound, n.container.bound, n.object.bound))

-- ---- a text is cut at its first slash

cut_at_slash : (a b x y : List ℕ) → has_slash a ≡ false → has_slash b ≡ false → a ++ 47 ∷ x ≡ b ++ 47 ∷ y → (a ≡ b) × (x ≡ y)
cut_at_slash [] [] x y a_plain b_plain e = (refl, cc)
cut_at_slash [] (k ∷ u) x y a_plain b_plain e =
    let slash : k ≡ 47 = cc in absurd (cc (eq-eqb k 47 slash, (or_parts (k == 47) (has_slash u) b_plain).0))
cut_at_slash (h ∷ t) [] x y a_plain b_plain e =
    let slash : h ≡ 47 = cc in absurd (cc (eq-eqb h 47 slash, (or_parts (h == 47) (has_slash t) a_plain).0))
cut_at_slash (h ∷ t) (k ∷ u) x y a_plain b_plain e =
    let heads : h ≡ k = cc in
    let tails : t ++ 47 ∷ x ≡ u ++ 47 ∷ y = cc in
    let rest = cut_at_slash t u x y (or_parts (h == 47) (has_slash t) a_plain).1 (or_parts (k == 47) (has_slash u) b_plain).1 tails in
    let fronts : t ≡ u = rest.0 in
    (cc, rest.1)

-- a text with a slash is not one without
has_slash-middle : (a x : List ℕ) → has_slash (a ++ 47 ∷ x) ≡ true
has_slash-middle [] x = refl
has_slash-middle (h ∷ t) x = ap (λ rest. (h == 47) || rest) (has_slash-middle t x) ∙ or-true (h == 47)

-- ---- the parts of a path

regrouped : (name : NameModel) → path_of name ≡ 47 ∷ (name.account ++ 47 ∷ (name.container ++ 47 ∷ name.object))
regrouped name = simp append_assoc

abbrev name_of : List ℕ → List ℕ → List ℕ → NameModel
name_of account container object = record { account = account; container = container; object = object }

same_name : (a b : NameModel) → a.account ≡ b.account → a.container ≡ b.container → a.object ≡ b.object → a ≡ b
same_name a b account container object =
    let all : name_of a.account a.container a.object ≡ name_of b.account b.container b.object = cc in all

-- a path that was cut at its first slash
pub after_front : (path before rest : List ℕ) (name : NameModel) → path ≡ before ++ 47 ∷ rest → has_slash before ≡ false → IsPath path name
    → (before ≡ []) × (rest ≡ name.account ++ 47 ∷ (name.container ++ 47 ∷ name.object))
after_front path before rest name e plain is = cut_at_slash before [] _ _ plain refl (sym e ∙ is.spelled ∙ regrouped name)

-- and what stands behind it at the next
after_account : (rest account tail : List ℕ) (name : NameModel) → name_fault name ≡ None → rest ≡ account ++ 47 ∷ tail → has_slash account ≡ false
    → rest ≡ name.account ++ 47 ∷ (name.container ++ 47 ∷ name.object) → (account ≡ name.account) × (tail ≡ name.container ++ 47 ∷ name.object)
after_account rest account tail name rules e plain is = cut_at_slash account name.account _ _ plain ((named name rules).account.plain refl) (sym e ∙ is)

after_container : (tail container object : List ℕ) (name : NameModel) → name_fault name ≡ None → tail ≡ container ++ 47 ∷ object → has_slash container ≡ false
    → tail ≡ name.container ++ 47 ∷ name.object → (container ≡ name.container) × (object ≡ name.object)
after_container tail container object name rules e plain is = cut_at_slash container name.container _ _ plain ((named name rules).container.plain refl) (sym e ∙ is)

-- a path that has three slashes is that of no other name
pub parts_only : (path before rest account tail container object : List ℕ) (name : NameModel)
    → path ≡ before ++ 47 ∷ rest → has_slash before ≡ false → rest ≡ account ++ 47 ∷ tail → has_slash account ≡ false → tail ≡ container ++ 47 ∷ object → has_slash container ≡ false
    → IsPath path name → name ≡ name_of account container object
parts_only path before rest account tail container object name e0 p0 e1 p1 e2 p2 is =
    let a = after_front path before rest name e0 p0 is in
    let b = after_account rest account tail name is.rules e1 p1 a.1 in
    let c = after_container tail container object name is.rules e2 p2 b.1 in
    same_name name (name_of account container object) (sym b.0) (sym c.0) (sym c.1)

-- one that has two is that of none
pub parts_none : (path before rest account tail : List ℕ) (name : NameModel)
    → path ≡ before ++ 47 ∷ rest → has_slash before ≡ false → rest ≡ account ++ 47 ∷ tail → has_slash account ≡ false → has_slash tail ≡ false
    → IsPath path name → ⊥
parts_none path before rest account tail name e0 p0 e1 p1 none is =
    let a = after_front path before rest name e0 p0 is in
    let b = after_account rest account tail name is.rules e1 p1 a.1 in
    let slash : has_slash tail ≡ true = rw b.1 (has_slash-middle name.container name.object) in
    absurd (cc)

-- names that have one path are equal
pub one_name : (a b : NameModel) → name_fault a ≡ None → name_fault b ≡ None → path_of a ≡ path_of b → a ≡ b
one_name a b a_rules b_rules e =
    parts_only (path_of a) [] _ b.account _ b.container b.object a (e ∙ regrouped b) refl refl ((named b b_rules).account.plain refl) refl ((named b b_rules).container.plain refl)
    (record { rules = a_rules; spelled = refl })

-- ---- whether a path is a name's

pub none_or_some : {A : Type 0} (o : Option A) → (o ≡ None) ⊎ ((x : A) × (o ≡ Some x))
none_or_some None = inl refl
none_or_some (Some x) = inr (x, refl)

-- what stands before the first slash, and what behind it
record Cut (text : List ℕ) : Type 0 where
  before : List ℕ
  rest : List ℕ
  split : text ≡ before ++ 47 ∷ rest
  plain : has_slash before ≡ false

cut_text : (text : List ℕ) → Cut text ⊎ (has_slash text ≡ false)
cut_text [] = inr refl
cut_text (byte ∷ text) = elim (cases_Bool (byte == 47)) [
  | inl here ↦ inl (record { before = []; rest = text; split = ap (λ b. b ∷ text) (eqb-true byte 47 here); plain = refl })
  | inr other ↦ elim (cut_text text) [
    | inl later ↦ inl (record { before = byte ∷ later.before; rest = later.rest; split = ap (λ t. byte ∷ t) later.split; plain = ap₂ (λ a b. a || b) other later.plain })
    | inr none ↦ inr (ap₂ (λ a b. a || b) other none)
  ]
]

abbrev IsPathOrNone : List ℕ → Type 0
IsPathOrNone path = ((name : NameModel) × IsPath path name) ⊎ ((name : NameModel) → IsPath path name → ⊥)

-- of three parts behind a slash
behind_slash : (path before rest account tail container object : List ℕ)
    → path ≡ before ++ 47 ∷ rest → has_slash before ≡ false → rest ≡ account ++ 47 ∷ tail → has_slash account ≡ false → tail ≡ container ++ 47 ∷ object → has_slash container ≡ false
    → IsPathOrNone path
behind_slash path (b ∷ bs) rest account tail container object e0 p0 e1 p1 e2 p2 =
    inr (λ name is. let none : b ∷ bs ≡ [] = (after_front path (b ∷ bs) rest name e0 p0 is).0 in absurd (cc))
behind_slash path [] rest account tail container object e0 p0 e1 p1 e2 p2 =
    let candidate = name_of account container object in
    elim (none_or_some (name_fault candidate)) [
      | inl rules ↦ inl (candidate, record { rules = rules; spelled = e0 ∙ ap (λ t. 47 ∷ t) (e1 ∙ ap (λ t. account ++ 47 ∷ t) e2) ∙ sym (regrouped candidate) })
      | inr broken ↦ inr (λ name is.
          let same : name ≡ candidate = parts_only path [] rest account tail container object name e0 p0 e1 p1 e2 p2 is in
          let rules : name_fault candidate ≡ None = subst (λ (n : NameModel). name_fault n ≡ None) same is.rules in
          absurd (cc (rules, broken.1)))
    ]

-- behind the first slash
behind_front : (path : List ℕ) (front : Cut path) → IsPathOrNone path
behind_front path front = elim (cut_text front.rest) [
  | inr none ↦ inr (λ name is.
      let after = (after_front path front.before front.rest name front.split front.plain is).1 in
      let slash : has_slash front.rest ≡ true = ap has_slash after ∙ has_slash-middle name.account (name.container ++ 47 ∷ name.object) in
      absurd (cc (slash, none)))
  | inl account ↦ elim (cut_text account.rest) [
    | inr none ↦ inr (λ name is. parts_none path front.before front.rest account.before account.rest name front.split front.plain account.split account.plain none is)
    | inl container ↦
        behind_slash path front.before front.rest account.before account.rest container.before container.rest front.split front.plain account.split account.plain container.split container.plain
  ]
]

pub path_or_none : (path : List ℕ) → ((name : NameModel) × IsPath path name) ⊎ ((name : NameModel) → IsPath path name → ⊥)
path_or_none path = elim (cut_text path) [
  | inl front ↦ behind_front path front
  | inr none ↦ inr (λ name is. let slash : has_slash path ≡ true = ap has_slash (is.spelled ∙ regrouped name) in absurd (cc (slash, none)))
]
