-- No errand is handed out twice.
use Rattle.std.proofs.Common.{◌≡◌, ◌⊎◌, inl, inr, ℕ, ◌+◌, ◌≤◌, ◌==◌, Bool, true, false, cond, Contains, List, [], ◌∷◌, ◌++◌, map, Option, Some, None, refl, sym, ap, subst, ◌∙◌, arith}
use Rattle.std.specs.List.{All, AllPairs, count_by}
use Rattle.std.proofs.lemmas.Bool.{eq-eqb, eqb-true}
use Rattle.std.proofs.lemmas.List.Elements.{All-contains, All-contains_itself, All-cons, All-weaker}
use Rattle.std.proofs.lemmas.List.Sums.{sum_by-append, sum_by-cons}
use Rattle.std.proofs.lemmas.Option.{same_Some}
use Rattle.sw_message.specs.Message.{AreAlike}
use Rattle.sw_message.specs.Transcript.{Closed, Gave, IsRun, Step, given, open_at, opens}
use Rattle.sw_message.specs.declared.message.Msg.{Msg}
use Rattle.sw_message.specs.declared.message.Msg.TheVariants as message
use Rattle.sw_message.specs.declared.reply.Reply.{Reply}
use Rattle.sw_message.specs.declared.sent.Sent.{Sent}
use Rattle.sw_quorum.proofs.Places.{counted-among, one_if}
use Rattle.sw_quorum.proofs.Transcripts.{found, sums-keep}
use Rattle.sw_quorum.specs.Transcripts.{closed}
use Rattle.sw_gather.specs.Choices.{same_target}
use Rattle.sw_gather.proofs.Sources.{same_source, self_same}
use Rattle.sw_sync.specs.Sync.{Begun, IsNext, errand_of}
use Rattle.sw_sync.specs.declared.errand.Errand.{Errand}
use Rattle.sw_sync.specs.declared.errand.Errand.TheVariants.{Ask, Commit, Delete, Fetch, Store}
use Rattle.sw_sync.proofs.Asking.{IsQuestion}
use Rattle.sw_sync.proofs.Counting.{counted-map, none-passing, passes-once}
use Rattle.sw_sync.proofs.Errands.{IsAbout, IsFor, errand-for, one-errand}
use Rattle.sw_sync.proofs.Messages.{answered-closed, numbers, told-each, told-once}

-- ---- errands, and messages about them

abbrev pub same_errand : Errand → Errand → Bool
same_errand (Ask device) (Ask other) = other == device
same_errand (Delete device) (Delete other) = other == device
same_errand (Fetch source) (Fetch other) = same_target source other
same_errand (Store target) (Store other) = same_target target other
same_errand (Commit target) (Commit other) = same_target target other
same_errand one other = false

abbrev is_errand : Errand → Option Errand → Bool
is_errand errand None = false
is_errand errand (Some other) = same_errand errand other

abbrev pub is_about : Errand → Sent → Bool
is_about errand sent = is_errand errand (errand_of sent.device sent.msg)

pub one-same : (one other : Errand) → same_errand one other ≡ true → one ≡ other
one-same (Ask device) (Ask other) is = ap (λ n. Ask n) (sym (eqb-true other device is))
one-same (Delete device) (Delete other) is = ap (λ n. Delete n) (sym (eqb-true other device is))
one-same (Fetch source) (Fetch other) is = ap (λ t. Fetch t) (same_source source other is)
one-same (Store target) (Store other) is = ap (λ t. Store t) (same_source target other is)
one-same (Commit target) (Commit other) is = ap (λ t. Commit t) (same_source target other is)
one-same one other is = absurd (cc)

pub self-same : (errand : Errand) → same_errand errand errand ≡ true
self-same (Ask device) = eq-eqb device device refl
self-same (Delete device) = eq-eqb device device refl
self-same (Fetch source) = self_same source
self-same (Store target) = self_same target
self-same (Commit target) = self_same target

module _ (errand : Errand) (sent : Sent) where
  pub about-so : errand_of sent.device sent.msg ≡ Some errand → is_about errand sent ≡ true
  about-so is = ap (is_errand errand) is ∙ self-same errand

  pub so-about : is_about errand sent ≡ true → errand_of sent.device sent.msg ≡ Some errand
  so-about is = by_errand (errand_of sent.device sent.msg) is
    where
      by_errand : (found : Option Errand) → is_errand errand found ≡ true → found ≡ Some errand
      by_errand None is = absurd (cc)
      by_errand (Some other) is = ap (λ (one : Errand). Some one) (sym (one-same errand other is))

pub about-for : (begun : Begun) (stamp : ℕ) (errand : Errand) (sent : Sent) → IsFor begun stamp errand sent → errand_of sent.device sent.msg ≡ Some errand
about-for begun stamp errand sent (ticket, bytes, is) = ap (λ (one : Sent). errand_of one.device one.msg) is ∙ errand-for begun stamp ticket bytes errand

-- messages that are alike are about the same
pub alike-errands : (device : ℕ) (one other : Msg) → AreAlike one other → errand_of device one ≡ errand_of device other
alike-errands device (message.PutFrag place stamp index bytes) (message.PutFrag other at of more) alike = ap (λ n. Some (Store (record { index = n; device = device }))) alike.2
alike-errands device one other alike = ap (errand_of device) alike

-- errands made of things that are all different
pub each-once : {A : Type 0} (f : A → Errand) (R : A → A → Type 0) → ((a b : A) → R a b → f a ≡ f b → ⊥) → (xs : List A) → AllPairs R xs → (errand : Errand) → count_by (same_errand errand) (map f xs) ≤ 1
each-once f R never xs apart errand =
    omega (
      arith,
      counted-map f (same_errand errand) xs,
      passes-once (λ x. same_errand errand (f x)) R (λ a b are first second. never a b are (sym (one-same errand (f a) first) ∙ one-same errand (f b) second)) xs apart,
    )

-- one errand
pub one-once : (errand other : Errand) → count_by (same_errand errand) (other ∷ []) ≤ 1
one-once errand other = passes-once (same_errand errand) (λ a b. ⊥) (λ a b never first second. never) (other ∷ []) (λ i j d less within. absurd (omega (arith, less, within)))

-- ---- what is handed out once

-- each message is a question, or about something that is to be done, and what is to be done is handed out or due once
pub record Once (begun : Begun) (stamp : ℕ) (ToDo : Errand → Type 0) (past : List Step) (due : List Errand) : Type 0 where
  pub handed : All (λ sent. IsQuestion begun sent ⊎ IsAbout begun stamp ToDo sent) (given past)
  pub once : (errand : Errand) → ToDo errand → count_by (is_about errand) (given past) + count_by (same_errand errand) due ≤ 1

-- no answer to such a message came
abbrev pub IsUntold : List Step → Errand → Type 0
IsUntold past errand = (other : Sent) (answer : Option Reply) → Contains past (Closed other answer) → errand_of other.device other.msg ≡ Some errand → ⊥

-- a question is about nothing that is to be done
about-question : (begun : Begun) (P : Errand → Type 0) → ((device : ℕ) → P (Ask device) → ⊥) → (sent : Sent) (errand : Errand) → P errand → IsQuestion begun sent → errand_of sent.device sent.msg ≡ Some errand → ⊥
about-question begun P never sent errand is question about =
    never sent.device (subst P (sym (same_Some (Ask sent.device) errand (sym (ap (errand_of sent.device) question) ∙ about))) is)

-- as a stage begins
pub once-begun : (begun : Begun) (stamp : ℕ) (ToDo : Errand → Type 0) (past : List Step) (due : List Errand) → ((device : ℕ) → ToDo (Ask device) → ⊥) → All (IsQuestion begun) (given past)
    → ((errand : Errand) → count_by (same_errand errand) due ≤ 1) → Once begun stamp ToDo past due
once-begun begun stamp ToDo past due never questions apart = record {
  handed = All-weaker (IsQuestion begun) (λ sent. IsQuestion begun sent ⊎ IsAbout begun stamp ToDo sent) (λ sent is. inl is) (given past) questions;
  once = λ errand todo.
      omega (
        arith,
        apart errand,
        none-passing (is_about errand) (given past)
            (λ sent there about. about-question begun ToDo never sent errand todo (All-contains (IsQuestion begun) (given past) sent questions there) (so-about errand sent about)),
      );
}

module _ (begun : Begun) (stamp : ℕ) (ToDo After : Errand → Type 0) (past : List Step) (due : List Errand) (once : Once begun stamp ToDo past due) (keeps : (errand : Errand) → ToDo errand → After errand) where
  handed-after : All (λ sent. IsQuestion begun sent ⊎ IsAbout begun stamp After sent) (given past)
  handed-after = All-weaker (λ sent. IsQuestion begun sent ⊎ IsAbout begun stamp ToDo sent) (λ sent. IsQuestion begun sent ⊎ IsAbout begun stamp After sent) kept (given past) once.handed
    where
      kept : (sent : Sent) → IsQuestion begun sent ⊎ IsAbout begun stamp ToDo sent → IsQuestion begun sent ⊎ IsAbout begun stamp After sent
      kept sent (inl question) = inl question
      kept sent (inr (errand, todo, for)) = inr (errand, keeps errand todo, for)

  -- a message is handed out
  pub once-gave : (errand : Errand) (later : List Errand) (sent : Sent) → due ≡ errand ∷ later → IsFor begun stamp errand sent → ToDo errand → ((one : Errand) → After one → ToDo one) → Once begun stamp After (Gave sent ∷ past) later
  once-gave errand later sent first for todo back = record {
    handed = All-cons (λ sent. IsQuestion begun sent ⊎ IsAbout begun stamp After sent) sent (given past) (inr (errand, keeps errand todo, for)) handed-after;
    once = λ one is.
        let same : is_about one sent ≡ same_errand one errand = ap (is_errand one) (about-for begun stamp errand sent for) in
        omega (
          arith,
          once.once one (back one is),
          ap (count_by (same_errand one)) first,
          ap one_if same,
          sum_by-cons (λ (other : Sent). cond (is_about one other) 1 0) sent (given past),
          sum_by-cons (λ (other : Errand). cond (same_errand one other) 1 0) errand later,
        );
  }

  -- an answer is heard, and more is due that was not to be done before
  pub once-told : (sent : Sent) (answer : Option Reply) (more : List Errand) → All ToDo due → ((device : ℕ) → After (Ask device) → ⊥) → All (λ errand. ToDo errand → ⊥) more
      → ((errand : Errand) → count_by (same_errand errand) more ≤ 1) → ((one : Errand) → After one → ToDo one ⊎ Contains more one) → Once begun stamp After (Closed sent answer ∷ past) (due ++ more)
  once-told sent answer more sought never new apart back = record { handed = handed-after; once = λ one is. by_new one is (back one is) }
    where
      by_new : (one : Errand) → After one → ToDo one ⊎ Contains more one → count_by (is_about one) (given past) + count_by (same_errand one) (due ++ more) ≤ 1
      by_new one is (inl todo) =
          omega (
            arith,
            once.once one todo,
            sum_by-append (λ (other : Errand). cond (same_errand one other) 1 0) due more,
            none-passing (same_errand one) more (λ other there same. All-contains (λ errand. ToDo errand → ⊥) more other new there (subst ToDo (one-same one other same) todo)),
          )
      by_new one is (inr there) =
          let not_yet = All-contains (λ errand. ToDo errand → ⊥) more one new there in
          omega (
            arith,
            apart one,
            sum_by-append (λ (other : Errand). cond (same_errand one other) 1 0) due more,
            none-passing (same_errand one) due (λ other among same. not_yet (subst ToDo (sym (one-same one other same)) (All-contains ToDo due other sought among))),
            none-passing (is_about one) (given past)
                (λ other among about. was-not other (so-about one other about) not_yet (All-contains (λ sent. IsQuestion begun sent ⊎ IsAbout begun stamp ToDo sent) (given past) other once.handed among)),
          )
        where
          was-not : (other : Sent) → errand_of other.device other.msg ≡ Some one → (ToDo one → ⊥) → IsQuestion begun other ⊎ IsAbout begun stamp ToDo other → ⊥
          was-not other about not_yet (inl question) = about-question begun After never other one is question about
          was-not other about not_yet (inr (errand, todo, for)) = not_yet (subst ToDo (sym (one-errand begun stamp errand one other for about)) todo)

-- ---- what follows

module _ (begun : Begun) (stamp : ℕ) (ToDo : Errand → Type 0) (past : List Step) (due : List Errand) (once : Once begun stamp ToDo past due) where
  -- what is handed out next was not handed out
  pub not-given : (errand : Errand) (later : List Errand) → due ≡ errand ∷ later → ToDo errand → (other : Sent) → Contains (given past) other → errand_of other.device other.msg ≡ Some errand → ⊥
  not-given errand later first todo other there about =
      absurd (omega (
        arith,
        once.once errand todo,
        ap (count_by (same_errand errand)) first,
        ap one_if (self-same errand),
        sum_by-cons (λ (one : Errand). cond (same_errand errand one) 1 0) errand later,
        counted-among (is_about errand) (given past) other (about-so errand other about) there,
      ))

  module _ (run : IsRun (IsNext begun) past) where
    kept-counts : (errand : Errand) → count_by (is_about errand) (closed past) + count_by (is_about errand) (opens past) ≡ count_by (is_about errand) (given past)
    kept-counts errand = sums-keep (IsNext begun) (numbers begun) (λ (one : Sent). cond (is_about errand one) 1 0) past run

    -- what is open was not answered
    pub not-told : (sent : Sent) (errand : Errand) → open_at sent.ticket past ≡ Some sent → errand_of sent.device sent.msg ≡ Some errand → ToDo errand → IsUntold past errand
    not-told sent errand is_open about todo other answer there other_about =
        let opened = (found (Contains (opens past)) sent.ticket (opens past) sent is_open (All-contains_itself (opens past))).0 in
        absurd (omega (
          arith,
          once.once errand todo,
          kept-counts errand,
          counted-among (is_about errand) (opens past) sent (about-so errand sent about) opened,
          counted-among (is_about errand) (closed past) other (about-so errand other other_about) (answered-closed past other answer there),
        ))

    -- what was answered has one answer
    pub told-same : (errand : Errand) → ToDo errand → (a b : Sent) (x y : Option Reply) → errand_of a.device a.msg ≡ Some errand → errand_of b.device b.msg ≡ Some errand → Contains past (Closed a x) → Contains past (Closed b y)
        → x ≡ y
    told-same errand todo a b x y first second told other =
        told-once (is_about errand) past (omega (arith, once.once errand todo, kept-counts errand)) a b x y (about-so errand a first) (about-so errand b second) told other

    -- and is about something that is to be done, or a question
    pub told-about : (sent : Sent) (answer : Option Reply) → Contains past (Closed sent answer) → IsQuestion begun sent ⊎ IsAbout begun stamp ToDo sent
    told-about sent answer there = told-each begun (λ sent. IsQuestion begun sent ⊎ IsAbout begun stamp ToDo sent) past sent answer run once.handed there
