-- What is to be done in a stage is due, or was handed out.
use Rattle.std.proofs.Common.{◌≡◌, ◌⊎◌, inl, inr, ℕ, Contains, List, [], ◌∷◌, ◌++◌, Option, Some, refl, sym, ap, subst, ◌∙◌}
use Rattle.std.specs.List.{All}
use Rattle.std.proofs.lemmas.List.Elements.{All-append, All-cons, All-filter, All-head, All-nil, All-tail, All-weaker, Contains-append_left, Contains-append_right}
use Rattle.std.proofs.lemmas.Option.{same_Some}
use Rattle.sw_ring.proofs.Among.{Contains-cons}
use Rattle.sw_message.specs.Transcript.{Closed, Gave, IsRun, Step, given, is_not, open_at, opens}
use Rattle.sw_message.specs.declared.message.Msg.{Msg}
use Rattle.sw_message.specs.declared.message.Msg.TheVariants as message
use Rattle.sw_message.specs.declared.reply.Reply.{Reply}
use Rattle.sw_message.specs.declared.sent.Sent.{Sent}
use Rattle.sw_quorum.proofs.Transcripts.{found}
use Rattle.sw_gather.proofs.Lists.{first_or_later, here, none_in}
use Rattle.sw_sync.specs.Sync.{Begun, IsNext, errand_of}
use Rattle.sw_sync.specs.declared.errand.Errand.{Errand}
use Rattle.sw_sync.specs.declared.errand.Errand.TheVariants.{Ask, Commit, Delete, Fetch, Store}
use Rattle.sw_sync.proofs.Messages.{IsAnswered, all-told}

-- ---- the message of an errand at a stamp, which has these bytes where it has some

abbrev pub sent_for : Begun → (stamp ticket : ℕ) → List ℕ → Errand → Sent
sent_for begun stamp ticket bytes (Ask device) = record { ticket = ticket; device = device; msg = message.Ask begun.place }
sent_for begun stamp ticket bytes (Delete device) = record { ticket = ticket; device = device; msg = message.Delete begun.place stamp }
sent_for begun stamp ticket bytes (Fetch source) = record { ticket = ticket; device = source.device; msg = message.Fetch begun.place stamp source.index }
sent_for begun stamp ticket bytes (Store target) = record { ticket = ticket; device = target.device; msg = message.PutFrag begun.place stamp target.index bytes }
sent_for begun stamp ticket bytes (Commit target) = record { ticket = ticket; device = target.device; msg = message.Commit begun.place stamp target.index }

abbrev pub IsFor : Begun → (stamp : ℕ) → Errand → Sent → Type 0
IsFor begun stamp errand sent = (ticket : ℕ) × (bytes : List ℕ) × (sent ≡ sent_for begun stamp ticket bytes errand)

pub errand-for : (begun : Begun) (stamp ticket : ℕ) (bytes : List ℕ) (errand : Errand) → errand_of (sent_for begun stamp ticket bytes errand).device (sent_for begun stamp ticket bytes errand).msg ≡ Some errand
errand-for begun stamp ticket bytes (Ask device) = refl
errand-for begun stamp ticket bytes (Delete device) = refl
errand-for begun stamp ticket bytes (Fetch source) = refl
errand-for begun stamp ticket bytes (Store target) = refl
errand-for begun stamp ticket bytes (Commit target) = refl

-- a message is for one errand
pub one-errand : (begun : Begun) (stamp : ℕ) (errand other : Errand) (sent : Sent) → IsFor begun stamp errand sent → errand_of sent.device sent.msg ≡ Some other → other ≡ errand
one-errand begun stamp errand other sent (ticket, bytes, is) about =
    same_Some other errand (sym about ∙ ap (λ (one : Sent). errand_of one.device one.msg) is ∙ errand-for begun stamp ticket bytes errand)

pub sent-is : (sent : Sent) (device : ℕ) (msg : Msg) → sent.device ≡ device → sent.msg ≡ msg → sent ≡ record { ticket = sent.ticket; device = device; msg = msg }
sent-is sent device msg of is = ap (λ n. record { ticket = sent.ticket; device = n; msg = sent.msg }) of ∙ ap (λ (one : Msg). record { ticket = sent.ticket; device = device; msg = one }) is

-- ---- what is to be done

abbrev pub WasSent : Begun → (stamp : ℕ) → List Step → Errand → Type 0
WasSent begun stamp past errand = (sent : Sent) × Contains (given past) sent × IsFor begun stamp errand sent

abbrev pub IsAbout : Begun → (stamp : ℕ) → (Errand → Type 0) → Sent → Type 0
IsAbout begun stamp ToDo sent = (errand : Errand) × ToDo errand × IsFor begun stamp errand sent

-- what is due is to be done, and so was what is open; and what is to be done is due, or was handed out
pub record Does (begun : Begun) (stamp : ℕ) (ToDo : Errand → Type 0) (past : List Step) (due : List Errand) : Type 0 where
  pub sought : All ToDo due
  pub opened : All (IsAbout begun stamp ToDo) (opens past)
  pub covered : (errand : Errand) → ToDo errand → Contains due errand ⊎ WasSent begun stamp past errand

-- as a stage begins
pub does-begun : (begun : Begun) (stamp : ℕ) (ToDo : Errand → Type 0) (past : List Step) (due : List Errand) → opens past ≡ [] → All ToDo due → ((errand : Errand) → ToDo errand → Contains due errand)
    → Does begun stamp ToDo past due
does-begun begun stamp ToDo past due none sought all = record {
  sought = sought;
  opened = subst (All (IsAbout begun stamp ToDo)) (sym none) (All-nil (IsAbout begun stamp ToDo));
  covered = λ errand is. inl (all errand is);
}

module _ (begun : Begun) (stamp : ℕ) (ToDo After : Errand → Type 0) (past : List Step) (due : List Errand) (does : Does begun stamp ToDo past due) (keeps : (errand : Errand) → ToDo errand → After errand) where
  about-after : (sent : Sent) → IsAbout begun stamp ToDo sent → IsAbout begun stamp After sent
  about-after sent (errand, is, for) = (errand, keeps errand is, for)

  -- a message is handed out
  pub does-gave : (errand : Errand) (later : List Errand) (sent : Sent) → due ≡ errand ∷ later → IsFor begun stamp errand sent → ((one : Errand) → After one → ToDo one) → Does begun stamp After (Gave sent ∷ past) later
  does-gave errand later sent first for back =
      let sought = subst (All ToDo) first does.sought in
      record {
        sought = All-weaker ToDo After keeps later (All-tail ToDo errand later sought);
        opened = All-cons (IsAbout begun stamp After) sent (opens past) (errand, keeps errand (All-head ToDo errand later sought), for)
            (All-weaker (IsAbout begun stamp ToDo) (IsAbout begun stamp After) about-after (opens past) does.opened);
        covered = λ one is. by_due one (does.covered one (back one is));
      }
    where
      by_due : (one : Errand) → Contains due one ⊎ WasSent begun stamp past one → Contains later one ⊎ WasSent begun stamp (Gave sent ∷ past) one
      by_due one (inr was) = inr (was.0, Contains-cons was.0 sent (given past) was.1, was.2)
      by_due one (inl there) = elim (first_or_later errand later one (subst (λ these. Contains these one) first there)) [
        | inl same ↦ inr (sent, here sent (given past), subst (λ (other : Errand). IsFor begun stamp other sent) same for)
        | inr rest ↦ inl rest
      ]

  -- an answer is heard, and more is due
  pub does-told : (sent : Sent) (answer : Option Reply) (more : List Errand) → All After more → ((one : Errand) → After one → ToDo one ⊎ Contains more one) → Does begun stamp After (Closed sent answer ∷ past) (due ++ more)
  does-told sent answer more sought back = record {
    sought = All-append After due more (All-weaker ToDo After keeps due does.sought) sought;
    opened = All-filter (is_not sent.ticket) (IsAbout begun stamp After) (opens past) (All-weaker (IsAbout begun stamp ToDo) (IsAbout begun stamp After) about-after (opens past) does.opened);
    covered = λ one is. elim (back one is) [
      | inr new ↦ inl (Contains-append_right due more one new)
      | inl before ↦ elim (does.covered one before) [ inl there ↦ inl (Contains-append_left due more one there) | inr was ↦ inr was ]
    ];
  }

-- the open message that is answered is about something that is to be done
pub does-open : (begun : Begun) (stamp : ℕ) (ToDo : Errand → Type 0) (past : List Step) (due : List Errand) (sent : Sent) (errand : Errand) → Does begun stamp ToDo past due → open_at sent.ticket past ≡ Some sent
    → errand_of sent.device sent.msg ≡ Some errand → ToDo errand × IsFor begun stamp errand sent
does-open begun stamp ToDo past due sent errand does is about =
    let own = (found (IsAbout begun stamp ToDo) sent.ticket (opens past) sent is does.opened).0 in
    let same = one-errand begun stamp own.0 errand sent own.2 about in
    subst (λ (one : Errand). ToDo one × IsFor begun stamp one sent) (sym same) (own.1, own.2)

-- once nothing is due and nothing is open, it was answered
pub does-over : (begun : Begun) (stamp : ℕ) (ToDo : Errand → Type 0) (past : List Step) → IsRun (IsNext begun) past → opens past ≡ [] → Does begun stamp ToDo past [] → (errand : Errand) → ToDo errand
    → (sent : Sent) × IsAnswered past sent × IsFor begun stamp errand sent
does-over begun stamp ToDo past run none does errand is = elim (does.covered errand is) [
  | inl there ↦ absurd (none_in errand there)
  | inr was ↦ (was.0, all-told begun past run none was.0 was.1, was.2)
]
