-- The errand that is due first is handed out.
use Rattle.std.proofs.Common.{◌≡◌, List, [], ◌∷◌, drop, refl, sym, ap, subst, ◌∙◌}
use Rattle.std.specs.List.{All}
use Rattle.std.proofs.lemmas.List.Elements.{All-head}
use Rattle.sw_message.specs.Transcript.{Gave, Step}
use Rattle.sw_message.specs.declared.sent.Sent.{Sent}
use Rattle.sw_sync.specs.Inside.{sync_seen}
use Rattle.sw_sync.specs.Standing.{Stands, SyncModel}
use Rattle.sw_sync.specs.State.{State}
use Rattle.sw_sync.specs.Sync.{Begun, Fits, IsMessage, IsState}
use Rattle.sw_sync.specs.declared.errand.Errand.{Errand}
use Rattle.sw_sync.proofs.Changes.{may_hand, stands_handed}
use Rattle.sw_sync.proofs.Machine.{fits}
use Rattle.sw_sync.proofs.sync.SyncJob.hand_out_errand.Goals as goal

pub message-requires : goal.message-requires
message-requires c =
    let ready = c.requires.ready in
    let state = c.args.self.now.state in
    subst (λ (job : SyncModel). Fits job.state.stage c.args.errand) (sym c.self.view_is)
    (All-head (Fits state.stage) c.args.errand c.requires.first.0 (subst (All (Fits state.stage)) c.requires.first.1 (fits ready.0 ready.2.valid ready.1 state ready.3)))

abbrev job : goal.After-drop_due → SyncModel
job c = sync_seen c.self.inside

abbrev sent : goal.After-drop_due → Sent
sent c = record { ticket = c.in_ok-ticket.ticket; device = c.in_ok-device.device; msg = c.in_ok-device.msg }

-- what is known of it by its fields
record Known (c : goal.After-drop_due) (begun : Begun) (past : List Step) : Type 0 where
  stands : Stands (job c) begun past
  ready : IsState begun past (job c).state
  message : IsMessage begun (job c).state.stage c.args.errand (sent c).device (sent c).msg

known : (c : goal.After-drop_due) (begun : Begun) (past : List Step) → Stands c.args.self.now begun past → IsState begun past c.args.self.now.state → Known c begun past
known c begun past stands ready =
    let stands : Stands (job c) begun past = subst (λ (job : SyncModel). Stands job begun past) (sym c.self.view_is) stands in
    record {
      stands = stands;
      ready = subst (λ (job : SyncModel). IsState begun past job.state) (sym c.self.view_is) ready;
      message = c.in_ok-device.ensures begun (sym stands.place_is);
    }

unread : (c : goal.After-drop_due) → (job c).mailbox.unread ≡ []
unread c = ap (λ (job : SyncModel). job.mailbox.unread) c.self.view_is ∙ c.requires.unread

later : (c : goal.After-drop_due) → (job c).state.due ≡ c.args.errand ∷ c.requires.first.0
later c = ap (λ (job : SyncModel). job.state.due) c.self.view_is ∙ c.requires.first.1

stood : (c : goal.After-drop_due) (begun : Begun) (past : List Step) → Known c begun past → Stands (record (job c) { state = c.drop_due.new.self; mailbox = c.hand_out.new.self }) begun (Gave (sent c) ∷ past)
stood c begun past known =
    subst (λ (state : State). Stands (record (job c) { state = state; mailbox = c.hand_out.new.self }) begun (Gave (sent c) ∷ past))
    (sym (c.drop_due.ensures ∙ ap (λ (due : List Errand). record { stage = c.self.inside.state.stage; due = drop 1 due }) (later c)))
    (stands_handed (job c) begun past known.stands (unread c) known.ready c.args.errand c.requires.first.0 (sent c) (later c) c.in_ok-ticket.ensures.ticket known.message
    c.hand_out.new.self (c.in_ok-ticket.ensures.goes_with past (sent c) known.stands.goes_with refl) c.in_ok-ticket.ensures.errands c.in_ok-ticket.ensures.unread)

pub invariant_of-self-2 : goal.invariant_of-self-2
invariant_of-self-2 c = let ready = c.requires.ready in (ready.0, Gave (sent c) ∷ ready.1, stood c ready.0 ready.1 (known c ready.0 ready.1 ready.2 ready.3))

pub returns-clause-hands : goal.returns-clause-hands
returns-clause-hands c = λ begun past stands ready.
    let known = known c begun past stands ready in
    may_hand (job c) begun past known.stands (unread c) known.ready c.args.errand c.requires.first.0 (sent c) (later c) c.in_ok-ticket.ensures.ticket known.message

pub returns-clause-goes_on : goal.returns-clause-goes_on
returns-clause-goes_on c = λ begun past stands ready. stood c begun past (known c begun past stands ready)
