-- When the steps of a timed transcript were made.
use Rattle.std.proofs.Common.{◌≡◌, ⊎_elim, ℕ, ◌<◌, ◌≤◌, Contains, List, [], ◌∷◌, ◌++◌, Some, None, subst, arith}
use Rattle.sw_diskfile.proofs.Lists.{Contains-cases, Contains-none}
use Rattle.sw_message.specs.Transcript.{Closed, Gave, Step}
use Rattle.sw_message.specs.declared.reply.Reply.{Reply}
use Rattle.sw_message.specs.declared.sent.Sent.{Sent}
use Rattle.sw_law_scene.specs.Scene.{Answer, Message, Request}
use Rattle.sw_law_rounds.specs.Timed.{IsTimed}

module _ (messages : List Message) (number : ℕ) (asked_at : ℕ → ℕ) where
  -- a reply to a message, made after its request, and by a step
  abbrev pub WasMadeBy : Sent → Reply → (by : ℕ) → Type 0
  WasMadeBy sent reply by = (at : ℕ) × (asked_at sent.ticket < at) × (at ≤ by) × Contains messages (Answer at number sent reply)

  -- what was made by a step was made by a later one
  made-later : (sent : Sent) (reply : Reply) (by later : ℕ) → by ≤ later → WasMadeBy sent reply by → WasMadeBy sent reply later
  made-later sent reply by later in_time made = (made.0, made.1, omega (arith, made.2, in_time), made.3)

  -- what was told was made so
  pub told-made : (past : List Step) (by : ℕ) → IsTimed messages number asked_at past by → (sent : Sent) (reply : Reply) → Contains past (Closed sent (Some reply)) → WasMadeBy sent reply by
  told-made [] by timed sent reply has = absurd (Contains-none _ has)
  told-made (Gave first ∷ past) by timed sent reply has = ⊎_elim
      (λ same. absurd (cc))
      (λ later. made-later sent reply (asked_at first.ticket) by timed.0 (told-made past (asked_at first.ticket) timed.2 sent reply later))
      (Contains-cases (Gave first) past (Closed sent (Some reply)) has)
  told-made (Closed first (Some other) ∷ past) by timed sent reply has = ⊎_elim
      (λ same.
      let sents : first ≡ sent = cc in
      let replies : other ≡ reply = cc in
      subst (λ (s : Sent). WasMadeBy s reply by) sents (subst (λ (r : Reply). WasMadeBy first r by) replies timed.0))
      (λ later. told-made past by timed.1 sent reply later)
      (Contains-cases (Closed first (Some other)) past (Closed sent (Some reply)) has)
  told-made (Closed first None ∷ past) by timed sent reply has = ⊎_elim
      (λ same. absurd (cc))
      (λ later. told-made past by timed sent reply later)
      (Contains-cases (Closed first None) past (Closed sent (Some reply)) has)

  -- the steps before a message that was handed out were made by then
  pub timed-before : (later : List Step) (sent : Sent) (earlier : List Step) (by : ℕ) → IsTimed messages number asked_at (later ++ Gave sent ∷ earlier) by → IsTimed messages number asked_at earlier (asked_at sent.ticket)
  timed-before [] sent earlier by timed = timed.2
  timed-before (Gave first ∷ later) sent earlier by timed = timed-before later sent earlier (asked_at first.ticket) timed.2
  timed-before (Closed first (Some other) ∷ later) sent earlier by timed = timed-before later sent earlier by timed.1
  timed-before (Closed first None ∷ later) sent earlier by timed = timed-before later sent earlier by timed

  -- a message that was handed out was made then
  pub gave-made : (later : List Step) (sent : Sent) (earlier : List Step) (by : ℕ) → IsTimed messages number asked_at (later ++ Gave sent ∷ earlier) by
      → (asked_at sent.ticket ≤ by) × Contains messages (Request (asked_at sent.ticket) number sent)
  gave-made [] sent earlier by timed = (timed.0, timed.1)
  gave-made (Gave first ∷ later) sent earlier by timed =
      let more = gave-made later sent earlier (asked_at first.ticket) timed.2 in (omega (arith, more.0, timed.0), more.1)
  gave-made (Closed first (Some other) ∷ later) sent earlier by timed = gave-made later sent earlier by timed.1
  gave-made (Closed first None ∷ later) sent earlier by timed = gave-made later sent earlier by timed
