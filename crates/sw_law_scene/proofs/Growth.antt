-- What a scene keeps of the one before it as it grows.
use Rattle.std.proofs.Common.{◌≡◌, ◌⊎◌, ⊎_elim, ℕ, ◌+◌, ◌≤◌, Contains, List, [], ◌∷◌, ◌++◌, map, refl, sym, ap, subst, arith}
use Rattle.std.proofs.lemmas.List.{map-append}
use Rattle.std.proofs.lemmas.List.Elements.{Contains-append_left, Contains-push_cases}
use Rattle.sw_types.specs.Name.{NameModel}
use Rattle.sw_types.specs.Object.{ObjectModel}
use Rattle.sw_diskfile.proofs.Lists.{Contains-cases, Contains-first, Contains-later, Contains-none}
use Rattle.sw_message.specs.Learnt.{Heard, Keeps}
use Rattle.sw_message.specs.declared.reply.Reply.{Reply}
use Rattle.sw_message.specs.declared.sent.Sent.{Sent}
use Rattle.sw_message.specs.declared.reply.Reply.TheVariants as reply
use Rattle.sw_law_scene.specs.Moves.{Crashes, CrashesMounting, Fails, Handles, Restarts, books, lost, marks, replies, requests_of, sends, stopped, ticked}
use Rattle.sw_law_scene.specs.Scene.{Answer, DeviceState, Loss, Message, Request, Scene, StartedDelete, StartedPut, heard_in, known_to, set_device, with_device}

-- ---- lists that grow at their end

module _ {X Y : Type 0} (f : X → Y) (xs : List X) where
  pub mapped-kept : (more : List X) (y : Y) → Contains (map f xs) y → Contains (map f (xs ++ more)) y
  mapped-kept more y has = subst (λ ys. Contains ys y) (sym (map-append f xs more)) (Contains-append_left (map f xs) (map f more) y has)

  pub mapped-cases : (x : X) (y : Y) → Contains (map f (xs ++ x ∷ [])) y → Contains (map f xs) y ⊎ (f x ≡ y)
  mapped-cases x y has = Contains-push_cases (map f xs) (f x) y (subst (λ ys. Contains ys y) (map-append f xs (x ∷ [])) has)

-- ---- replies

pub heard-append : (posted more : List Message) → heard_in (posted ++ more) ≡ heard_in posted ++ heard_in more
heard-append [] more = refl
heard-append (Request at operation sent ∷ messages) more = heard-append messages more
heard-append (Answer at operation sent reply ∷ messages) more = ap (λ heard. record { device = sent.device; msg = sent.msg; reply = reply } ∷ heard) (heard-append messages more)

abbrev pub answered : Sent → Reply → Heard
answered sent reply = record { device = sent.device; msg = sent.msg; reply = reply }

-- each reply that was made is known
pub answer-known : (messages : List Message) (at operation : ℕ) (sent : Sent) (reply : Reply) → Contains messages (Answer at operation sent reply) → Contains (heard_in messages) (answered sent reply)
answer-known [] at operation sent reply has = absurd (Contains-none (Answer at operation sent reply) has)
answer-known (Request when other one ∷ messages) at operation sent reply has = ⊎_elim
    (λ same. absurd (cc))
    (λ later. answer-known messages at operation sent reply later)
    (Contains-cases (Request when other one) messages (Answer at operation sent reply) has)
answer-known (Answer when other one given ∷ messages) at operation sent reply has = ⊎_elim
    (λ same.
    let known : answered one given ≡ answered sent reply = cc in
    subst (Contains (answered one given ∷ heard_in messages)) known (Contains-first (answered one given) (heard_in messages)))
    (λ later. Contains-later (answered one given) (heard_in messages) (answered sent reply) (answer-known messages at operation sent reply later))
    (Contains-cases (Answer when other one given) messages (Answer at operation sent reply) has)

-- ---- scenes

-- the cluster is the same; what was known still is, and each message is still there
pub record Grows (before after : Scene) : Type 0 where
  pub cluster : after.cluster ≡ before.cluster
  pub known : Keeps (known_to before) (known_to after)
  pub messages : (posted : Message) → Contains before.messages posted → Contains after.messages posted
  pub now : before.now ≤ after.now

-- and no request was made
pub record Follows (before after : Scene) : Type 0 where
  pub grows : Grows before after
  pub requests : (at operation : ℕ) (sent : Sent) → Contains after.messages (Request at operation sent) → Contains before.messages (Request at operation sent)

module _ (scene : Scene) where
  -- ---- messages

  pub posted-keeps : (more : List Message) → Keeps (known_to scene) (known_to (record scene { messages = scene.messages ++ more }))
  posted-keeps more = record {
    book = λ booked has. has;
    marks = λ marked has. has;
    heard = λ heard has. subst (λ all. Contains all heard) (sym (heard-append scene.messages more)) (Contains-append_left (heard_in scene.messages) (heard_in more) heard has);
  }

  pub sends-grows : (operation : ℕ) (sents : List Sent) → Grows scene (sends operation sents scene)
  sends-grows operation sents =
      let more = requests_of scene.now operation sents in
      record { cluster = refl; known = posted-keeps more; messages = λ posted has. Contains-append_left scene.messages more posted has; now = omega arith }

  replied-requests : (reply : Message) (at operation : ℕ) (sent : Sent) → (reply ≡ Request at operation sent → ⊥) → Contains (scene.messages ++ reply ∷ []) (Request at operation sent) → Contains scene.messages (Request at operation sent)
  replied-requests reply at operation sent none has = ⊎_elim (λ old. old) (λ same. absurd (none same)) (Contains-push_cases scene.messages reply (Request at operation sent) has)

  -- ---- stamps

  pub books-keeps : (stamp : ℕ) (name : NameModel) (object : ObjectModel) → Keeps (known_to scene) (known_to (books stamp name object scene))
  books-keeps stamp name object = record {
    book = λ booked has. mapped-kept (λ (put : StartedPut). put.booked) scene.book _ booked has;
    marks = λ marked has. has;
    heard = λ heard has. has;
  }

  pub books-follows : (stamp : ℕ) (name : NameModel) (object : ObjectModel) → Follows scene (books stamp name object scene)
  books-follows stamp name object = record {
    grows = record { cluster = refl; known = books-keeps stamp name object; messages = λ posted has. has; now = omega arith };
    requests = λ at operation sent has. has;
  }

  pub marks-keeps : (stamp : ℕ) (name : NameModel) → Keeps (known_to scene) (known_to (marks stamp name scene))
  marks-keeps stamp name = record {
    book = λ booked has. has;
    marks = λ marked has. mapped-kept (λ (delete : StartedDelete). delete.marked) scene.marks _ marked has;
    heard = λ heard has. has;
  }

  pub marks-follows : (stamp : ℕ) (name : NameModel) → Follows scene (marks stamp name scene)
  marks-follows stamp name = record {
    grows = record { cluster = refl; known = marks-keeps stamp name; messages = λ posted has. has; now = omega arith };
    requests = λ at operation sent has. has;
  }

  -- ---- devices

  -- devices, losses and time change alone
  still-follows : (devices : ℕ → DeviceState) (losses : List Loss) (now : ℕ) → scene.now ≤ now → Follows scene (record scene { devices = devices; losses = losses; now = now })
  still-follows devices losses now later = record {
    grows = record { cluster = refl; known = record { book = λ booked has. has; marks = λ marked has. has; heard = λ heard has. has }; messages = λ posted has. has; now = later };
    requests = λ at operation sent has. has;
  }

  pub same-follows : Follows scene scene
  same-follows = still-follows scene.devices scene.losses scene.now (omega arith)

  pub ticked-follows : Follows scene (ticked scene)
  ticked-follows = still-follows scene.devices scene.losses (scene.now + 1) (omega arith)

  set-follows : (device : ℕ) (state : DeviceState) (after : Scene) → after ≡ ticked (set_device device state scene) → Follows scene after
  set-follows device state after is = subst (Follows scene) (sym is) (still-follows (with_device device state scene.devices) scene.losses (scene.now + 1) (omega arith))

  replied-follows : (device operation : ℕ) (state : DeviceState) (sent : Sent) (given : Reply) (after : Scene) → after ≡ replies operation sent given (set_device device state scene) → Follows scene after
  replied-follows device operation state sent given after is = subst (Follows scene) (sym is) (record {
    grows = record {
      cluster = refl;
      known = posted-keeps (Answer scene.now operation sent given ∷ []);
      messages = λ posted has. Contains-append_left scene.messages (Answer scene.now operation sent given ∷ []) posted has;
      now = omega arith;
    };
    requests = λ at other request has. replied-requests (Answer scene.now operation sent given) at other request (λ same. absurd (cc)) has;
  })

  pub handles-follows : (operation : ℕ) (sent : Sent) (after : Scene) → Handles scene operation sent after → Follows scene after
  handles-follows operation sent after is = replied-follows sent.device operation _ sent is.reply after is.after_is

  pub fails-follows : (operation : ℕ) (sent : Sent) (after : Scene) → Fails scene operation sent after → Follows scene after
  fails-follows operation sent after is = replied-follows sent.device operation _ sent reply.DiskFault after is.after_is

  pub crashes-follows : (sent : Sent) (after : Scene) → Crashes scene sent after → Follows scene after
  crashes-follows sent after is = set-follows sent.device _ after is.after_is

  pub crashes_mounting-follows : (device : ℕ) (after : Scene) → CrashesMounting scene device after → Follows scene after
  crashes_mounting-follows device after is = set-follows device _ after is.after_is

  pub restarts-follows : (device : ℕ) (after : Scene) → Restarts scene device after → Follows scene after
  restarts-follows device after is = set-follows device _ after is.after_is

  pub stopped-follows : (device : ℕ) → Follows scene (stopped device scene)
  stopped-follows device = set-follows device _ (stopped device scene) refl

  pub lost-follows : (device : ℕ) → Follows scene (lost device scene)
  lost-follows device = still-follows (lost device scene).devices (lost device scene).losses (scene.now + 1) (omega arith)
