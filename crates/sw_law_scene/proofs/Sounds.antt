-- A scene stays sound as messages are made and stamps are drawn.
use Rattle.std.proofs.Common.{◌≡◌, ◌⊎◌, inl, inr, ⊎_elim, ℕ, ◌<◌, Bool, true, false, Contains, List, [], ◌∷◌, ◌++◌, Option, Some, None, refl, sym, ap, subst, ◌∙◌, arith}
use Rattle.std.specs.Prelude.{◌==◌, if◌then◌else◌}
use Rattle.std.specs.List.{All}
use Rattle.std.proofs.lemmas.List.Elements.{All-nil, Contains-append_cases, Contains-append_left}
use Rattle.sw_types.specs.Name.{NameModel}
use Rattle.sw_types.specs.Object.{ObjectModel}
use Rattle.sw_hashpath.specs.Place.{folder_of}
use Rattle.sw_archive.specs.Put.{IsPut}
use Rattle.sw_diskfile.proofs.Lists.{Contains-cases, Contains-none, mapped}
use Rattle.sw_ring.specs.Cluster.{ClusterModel, KeepsRules}
use Rattle.sw_message.specs.Learnt.{Booked, IsGenuine, Marked}
use Rattle.sw_message.specs.Step.{Folders}
use Rattle.sw_message.specs.declared.reply.Reply.{Reply}
use Rattle.sw_message.specs.declared.sent.Sent.{Sent}
use Rattle.sw_law_scene.specs.Devices.{no_folders}
use Rattle.sw_law_scene.specs.Disks.{Sure}
use Rattle.sw_law_scene.specs.Filed.{IsDiskFiled, IsFiled}
use Rattle.sw_law_scene.specs.Moves.{books, marks, next_stamp, replies, requests_of, sends, ticked}
use Rattle.sw_law_scene.specs.Scene.{Answer, DeviceState, Message, Request, Scene, StartedDelete, StartedPut, disk_of, empty_scene, known_to, set_device}
use Rattle.sw_law_scene.specs.Sound.{IsDrawn, IsSoundScene, MayBeMade, MayBeSent, made_at}
use Rattle.sw_law_scene.proofs.Growth.{books-keeps, mapped-cases, marks-keeps, posted-keeps}
use Rattle.sw_law_scene.proofs.Knowledge.{disk_kept, made_kept}

pub empty-filed : (cluster : ClusterModel) (book : List Booked) → IsDiskFiled cluster book (Sure no_folders)
empty-filed cluster book = λ side is place right. subst (λ (folders : Folders). All (IsFiled cluster book place) (folders (folder_of place))) (sym is) (All-nil (IsFiled cluster book place))

pub empty-sound : (cluster : ClusterModel) → KeepsRules cluster → IsSoundScene (empty_scene cluster)
empty-sound cluster rules = record {
  rules = rules;
  book = record { puts = λ booked has. absurd (Contains-none booked has); one = λ a b has. absurd (Contains-none a has) };
  booked = λ booked has. absurd (Contains-none booked has);
  marked = λ marked has. absurd (Contains-none marked has);
  filed = λ device. empty-filed cluster [];
  messages = λ posted has. absurd (Contains-none posted has);
  before = λ posted has. absurd (Contains-none posted has);
  asked = λ at operation sent given has. absurd (Contains-none (Answer at operation sent given) has);
}

-- ---- parts of moves

-- a request may be sent now, and a reply is a genuine one to a request
abbrev IsMadeNow : Scene → Message → Type 0
IsMadeNow scene (Request at operation sent) = (at ≡ scene.now) × MayBeSent scene.cluster (known_to scene) sent.msg
IsMadeNow scene (Answer at operation sent given) = (at ≡ scene.now) × IsGenuine scene.cluster (known_to scene) given × (asked : ℕ) × Contains scene.messages (Request asked operation sent)

made-now : (scene : Scene) (posted : Message) → IsMadeNow scene posted → (made_at posted ≡ scene.now) × MayBeMade scene.cluster (known_to scene) posted
made-now scene (Request at operation sent) made = made
made-now scene (Answer at operation sent given) made = (made.0, made.1)

chosen-filed : (cluster : ClusterModel) (book : List Booked) (b : Bool) (one other : DeviceState) → IsDiskFiled cluster book one.disk → IsDiskFiled cluster book other.disk → IsDiskFiled cluster book (if b then one else other).disk
chosen-filed cluster book true one other first second = first
chosen-filed cluster book false one other first second = second

module _ (scene : Scene) (sound : IsSoundScene scene) where
  posted-sound : (more : List Message) → ((posted : Message) → Contains more posted → IsMadeNow scene posted) → IsSoundScene (ticked (record scene { messages = scene.messages ++ more }))
  posted-sound more made =
      let keeps = posted-keeps scene more in
      record {
        rules = sound.rules;
        book = sound.book;
        booked = sound.booked;
        marked = sound.marked;
        filed = sound.filed;
        messages = λ posted has. made_kept scene.cluster _ _ keeps posted (⊎_elim (λ old. sound.messages posted old) (λ new. (made-now scene posted (made posted new)).1) (Contains-append_cases scene.messages more posted has));
        before = λ posted has. ⊎_elim (λ old. omega (arith, sound.before posted old)) (λ new. omega (arith, (made-now scene posted (made posted new)).0)) (Contains-append_cases scene.messages more posted has);
        asked = λ at operation sent given has. ⊎_elim
            (λ old. let was = sound.asked at operation sent given old in (was.0, was.1, Contains-append_left scene.messages more _ was.2))
            (λ new. let was = made (Answer at operation sent given) new in (was.2, omega (arith, was.0, sound.before _ was.3), Contains-append_left scene.messages more _ was.3))
            (Contains-append_cases scene.messages more (Answer at operation sent given) has);
      }

  pub ticked-sound : IsSoundScene (ticked scene)
  ticked-sound = record {
    rules = sound.rules;
    book = sound.book;
    booked = sound.booked;
    marked = sound.marked;
    filed = sound.filed;
    messages = sound.messages;
    before = λ posted has. omega (arith, sound.before posted has);
    asked = sound.asked;
  }

  pub set-sound : (device : ℕ) (state : DeviceState) → IsDiskFiled scene.cluster (known_to scene).book state.disk → IsSoundScene (set_device device state scene)
  set-sound device state filed = record {
    rules = sound.rules;
    book = sound.book;
    booked = sound.booked;
    marked = sound.marked;
    filed = λ other. chosen-filed scene.cluster (known_to scene).book (other == device) state (scene.devices other) filed (sound.filed other);
    messages = sound.messages;
    before = sound.before;
    asked = sound.asked;
  }

  -- ---- messages

  pub sends-sound : (operation : ℕ) (sents : List Sent) → ((sent : Sent) → Contains sents sent → MayBeSent scene.cluster (known_to scene) sent.msg) → IsSoundScene (sends operation sents scene)
  sends-sound operation sents may =
      posted-sound (requests_of scene.now operation sents) (λ posted has.
      let from = mapped (λ (sent : Sent). Request scene.now operation sent) sents posted has in
      subst (IsMadeNow scene) from.2 (refl, may from.0 from.1))

  pub replied-sound : (asked operation : ℕ) (sent : Sent) (given : Reply) → Contains scene.messages (Request asked operation sent) → IsGenuine scene.cluster (known_to scene) given → IsSoundScene (replies operation sent given scene)
  replied-sound asked operation sent given request genuine =
      posted-sound (Answer scene.now operation sent given ∷ []) (λ posted has.
      subst (IsMadeNow scene) (the_one has) (refl, genuine, asked, request))
    where
      the_one : {posted : Message} → Contains (Answer scene.now operation sent given ∷ []) posted → Answer scene.now operation sent given ≡ posted
      the_one {posted} has = ⊎_elim (λ same. same) (λ none. absurd (Contains-none posted none)) (Contains-cases (Answer scene.now operation sent given) [] posted has)

  -- ---- stamps

  above : (clock stamp : ℕ) (last : Option ℕ) → IsDrawn last stamp → stamp < next_stamp clock last
  above clock stamp None drawn = absurd drawn
  above clock stamp (Some last) drawn = omega (arith, drawn)

  drawn_next : (clock stamp : ℕ) → IsDrawn scene.last stamp → IsDrawn (Some (next_stamp clock scene.last)) stamp
  drawn_next clock stamp drawn = omega (arith, above clock stamp scene.last drawn)

  module _ (clock : ℕ) (name : NameModel) (object : ObjectModel) (put : IsPut scene.cluster.policy (next_stamp clock scene.last) name object) where
    abbrev new_put : Booked
    new_put = record { stamp = next_stamp clock scene.last; name = name; object = object }

    abbrev booked_scene : Scene
    booked_scene = books (next_stamp clock scene.last) name object scene

    cases : (booked : Booked) → Contains (known_to booked_scene).book booked → Contains (known_to scene).book booked ⊎ (new_put ≡ booked)
    cases booked has = mapped-cases (λ (one : StartedPut). one.booked) scene.book _ booked has

    -- the new put's stamp is above all
    apart : (booked : Booked) → Contains (known_to scene).book booked → booked.stamp ≡ next_stamp clock scene.last → ⊥
    apart booked has same = absurd (omega (arith, same, above clock booked.stamp scene.last (sound.booked booked has)))

    one_put : (a b : Booked) → Contains (known_to scene).book a ⊎ (new_put ≡ a) → Contains (known_to scene).book b ⊎ (new_put ≡ b) → a.stamp ≡ b.stamp → a ≡ b
    one_put a b (inl first) (inl second) same = sound.book.one a b first second same
    one_put a b (inl first) (inr new) same = absurd (apart a first (same ∙ sym (ap (λ (booked : Booked). booked.stamp) new)))
    one_put a b (inr new) (inl second) same = absurd (apart b second (sym same ∙ sym (ap (λ (booked : Booked). booked.stamp) new)))
    one_put a b (inr new) (inr again) same = sym new ∙ again

    pub books-sound : IsSoundScene booked_scene
    books-sound =
        let keeps = books-keeps scene (next_stamp clock scene.last) name object in
        record {
          rules = sound.rules;
          book = record {
            puts = λ booked has. ⊎_elim (λ old. sound.book.puts booked old) (λ new. subst (λ (one : Booked). IsPut scene.cluster.policy one.stamp one.name one.object) new put) (cases booked has);
            one = λ a b first second same. one_put a b (cases a first) (cases b second) same;
          };
          booked = λ booked has. ⊎_elim
              (λ old. drawn_next clock booked.stamp (sound.booked booked old))
              (λ new. omega (arith, ap (λ (one : Booked). one.stamp) new))
              (cases booked has);
          marked = λ marked has. drawn_next clock marked.stamp (sound.marked marked has);
          filed = λ device. disk_kept scene.cluster _ _ keeps (disk_of scene device) (sound.filed device);
          messages = λ posted has. made_kept scene.cluster _ _ keeps posted (sound.messages posted has);
          before = sound.before;
          asked = sound.asked;
        }

  pub marks-sound : (clock : ℕ) (name : NameModel) → IsSoundScene (marks (next_stamp clock scene.last) name scene)
  marks-sound clock name =
      let keeps = marks-keeps scene (next_stamp clock scene.last) name in
      record {
        rules = sound.rules;
        book = sound.book;
        booked = λ booked has. drawn_next clock booked.stamp (sound.booked booked has);
        marked = λ marked has. ⊎_elim
            (λ old. drawn_next clock marked.stamp (sound.marked marked old))
            (λ new. omega (arith, ap (λ (one : Marked). one.stamp) new))
            (mapped-cases (λ (one : StartedDelete). one.marked) scene.marks _ marked has);
        filed = sound.filed;
        messages = λ posted has. made_kept scene.cluster _ _ keeps posted (sound.messages posted has);
        before = sound.before;
        asked = sound.asked;
      }
