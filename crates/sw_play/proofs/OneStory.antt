-- Two plays of one script have one story, or one's begins with the other's.
use Rattle.std.proofs.Common.{◌≡◌, ◌≢◌, ◌⊎◌, inl, inr, ℕ, ◌+◌, List, [], ◌∷◌, ◌++◌, map, append-nil, Option, Some, None, Result, Ok, Err, refl, sym, ap, ap₂, subst, subst₂, ◌∙◌}
use Rattle.std.specs.List.{concat}
use Rattle.std.proofs.lemmas.List.{map-append}
use Rattle.std.proofs.lemmas.List.Folds.{concat-append}
use Rattle.sw_ring.specs.Cluster.{ClusterModel, KeepsRules}
use Rattle.sw_core.proofs.Happening.{run-sound}
use Rattle.sw_script.specs.Line.{event_of}
use Rattle.sw_script.specs.declared.event.Event.{Event}
use Rattle.sw_script.specs.declared.fault.LineFault.{LineFault}
use Rattle.sw_sim_text.specs.Text.{told_text}
use Rattle.sw_sim_world.specs.Doing.{DoesEvent, Done, event_fault}
use Rattle.sw_sim_world.specs.ScriptedWorld.{AreSteps, ScriptedWorld, Step, empty_script}
use Rattle.sw_sim_world.specs.Unfolding.{Tells, Unfolds}
use Rattle.sw_play.specs.Play.{IsRun}
use Rattle.sw_play.specs.Same.{ArePlayedAlike, IsFront}
use Rattle.sw_play.specs.Story.{DoesOrSpends, Plays, PlaysEvent, PlaysLine, Stops, story_text}
use Rattle.sw_play.specs.declared.playing.PlayEnd.{PlayEnd}
use Rattle.sw_play.specs.declared.playing.PlayEnd.TheVariants as ended
use Rattle.sw_play.proofs.OneSteps.{AreOne, EventLaw, IsReached, empty_reached, unfolds_once}
use Rattle.sw_play.proofs.OneTold.{told_once}

-- ---- where one stops

module _ (before : ScriptedWorld) (story other : List Done) (end how : PlayEnd) (after later : ScriptedWorld) where
  stop_alike : (cause : PlayEnd) → Stops cause before story end after → Stops cause before other how later → ArePlayedAlike story other end how after later
  stop_alike cause x y = inl (x.0 ∙ sym y.0, x.1 ∙ sym y.1, x.2 ∙ sym y.2)

  first_wants : Stops ended.NoMemory before story end after → ArePlayedAlike story other end how after later
  first_wants x = inr (inl (x.1, (other, ap (λ (none : List Done). none ++ other) (sym x.0))))

  second_wants : Stops ended.NoMemory before other how later → ArePlayedAlike story other end how after later
  second_wants y = inr (inr (y.1, (story, ap (λ (none : List Done). none ++ story) (sym y.0))))

-- ---- behind one line

module _ (one two : Done) (same : one ≡ two) (story other : List Done) (end how : PlayEnd) (after later : ScriptedWorld) where
  behind : ArePlayedAlike story other end how after later → ArePlayedAlike (one ∷ story) (two ∷ other) end how after later
  behind (inl (alike, ends, worlds)) = inl (ap₂ (λ (done : Done) (rest : List Done). done ∷ rest) same alike, ends, worlds)
  behind (inr (inl (wants, (rest, is)))) = inr (inl (wants, (rest, ap₂ (λ (done : Done) (these : List Done). done ∷ these) (sym same) is)))
  behind (inr (inr (wants, (rest, is)))) = inr (inr (wants, (rest, ap₂ (λ (done : Done) (these : List Done). done ∷ these) same is)))

-- ---- two plays

module _ (law : EventLaw) (cluster : ClusterModel) where
  -- a line is done in one way
  pub done_once : (event : Event) (before : ScriptedWorld) → IsReached cluster before → (one other : Done) → one.event ≡ event → other.event ≡ event → DoesEvent before one → DoesEvent before other → (one ≡ other) × IsReached cluster one.after
  done_once event before reached one other first second x y =
      let same : AreOne cluster one.steps other.steps one.after other.after =
      unfolds_once law cluster before one.steps other.steps one.after other.after reached event
      (subst (λ (line : Event). Unfolds line before one.steps one.after) first x.unfolds) x.steps (subst (λ (line : Event). Unfolds line before other.steps other.after) second y.unfolds) y.steps in
      let tells : Tells event before one.steps one.after other.told =
      subst₂ (λ (steps : List Step) (after : ScriptedWorld). Tells event before steps after other.told) (sym same.0) (sym same.1)
      (subst (λ (line : Event). Tells line before other.steps other.after other.told) second y.tells) in
      let told = told_once cluster event before one.steps one.after one.told other.told (run-sound cluster reached.events before.world reached.run) x.steps
      (subst (λ (line : Event). Tells line before one.steps one.after one.told) first x.tells) tells in
      let lines = first ∙ sym second in
      ((λ i. record { event = lines i; steps = same.0 i; told = told i; after = same.1 i }), same.2)

  module _ (number : ℕ) (Rest : ScriptedWorld → List Done → PlayEnd → ScriptedWorld → Type 0)
      (rest : (between : ScriptedWorld) → IsReached cluster between → (story other : List Done) (end how : PlayEnd) (after later : ScriptedWorld) → Rest between story end after → Rest between other how later
      → ArePlayedAlike story other end how after later) (before : ScriptedWorld) (reached : IsReached cluster before) where
    event_once : (event : Event) (story other : List Done) (end how : PlayEnd) (after later : ScriptedWorld) → DoesOrSpends event number Rest before story end after → DoesOrSpends event number Rest before other how later
        → ArePlayedAlike story other end how after later
    event_once event [] [] end how after later x y = inl (refl, x.1 ∙ sym y.1, x.2 ∙ sym y.2)
    event_once event [] (two ∷ other) end how after later x y = absurd (y.0 x.0)
    event_once event (one ∷ story) [] end how after later x y = absurd (x.0 y.0)
    event_once event (one ∷ story) (two ∷ other) end how after later x y =
        let same = done_once event before reached one two x.1 y.1 x.2 y.2 in
        behind one two same.0 story other end how after later
        (rest one.after same.1 story other end how after later x.3 (subst (λ (done : Done). Rest done.after other how later) (sym same.0) y.3))

    fault_once : (fault : Option LineFault) (event : Event) (story other : List Done) (end how : PlayEnd) (after later : ScriptedWorld) → PlaysEvent fault event number Rest before story end after
        → PlaysEvent fault event number Rest before other how later → ArePlayedAlike story other end how after later
    fault_once (Some fault) event story other end how after later x y = stop_alike before story other end how after later (ended.Line number fault) x y
    fault_once None event story other end how after later x y = event_once event story other end how after later x y

    line_once : (told : Result (Option Event) LineFault) (story other : List Done) (end how : PlayEnd) (after later : ScriptedWorld) → PlaysLine told number Rest before story end after
        → PlaysLine told number Rest before other how later → ArePlayedAlike story other end how after later
    line_once (Err fault) story other end how after later x y = stop_alike before story other end how after later (ended.Line number fault) x y
    line_once (Ok None) story other end how after later x y = rest before reached story other end how after later x y
    line_once (Ok (Some event)) story other end how after later x y = fault_once (event_fault before event) event story other end how after later x y

  plays_once : (lines : List (List ℕ)) (number : ℕ) (before : ScriptedWorld) → IsReached cluster before → (story other : List Done) (end how : PlayEnd) (after later : ScriptedWorld) → Plays before number lines story end after
      → Plays before number lines other how later → ArePlayedAlike story other end how after later
  plays_once [] number before reached story other end how after later (inl wants) y = first_wants before story other end how after later wants
  plays_once [] number before reached story other end how after later (inr done) (inl wants) = second_wants before story other end how after later wants
  plays_once [] number before reached story other end how after later (inr done) (inr also) = stop_alike before story other end how after later ended.Done done also
  plays_once (line ∷ lines) number before reached story other end how after later (inl wants) y = first_wants before story other end how after later wants
  plays_once (line ∷ lines) number before reached story other end how after later (inr goes) (inl wants) = second_wants before story other end how after later wants
  plays_once (line ∷ lines) number before reached story other end how after later (inr goes) (inr also) =
      line_once number (λ between later how last. Plays between (number + 1) lines later how last)
      (λ between next these those one two first second. plays_once lines (number + 1) between next these those one two first second)
      before reached (event_of line) story other end how after later goes also

  pub one_story : (lines : List (List ℕ)) (story other : List Done) (end how : PlayEnd) (after later : ScriptedWorld) → KeepsRules cluster → Plays (empty_script cluster) 1 lines story end after
      → Plays (empty_script cluster) 1 lines other how later → ArePlayedAlike story other end how after later
  one_story lines story other end how after later rules x y = plays_once lines 1 (empty_script cluster) (empty_reached cluster rules) story other end how after later x y

-- ---- texts

text-append : (story rest : List Done) → story_text (story ++ rest) ≡ story_text story ++ story_text rest
text-append story rest =
    let line = λ (done : Done). told_text done.told in
    ap concat (map-append line story rest) ∙ concat-append (map line story) (map line rest)

front_text : (story other : List Done) (text others : List ℕ) → text ≡ story_text story → others ≡ story_text other → IsFront story other → IsFront text others
front_text story other text others is also (rest, whole) = (story_text rest, also ∙ ap story_text whole ∙ text-append story rest ∙ ap (λ (front : List ℕ). front ++ story_text rest) (sym is))

module _ (cluster : ClusterModel) (lines : List (List ℕ)) (one other : PlayEnd) (text others : List ℕ) (x : IsRun (empty_script cluster) lines one text) (y : IsRun (empty_script cluster) lines other others) where
  pub same_text : ArePlayedAlike x.story y.story one other x.after y.after → one ≢ ended.NoMemory → other ≢ ended.NoMemory → (one ≡ other) × (text ≡ others)
  same_text (inl alike) first second = (alike.1, x.text_is ∙ ap story_text alike.0 ∙ sym y.text_is)
  same_text (inr (inl front)) first second = absurd (first front.0)
  same_text (inr (inr front)) first second = absurd (second front.0)

  pub text_front : ArePlayedAlike x.story y.story one other x.after y.after → one ≡ ended.NoMemory → IsFront text others ⊎ ((other ≡ ended.NoMemory) × IsFront others text)
  text_front (inl alike) wants = inl ([], y.text_is ∙ ap story_text (sym alike.0) ∙ sym x.text_is ∙ sym (append-nil text))
  text_front (inr (inl front)) wants = inl (front_text x.story y.story text others x.text_is y.text_is front.1)
  text_front (inr (inr front)) wants = inr (front.0, front_text y.story x.story others text y.text_is x.text_is front.1)
