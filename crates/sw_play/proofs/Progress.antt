-- A script of which some first lines were done.
use Rattle.std.proofs.Common.{◌≡◌, ◌≢◌, inl, inr, ⊎_elim, ℕ, ◌+◌, true, Contains, List, [], ◌∷◌, ◌++◌, map, Option, None, Some, Result, Ok, refl, sym, ap, subst, ◌∙◌, append_assoc, append-nil}
use Rattle.std.specs.List.{concat}
use Rattle.std.proofs.lemmas.List.{map-append}
use Rattle.std.proofs.lemmas.List.Elements.{Contains-push_cases}
use Rattle.std.proofs.lemmas.List.Folds.{concat-append}
use Rattle.sw_diskfile.proofs.Lists.{Contains-none}
use Rattle.sw_ring.specs.Cluster.{ClusterModel}
use Rattle.sw_core.specs.Event as core
use Rattle.sw_core.specs.Event.{IsRun}
use Rattle.sw_script.specs.Line.{event_of}
use Rattle.sw_script.specs.declared.event.Event.{Event}
use Rattle.sw_script.specs.declared.fault.LineFault.{LineFault}
use Rattle.sw_sim_text.specs.Text.{told_text}
use Rattle.sw_play.specs.Lines.{DoesLine, DoesOrBlank, StopsLine}
use Rattle.sw_play.specs.Play.{Played}
use Rattle.sw_play.specs.Full.{after_lines}
use Rattle.sw_sim_world.specs.ScriptedWorld.{ScriptedWorld}
use Rattle.sw_sim_world.specs.Standing.{StandsFor, WorldModel}
use Rattle.sw_sim_world.specs.Doing.{Done}
use Rattle.sw_play.specs.Story.{Plays, PlaysEvent, PlaysLine, TellsOnePut, story_text}
use Rattle.sw_play.specs.declared.playing.LineStop.TheVariants as stop
use Rattle.sw_play.specs.declared.playing.PlayEnd.{PlayEnd}
use Rattle.sw_play.specs.declared.playing.PlayEnd.TheVariants as ended
use Rattle.sw_play.proofs.Founds.{tells_one_put}
use Rattle.sw_play.proofs.Fulls.{ends_in_full}
use Rattle.sw_play.proofs.Keeping.{keeps_word}
use Rattle.sw_play.proofs.Stories.{plays_does}
use Rattle.sw_play.proofs.StoryLines.{AllStoodFor, StoodFor, after_more, line_cases, no_line}

-- some basic events led to a world
abbrev IsOfRun : ScriptedWorld → Type 0
IsOfRun before = (events : List core.Event) × IsRun before.world.scene.cluster events before.world

-- these lines were done, and those are left, the first of which has the next number
pub record Progress (before : ScriptedWorld) (left : WorldModel) (old new : List ℕ) (number : ℕ) (lines all : List (List ℕ)) : Type 0 where
  pub story : List Done
  pub after : ScriptedWorld
  -- however it goes on from there, the whole goes on
  pub plays : (later : List Done) (end : PlayEnd) (last : ScriptedWorld) → Plays after (number + 1) lines later end last → Plays before 1 all (story ++ later) end last
  pub text : new ≡ old ++ story_text story
  pub stands : StandsFor left after
  pub found : (done : Done) → Contains story done → TellsOnePut done
  -- the first of it is a world of a run
  pub begins : IsOfRun before
  -- worlds of the program stood for those of each line
  pub after_is : after ≡ after_lines before story
  pub stood : AllStoodFor before story

-- nothing was done
pub none_done : (before : ScriptedWorld) (left : WorldModel) (text : List ℕ) (all : List (List ℕ)) → StandsFor left before → Progress before left text text 0 all all
none_done before left text all stands = record {
  story = [];
  after = before;
  plays = λ later end last plays. plays;
  text = sym (append-nil text);
  stands = stands;
  found = λ done has. absurd (Contains-none done has);
  begins = (stands.events, subst (λ (cluster : ClusterModel). IsRun cluster stands.events before.world) (sym stands.cluster_is) stands.run);
  after_is = refl;
  stood = λ at done line. absurd (no_line before at done line);
}

-- ---- one line more

text_more : (story : List Done) (done : Done) → story_text (story ++ done ∷ []) ≡ story_text story ++ told_text done.told
text_more story done =
    ap concat (map-append (λ (one : Done). told_text one.told) story (done ∷ [])) ∙ concat-append (map (λ (one : Done). told_text one.told) story) (told_text done.told ∷ [])
    ∙ ap (λ text. story_text story ++ text) (append-nil (told_text done.told))

module _ (before : ScriptedWorld) (middle left : WorldModel) (old between new : List ℕ) (number : ℕ) (line : List ℕ) (lines all : List (List ℕ)) (progress : Progress before middle old between number (line ∷ lines) all) where
  -- how the rest goes on
  abbrev Rest : ScriptedWorld → List Done → PlayEnd → ScriptedWorld → Type 0
  Rest at later how last = Plays at (number + 1 + 1) lines later how last

  abbrev GoesOn : Result (Option Event) LineFault → List Done → PlayEnd → ScriptedWorld → Type 0
  GoesOn told later end last = PlaysLine told (number + 1) Rest progress.after later end last

  event_done : (event : Option Event) → event_of line ≡ Ok event → DoesOrBlank event progress.after left between new → Progress before left old new (number + 1) lines all
  event_done None is (stands, same) = record {
    story = progress.story;
    after = progress.after;
    plays = λ later end last plays. progress.plays later end last (inr (subst (λ (told : Result (Option Event) LineFault). GoesOn told later end last) (sym is) plays));
    text = same ∙ progress.text;
    stands = stands;
    found = progress.found;
    begins = progress.begins;
    after_is = progress.after_is;
    stood = progress.stood;
  }
  event_done (Some event) is tells =
      let done : Done = record { event = event; steps = tells.does.steps; told = tells.told; after = tells.does.after } in
      record {
        story = progress.story ++ done ∷ [];
        after = done.after;
        plays = λ later end last plays.
            subst (λ (story : List Done). Plays before 1 all story end last) (sym (append_assoc progress.story (done ∷ []) later))
            (progress.plays (done ∷ later) end last
            (inr
            (subst (λ (told : Result (Option Event) LineFault). GoesOn told (done ∷ later) end last) (sym is)
            (subst (λ (fault : Option LineFault). PlaysEvent fault event (number + 1) Rest progress.after (done ∷ later) end last) (sym tells.does.fine) (tells.does.spare, refl, tells.does.does, plays)))));
        text = tells.text ∙ ap (λ text. text ++ told_text tells.told) progress.text ∙ append_assoc old (story_text progress.story) (told_text tells.told) ∙ ap (λ text. old ++ text) (sym (text_more progress.story done));
        stands = tells.does.stands;
        found = λ one has. ⊎_elim
            (λ earlier. progress.found one earlier)
            (λ this. subst TellsOnePut this (tells_one_put left.cluster tells.does.stands.events progress.after done tells.does.does tells.does.stands.run))
            (Contains-push_cases progress.story done one has);
        begins = progress.begins;
        after_is = sym (after_more before progress.story done);
        stood = λ at one has. ⊎_elim
            (λ earlier. progress.stood at one earlier)
            (λ this.
            subst (StoodFor at) this.1
            (subst (λ (first : ScriptedWorld). StoodFor first done) (progress.after_is ∙ sym this.0)
            (record { earlier = middle; stood = progress.stands; later = left; stands = tells.does.stands; does = tells.does.does })))
            (line_cases before progress.story done at one has);
      }

  pub line_done : DoesLine progress.after line left between new → Progress before left old new (number + 1) lines all
  line_done (event, is, does) = event_done event is does

-- ---- how it ends

none_plays : (at : ScriptedWorld) (number : ℕ) (lines : List (List ℕ)) → Plays at number lines [] ended.NoMemory at
none_plays at number [] = inl (refl, refl, refl)
none_plays at number (line ∷ lines) = inl (refl, refl, refl)

module _ (at : ScriptedWorld) (number : ℕ) (line : List ℕ) (lines : List (List ℕ)) (old new : WorldModel) where
  abbrev After : ScriptedWorld → List Done → PlayEnd → ScriptedWorld → Type 0
  After between later how last = Plays between (number + 1) lines later how last

  fault_plays : (fault : LineFault) → StopsLine at line (stop.Fault fault) old new → Plays at number (line ∷ lines) [] (ended.Line number fault) at × (new ≡ old)
  fault_plays fault stops = ⊎_elim
      (λ unread. (inr (subst (λ (told : Result (Option Event) LineFault). PlaysLine told number After at [] (ended.Line number fault) at) (sym unread.0) (refl, refl, refl)), unread.1))
      (λ (event, is, faults). (
        inr
            (subst (λ (told : Result (Option Event) LineFault). PlaysLine told number After at [] (ended.Line number fault) at) (sym is)
            (subst (λ (found : Option LineFault). PlaysEvent found event number After at [] (ended.Line number fault) at) (sym faults.0) (refl, refl, refl))),
        faults.1,
      ))
      stops

  spent_plays : StopsLine at line stop.Spent old new → Plays at number (line ∷ lines) [] (ended.Spent number) at × (new ≡ old)
  spent_plays (event, is, spends) = (
    inr
        (subst (λ (told : Result (Option Event) LineFault). PlaysLine told number After at [] (ended.Spent number) at) (sym is)
        (subst (λ (found : Option LineFault). PlaysEvent found event number After at [] (ended.Spent number) at) (sym spends.0) (spends.1, refl, refl))),
    spends.2,
  )

module _ (before : ScriptedWorld) (middle : WorldModel) (old new : List ℕ) (number : ℕ) (lines all : List (List ℕ)) (progress : Progress before middle old new number lines all) where
  played : (end : PlayEnd) (left : WorldModel) → Plays progress.after (number + 1) lines [] end progress.after → (end ≢ ended.NoMemory → left ≡ middle) → (end ≡ ended.NoMemory → left.is_wanting ≡ true)
      → Played before all end left old new
  played end left plays kept wants =
      let all_plays = subst (λ (story : List Done). Plays before 1 all story end progress.after) (append-nil progress.story) (progress.plays [] end progress.after plays) in
      record {
        told = story_text progress.story;
        run = record {
          story = progress.story;
          after = progress.after;
          plays = all_plays;
          text_is = refl;
          found = progress.found;
          promised =
              keeps_word before.world.scene.cluster before progress.begins.0 progress.begins.1 progress.story progress.after (plays_does before 1 all progress.story end progress.after all_plays);
          full = ends_in_full before progress.story progress.stood;
        };
        text = progress.text;
        stands = λ goes. subst (λ (world : WorldModel). StandsFor world progress.after) (sym (kept goes)) progress.stands;
        wants = wants;
      }

  -- no line is left
  pub played_done : lines ≡ [] → Played before all ended.Done middle old new
  played_done none =
      played ended.Done middle (subst (λ (rest : List (List ℕ)). Plays progress.after (number + 1) rest [] ended.Done progress.after) (sym none) (inr (refl, refl, refl))) (λ goes. refl) (λ is. absurd (cc))

  -- memory was wanted
  pub played_part : (left : WorldModel) → left.is_wanting ≡ true → Played before all ended.NoMemory left old new
  played_part left wants = played ended.NoMemory left (none_plays progress.after (number + 1) lines) (λ goes. absurd (goes refl)) (λ is. wants)

  module _ (line : List ℕ) (later : List (List ℕ)) (first : lines ≡ line ∷ later) (left : WorldModel) where
    -- the next line is faulty
    pub played_line : (fault : LineFault) → StopsLine progress.after line (stop.Fault fault) middle left → Played before all (ended.Line (number + 1) fault) left old new
    played_line fault stops =
        let (plays, kept) = fault_plays progress.after (number + 1) line later middle left fault stops in
        played (ended.Line (number + 1) fault) left
        (subst (λ (rest : List (List ℕ)). Plays progress.after (number + 1) rest [] (ended.Line (number + 1) fault) progress.after) (sym first) plays) (λ goes. kept) (λ it. absurd (cc))

    -- it was to draw a stamp
    pub played_spent : StopsLine progress.after line stop.Spent middle left → Played before all (ended.Spent (number + 1)) left old new
    played_spent stops =
        let (plays, kept) = spent_plays progress.after (number + 1) line later middle left stops in
        played (ended.Spent (number + 1)) left (subst (λ (rest : List (List ℕ)). Plays progress.after (number + 1) rest [] (ended.Spent (number + 1)) progress.after) (sym first) plays) (λ goes. kept) (λ it. absurd (cc))
