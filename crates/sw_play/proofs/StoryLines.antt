-- The lines of a story, and the worlds before them, as one more line is done.
use Rattle.std.proofs.Common.{◌≡◌, ◌⊎◌, inl, inr, ⊎_elim, List, [], ◌∷◌, ◌++◌, refl, ap, subst}
use Rattle.sw_sim_world.specs.Doing.{DoesEvent, Done}
use Rattle.sw_sim_world.specs.ScriptedWorld.{ScriptedWorld}
use Rattle.sw_sim_world.specs.Standing.{StandsFor, WorldModel}
use Rattle.sw_play.specs.Full.{IsLineOf, after_lines}

-- worlds of the program stood for the worlds before and after a line
pub record StoodFor (before : ScriptedWorld) (done : Done) : Type 0 where
  pub earlier : WorldModel
  pub stood : StandsFor earlier before
  pub later : WorldModel
  pub stands : StandsFor later done.after
  pub does : DoesEvent before done

-- so it is of each line of a story
abbrev pub AllStoodFor : ScriptedWorld → List Done → Type 0
AllStoodFor first story = (before : ScriptedWorld) (done : Done) → IsLineOf first story before done → StoodFor before done

-- one more line leads to its world
pub after_more : (first : ScriptedWorld) (story : List Done) (last : Done) → after_lines first (story ++ last ∷ []) ≡ last.after
after_more first [] last = refl
after_more first (done ∷ story) last = after_more done.after story last

-- a list with a line has some
never_none : (done : Done) (back front : List Done) → [] ≡ front ++ done ∷ back → ⊥
never_none done back [] same = absurd (cc)
never_none done back (first ∷ front) same = absurd (cc)

-- a line of what follows another one is one of both
line_later : (first : ScriptedWorld) (one : Done) (story : List Done) (before : ScriptedWorld) (done : Done) → IsLineOf one.after story before done → IsLineOf first (one ∷ story) before done
line_later first one story before done line = record { front = one ∷ line.front; back = line.back; is = ap (λ (these : List Done). one ∷ these) line.is; before_is = line.before_is }

module _ (last : Done) (before : ScriptedWorld) (done : Done) (back : List Done) where
  -- a line stood there already, or is the last
  by_front : (first : ScriptedWorld) (story front : List Done) → story ++ last ∷ [] ≡ front ++ done ∷ back → before ≡ after_lines first front → IsLineOf first story before done ⊎ ((before ≡ after_lines first story) × (last ≡ done))
  by_front first [] [] same is = inr (is, cc)
  by_front first [] (one ∷ front) same is = let none : [] ≡ front ++ done ∷ back = cc in absurd (never_none done back front none)
  by_front first (one ∷ story) [] same is =
      let this : one ≡ done = cc in
      inl (record { front = []; back = story; is = ap (λ (it : Done). it ∷ story) this; before_is = is })
  by_front first (one ∷ story) (other ∷ front) same is =
      let back_to : other ≡ one = cc in
      let rest : story ++ last ∷ [] ≡ front ++ done ∷ back = cc in
      ⊎_elim
      (λ old. inl (line_later first one story before done old))
      (λ new. inr new)
      (by_front one.after story front rest (subst (λ (it : Done). before ≡ after_lines it.after front) back_to is))

pub line_cases : (first : ScriptedWorld) (story : List Done) (last : Done) (before : ScriptedWorld) (done : Done) → IsLineOf first (story ++ last ∷ []) before done → IsLineOf first story before done ⊎ ((before ≡ after_lines first story) × (last ≡ done))
line_cases first story last before done line = by_front last before done line.back first story line.front line.is line.before_is

-- no line stands in a story without any
pub no_line : (first before : ScriptedWorld) (done : Done) → IsLineOf first [] before done → ⊥
no_line first before done line = never_none done line.back line.front line.is
