use Rattle.std.proofs.Common.{◌≡◌, ◌≤◌, ◌+◌, ℕ, Bool, cond, List, [], ◌∷◌, ◌++◌, None, Some, drop, get_or, string_bytes, take, sym, ap, subst, ◌∙◌, arith}
use Rattle.std.proofs.lemmas.Result.{err_from_is_err_and}
use Rattle.sw_disk.specs.Answers.{HasFile, names_of, texts_of}
use Rattle.sw_disk.specs.Calls.{Call, RemoveFile}
use Rattle.sw_disk.specs.Folder.{files_of}
use Rattle.sw_disk.specs.Runs.{IfTold, Runs}
use Rattle.sw_disk.proofs.Chains.{runs_more, runs_none, runs_stop, told_map}
use Rattle.sw_disk.proofs.Images.{same_name-refl}
use Rattle.sw_diskfile.specs.Normal.{AreObsolete}
use Rattle.sw_diskfile.proofs.Lists.{Contains-first}
use Rattle.sw_diskfile.proofs.Normal.{removals_there}
use Rattle.sw_diskfile.proofs.Removing.{all_removals, more_removals, next_text, removals, removed}
use Rattle.sw_diskfile.proofs.purging.remove_all.Goals as goal

pub loop-name-init : goal.loop-name-init
loop-name-init g c = record {
  runs = runs_none g.D.Disk.seen g.D.Disk.left_since c.args.disk.now;
  obsolete = c.requires.obsolete;
  room = let room = c.requires.room in omega (arith, room);
}

pub remove-requires-clause-there : goal.remove-requires-clause-there
remove-requires-clause-there g c =
    let names = c.args.obsolete.now in
    let i = c.loop-name.name-index in
    let name = c.name-item.result in
    let rest = texts_of (drop (i + 1) names) in
    let next = next_text c.args.folder.now names i name c.loop-name-test.true in
    let text : string_bytes (get_or names i name) ≡ c.as_str.result.now = sym (c.as_str.ensures.value ∙ ap string_bytes c.name-item.is) in
    let are = subst (λ (l : List (List ℕ)). IfTold (g.D.Disk.seen c.loop-name.disk).told (λ s. AreObsolete c.args.is_primary (names_of (files_of (s.folder c.args.folder.now))) l)) (next ∙ ap (λ (t : List ℕ). t ∷ rest) text) c.loop-name.invariant.obsolete in
    told_map (g.D.Disk.seen c.loop-name.disk).told (λ s. AreObsolete c.args.is_primary (names_of (files_of (s.folder c.args.folder.now))) (c.as_str.result.now ∷ rest)) (λ s. HasFile s c.args.folder.now c.as_str.result.now) are
    (λ s obsolete. removals_there c.args.is_primary (c.as_str.result.now ∷ rest) (files_of (s.folder c.args.folder.now)) obsolete c.as_str.result.now (Contains-first c.as_str.result.now rest))

pub remove-requires-clause-room : goal.remove-requires-clause-room
remove-requires-clause-room g c = let room = c.loop-name.invariant.room in let less = c.loop-name-test.true in omega (arith, room, less)

pub loop-name-preserved : goal.loop-name-preserved
loop-name-preserved g c =
    let folder = c.args.folder.now in
    let names = c.args.obsolete.now in
    let i = c.loop-name.name-index in
    let name = c.name-item.result in
    let less = c.loop-name-test.true in
    let rest = texts_of (drop (i + 1) names) in
    let text : c.as_str.result.now ≡ string_bytes (get_or names i name) = c.as_str.ensures.value ∙ ap string_bytes c.name-item.is in
    let step = subst (λ (t : List ℕ). Runs g.D.Disk.seen g.D.Disk.left_since (RemoveFile folder t ∷ []) None c.loop-name.disk c.remove.new.self) text c.in_ok-remove.ensures.runs in
    let runs = runs_more g.D.Disk.seen g.D.Disk.left_since (removals folder (take i names)) (RemoveFile folder (string_bytes (get_or names i name)) ∷ []) None c.args.disk.now c.loop-name.disk c.remove.new.self c.loop-name.invariant.runs step in
    let are = subst (λ (l : List (List ℕ)). IfTold (g.D.Disk.seen c.loop-name.disk).told (λ s. AreObsolete c.args.is_primary (names_of (files_of (s.folder folder))) l)) (next_text folder names i name less) c.loop-name.invariant.obsolete in
    let taken : (g.D.Disk.seen c.loop-name.disk).room folder ≤ (g.D.Disk.seen c.remove.new.self).room folder + 1 =
    subst (λ (b : Bool). (g.D.Disk.seen c.loop-name.disk).room folder ≤ (g.D.Disk.seen c.remove.new.self).room folder + cond b 1 0) (same_name-refl folder) (c.in_ok-remove.ensures.room folder) in
    let room = c.loop-name.invariant.room in
    record {
      runs = subst (λ (l : List Call). Runs g.D.Disk.seen g.D.Disk.left_since l None c.args.disk.now c.remove.new.self) (more_removals folder names i name less) runs;
      obsolete = removed g.D.Disk.seen g.D.Disk.left_since folder (string_bytes (get_or names i name)) rest c.args.is_primary c.loop-name.disk c.remove.new.self step are;
      room = omega (arith, room, taken);
    }

pub returns-in_err-remove-clause-runs : goal.returns-in_err-remove-clause-runs
returns-in_err-remove-clause-runs g c =
    let p = err_from_is_err_and c.from_residual.result c.from_residual.ensures.1 in
    let folder = c.args.folder.now in
    let names = c.args.obsolete.now in
    let i = c.loop-name.name-index in
    let name = c.name-item.result in
    let less = c.loop-name-test.true in
    let text : c.as_str.result.now ≡ string_bytes (get_or names i name) = c.as_str.ensures.value ∙ ap string_bytes c.name-item.is in
    let last = removals folder (drop (i + 1) names) in
    let calls : (removals folder (take i names) ++ RemoveFile folder c.as_str.result.now ∷ []) ++ last ≡ removals folder names =
    ap (λ (t : List ℕ). (removals folder (take i names) ++ RemoveFile folder t ∷ []) ++ last) text ∙ ap (λ (l : List Call). l ++ last) (more_removals folder names i name less) ∙ sym (all_removals folder names i name less) in
    let runs = runs_more g.D.Disk.seen g.D.Disk.left_since (removals folder (take i names)) (RemoveFile folder c.as_str.result.now ∷ []) (Some c.in_err-remove.field-0.0) c.args.disk.now c.loop-name.disk c.remove.new.self c.loop-name.invariant.runs c.in_err-remove.ensures.runs in
    rw (p.1, p.2) (subst (λ (l : List Call). Runs g.D.Disk.seen g.D.Disk.left_since l (Some c.in_err-remove.field-0.0) c.args.disk.now c.remove.new.self) calls
    (runs_stop g.D.Disk.seen g.D.Disk.left_since (removals folder (take i names) ++ RemoveFile folder c.as_str.result.now ∷ []) last c.in_err-remove.field-0.0 c.args.disk.now c.remove.new.self runs))
