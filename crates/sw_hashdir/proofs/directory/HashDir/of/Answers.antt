use Rattle.std.proofs.Common.{◌≡◌, ◌<◌, ◌≤◌, ◌+◌, ◌++◌, ◌∷◌, [], ℕ, List, map, string_bytes, take, get_or, length, sym, ap, ◌∙◌, subst, arith}
use Rattle.std.proofs.lemmas.List.{get_or-map, length-map, take_all, take_more}
use Rattle.std.proofs.lemmas.Option.{same_Some}
use Rattle.sw_hashdir.specs.Directory.{IsDirectory}
use Rattle.sw_hashdir.proofs.Directories.{added, left_out, put_in, same_directory}
use Rattle.sw_hashdir.proofs.directory.HashDir.of.Goals as goal
use Rattle.sw_hashdir.proofs.directory.HashDir.of.Goals.{After-put_in_order, After-read, in-Some+in_ok-push, in_default}

-- the texts once this one was read
one_more : (c : After-read) → take (c.loop-text.text-index + 1) (map string_bytes c.args.texts.now) ≡ take c.loop-text.text-index (map string_bytes c.args.texts.now) ++ c.as_str.result.now ∷ []
one_more c =
    let texts = c.args.texts.now in
    let lt : c.loop-text.text-index < length (map string_bytes texts) = omega (arith, length-map texts string_bytes, c.loop-text-test.true) in
    let text : get_or (map string_bytes texts) c.loop-text.text-index c.as_str.result.now ≡ c.as_str.result.now
    = get_or-map string_bytes texts c.loop-text.text-index c.text-item.result c.as_str.result.now c.loop-text-test.true ∙ sym (ap string_bytes c.text-item.is) ∙ sym c.as_str.ensures.value in
    take_more (map string_bytes texts) c.loop-text.text-index c.as_str.result.now lt
    ∙ ap (λ (t : List ℕ). take c.loop-text.text-index (map string_bytes texts) ++ t ∷ []) text

pub loop-text-preserved : goal.loop-text-preserved
loop-text-preserved c =
    let more = one_more (goal.at.loop-text-preserved c).After-read in
    let texts = take c.loop-text.text-index (map string_bytes c.args.texts.now) in
    let so_far = c.loop-text.invariant in
    elim c.match-read.branch [
      | in-Some+in_ok-push w ↦ rw (w.names-is, more) (put_in texts c.as_str.result.now c.loop-text.names.items so_far w.in-Some.name w.push.new.self.items w.in-Some.ensures.found w.in-Some.ensures.text
          (λ name is_name spelt. same_Some _ _ (sym (c.read.ensures.reads name is_name spelt) ∙ w.in-Some.is))
          (added w.in-Some.name c.loop-text.names.items w.push.new.self.items w.push.new.self.items w.in_ok-push.ensures.items (λ name. (λ has. has, λ has. has))))
      | in_default w ↦ rw (w.names-is, more) (left_out texts c.as_str.result.now c.loop-text.names.items so_far (λ name is_name spelt. w.in_default.not-Some name (c.read.ensures.reads name is_name spelt)))
    ]

-- the directory of all the texts, once each was read
whole : (c : After-put_in_order) → IsDirectory (map string_bytes c.args.texts.now) c.put_in_order.new.names.items
whole c =
    let texts = c.args.texts.now in
    let le : length (map string_bytes texts) ≤ c.loop-text.text-index = omega (arith, length-map texts string_bytes, c.loop-text-test.false) in
    same_directory (map string_bytes texts) c.loop-text.names.items c.put_in_order.new.names.items
    (subst (λ (read : List (List ℕ)). IsDirectory read c.loop-text.names.items) (take_all c.loop-text.text-index (map string_bytes texts) le) c.loop-text.invariant) c.put_in_order.ensures.same

pub invariant_of-result : goal.invariant_of-result
invariant_of-result c = record {
  ascend = c.put_in_order.ensures.ascend;
  named = λ name has. ((whole (goal.at.invariant_of-result c).After-put_in_order name).0 has).0;
}

pub returns : goal.returns
returns c = whole (goal.at.returns c).After-put_in_order
