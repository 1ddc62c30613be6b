use Rattle.std.proofs.Common.{ℕ, List, [], ◌∷◌, ◌++◌, get_or, map, string_bytes, take, sym, ap, ◌∙◌, arith}
use Rattle.std.proofs.lemmas.List.{map_push, take_all, take_more}
use Rattle.sw_disk.specs.Answers.{texts_of}
use Rattle.sw_hashpath.specs.FileName.{file_name_text}
use Rattle.sw_diskfile.proofs.ObsoleteTexts.{printed_all, printed_ascend, printed_short}
use Rattle.sw_diskfile.proofs.purging.obsolete_texts.Goals as goal

pub loop-name-preserved : goal.loop-name-preserved
loop-name-preserved c =
    let names = c.deref-name-items.result.now in
    let i = c.loop-name.name-index in
    let name = c.name-item.result in
    ap texts_of c.in_ok-push.ensures.items ∙ map_push string_bytes c.loop-name.texts.items c.in_ok-print.field-0
    ∙ ap (λ (ts : List (List ℕ)). ts ++ string_bytes c.in_ok-print.field-0 ∷ []) c.loop-name.invariant
    ∙ ap (λ (t : List ℕ). map file_name_text (take i names) ++ t ∷ []) (c.in_ok-print.ensures ∙ ap file_name_text c.name-item.is)
    ∙ sym (map_push file_name_text (take i names) (get_or names i name))
    ∙ ap (map file_name_text) (sym (take_more names i name c.loop-name-test.true))

pub returns-clause-all : goal.returns-clause-all
returns-clause-all c =
    let all = take_all c.loop-name.name-index c.deref-name-items.result.now (omega (arith, c.loop-name-test.false)) in
    printed_all c.loop-name.texts.items c.in_ok-obsolete.field-0.items (c.loop-name.invariant ∙ ap (map file_name_text) (all ∙ c.deref-name-items.ensures.value)) c.args.is_primary c.args.dir.now c.in_ok-obsolete.ensures.names

pub returns-clause-ascend : goal.returns-clause-ascend
returns-clause-ascend c =
    let all = take_all c.loop-name.name-index c.deref-name-items.result.now (omega (arith, c.loop-name-test.false)) in
    printed_ascend c.loop-name.texts.items c.in_ok-obsolete.field-0.items (c.loop-name.invariant ∙ ap (map file_name_text) (all ∙ c.deref-name-items.ensures.value)) c.in_ok-obsolete.ensures.ascend

pub returns-clause-short : goal.returns-clause-short
returns-clause-short c =
    let all = take_all c.loop-name.name-index c.deref-name-items.result.now (omega (arith, c.loop-name-test.false)) in
    printed_short c.loop-name.texts.items c.in_ok-obsolete.field-0.items (c.loop-name.invariant ∙ ap (map file_name_text) (all ∙ c.deref-name-items.ensures.value)) c.in_ok-obsolete.ensures.named
