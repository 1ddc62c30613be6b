use Rattle.std.proofs.Common.{◌==◌}
use Rattle.sw_script.proofs.WordCounts.{more_than_four, parts_of_cut}
use Rattle.sw_script.proofs.words.words_in.Goals as goal

pub returns-in-Some-rest-3 : goal.returns-in-Some-rest-3
returns-in-Some-rest-3 c = more_than_four (λ byte. byte == 32) c.args.text.now c.in-Some.rest.now c.in-Some-rest.rest.now c.in-Some-rest-2.rest.now c.in-Some-rest-3.field-0.now _ _ _ _
    (parts_of_cut _ _ _ _ c.in-Some.rest c.cut_at.ensures.cut c.in-Some.is)
    (parts_of_cut _ _ _ _ c.in-Some-rest.rest c.cut_at-2.ensures.cut c.in-Some-rest.is)
    (parts_of_cut _ _ _ _ c.in-Some-rest-2.rest c.cut_at-3.ensures.cut c.in-Some-rest-2.is)
    (parts_of_cut _ _ _ _ c.in-Some-rest-3.field-0 c.cut_at-4.ensures.cut c.in-Some-rest-3.is)
