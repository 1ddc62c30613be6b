use Rattle.std.proofs.Common.{rules, sym, subst}
use Rattle.sw_words.specs.Bytes.{IsBytes}
use Rattle.sw_words.proofs.ByteLists.{IsBytes-drop, IsBytes-take}
use Rattle.sw_archive.proofs.reading.check_behind.Goals as goal

pub invariant_of-result : goal.invariant_of-result
invariant_of-result c =
    let bytes : IsBytes c.args.rest.now = search rules in
    let path = c.split_at.ensures.back in
    let head = c.split_at-2.ensures.back in
    let payload = c.split_at-3.ensures.front in
    record {
      code = search rules;
      index = search rules;
      stamp = search rules;
      body_length = search rules;
      body_md5 = search rules;
      name = search rules;
      head = search rules;
      payload = search rules;
      bytes = subst IsBytes (sym payload) (IsBytes-take _ _ (subst IsBytes (sym head) (IsBytes-drop _ _ (subst IsBytes (sym path) (IsBytes-drop _ _ bytes)))));
    }
