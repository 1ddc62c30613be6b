use Rattle.std.proofs.Common.{◌<◌, ◌^◌, ◌++◌, ◌∙◌, List, ℕ, length, ap, arith}
use Rattle.sw_archive.proofs.Heads.{length-head}
use Rattle.sw_archive.proofs.Labels.{label_opened}
use Rattle.sw_archive.proofs.label.Label.open.Goals as goal

pub overflow_cast-len-2 : goal.overflow_cast-len-2
overflow_cast-len-2 c =
    let bytes : length c.in_ok-head.head.items < 2 ^ 16 = rw c.in_ok-head.ensures.bytes (length-head _ c.in_ok-head.ensures.sound) in
    omega (arith, c.in_ok-head.head.ok.0)

pub returns : goal.returns
returns c =
    label_opened c.args.self.now c.in_ok-path.path c.in_ok-head.head.items _ _ _ _ c.header-header.result c.len.result c.len-2.result
    c.in_ok-path.ensures.text c.in_ok-head.ensures.bytes c.len.ensures (c.len-2.ensures ∙ c.in_ok-head.head.ok.0) c.header-header.ensures
    c.in_ok-bytes.ensures.items c.in_ok-write.ensures
    (c.in_ok-extend_from_slice.ensures.items ∙ ap (λ (bytes : List ℕ). c.write.new.out.items ++ bytes) c.as_slice.ensures)
    (c.in_ok-extend_from_slice-2.ensures.items ∙ ap (λ (bytes : List ℕ). c.extend_from_slice.new.self.items ++ bytes) c.deref.ensures.value)
