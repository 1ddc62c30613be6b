use Rattle.std.proofs.Common.{◌∙◌, ◌++◌, [], ap, List, ℕ}
use Rattle.sw_archive.specs.Header.{HeaderModel, opening}
use Rattle.sw_archive.proofs.Openings.{opening_added}
use Rattle.sw_archive.proofs.header.Header.write.Goals as goal

pub returns : goal.returns
returns c =
    let h = c.self.inside in
    opening_added (record {
      magic = h.magic;
      version = h.version;
      k = h.k;
      m = h.m;
      index = h.index;
      segment = h.segment;
      stamp = h.stamp;
      body_length = h.body_length;
      body_md5 = h.body_md5;
      path_length = h.path_length;
      head_length = h.head_length;
      payload_length = h.payload_length;
    }) c.args.out.now.items _ _ _ _ _ _ _ _ _
    c.in_ok-extend_from_slice.ensures.items
    c.in_ok-extend_from_slice-2.ensures.items
    (c.in_ok-extend_from_slice-3.ensures.items ∙ ap (λ (t : List ℕ). c.extend_from_slice-2.new.self.items ++ t) c.to_be_bytes.ensures)
    (c.in_ok-extend_from_slice-4.ensures.items ∙ ap (λ (t : List ℕ). c.extend_from_slice-3.new.self.items ++ t) c.to_be_bytes-2.ensures)
    (c.in_ok-extend_from_slice-5.ensures.items ∙ ap (λ (t : List ℕ). c.extend_from_slice-4.new.self.items ++ t) c.to_be_bytes-3.ensures)
    c.in_ok-extend_from_slice-6.ensures.items
    (c.in_ok-extend_from_slice-7.ensures.items ∙ ap (λ (t : List ℕ). c.extend_from_slice-6.new.self.items ++ t) c.to_be_bytes-4.ensures)
    (c.in_ok-extend_from_slice-8.ensures.items ∙ ap (λ (t : List ℕ). c.extend_from_slice-7.new.self.items ++ t) c.to_be_bytes-5.ensures)
    (c.in_ok-extend_from_slice-9.ensures.items ∙ ap (λ (t : List ℕ). c.extend_from_slice-8.new.self.items ++ t) c.to_be_bytes-6.ensures)
    ∙ ap (λ (header : HeaderModel). c.args.out.now.items ++ opening header []) c.self.view_is
