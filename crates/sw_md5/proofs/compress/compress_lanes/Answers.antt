use Rattle.std.proofs.Common.{◌∷◌, [], refl, ap, ◌∙◌}
use Rattle.md5.specs.Md5.{compress, rounds, add_state}
use Rattle.sw_md5.specs.Side.{lane_of}
use Rattle.sw_md5.proofs.compress.compress_lanes.Goals as goal

pub returns : goal.returns
unfolding compress rounds
returns g c = λ j block l has.
    let h = lane_of g.V.Lanes.lane c.args.state.now j in
    let s1 = c.four_steps-s.ensures j h block l has refl in
    let s2 = c.four_steps-s-2.ensures j h block l has s1 in
    let s3 = c.four_steps-s-3.ensures j h block l has s2 in
    let s4 = c.four_steps-s-4.ensures j h block l has s3 in
    let s5 = c.four_steps-s-5.ensures j h block l has s4 in
    let s6 = c.four_steps-s-6.ensures j h block l has s5 in
    let s7 = c.four_steps-s-7.ensures j h block l has s6 in
    let s8 = c.four_steps-s-8.ensures j h block l has s7 in
    let s9 = c.four_steps-s-9.ensures j h block l has s8 in
    let s10 = c.four_steps-s-10.ensures j h block l has s9 in
    let s11 = c.four_steps-s-11.ensures j h block l has s10 in
    let s12 = c.four_steps-s-12.ensures j h block l has s11 in
    let s13 = c.four_steps-s-13.ensures j h block l has s12 in
    let s14 = c.four_steps-s-14.ensures j h block l has s13 in
    let s15 = c.four_steps-s-15.ensures j h block l has s14 in
    let s16 = c.four_steps-s-16.ensures j h block l has s15 in
    (λ t. c.plus.ensures j l t ∷ c.plus-2.ensures j l t ∷ c.plus-3.ensures j l t ∷ c.plus-4.ensures j l t ∷ []) ∙ ap (add_state h) s16
