-- A bit of the result is one of the first sample's, or of those below or above.
use Rattle.wanted_marks.proofs.BitLemmas.{set_in_three, set_without}
use Rattle.wanted_marks.proofs.ray_marker.RayMarker.sure_on_sides.Goals as goal

pub returns-clause-wanted : goal.returns-clause-wanted
returns-clause-wanted c = λ b lt set.
    set_in_three c.sure_bits-sure.result c.sure_bits-below.result c.sure_bits-above.result b _ set
    (c.sure_bits-sure.ensures.wanted b lt)
    (λ h. set_without c.args.wanted c.sure_bits-sure.result c.bits_without.result b (c.bits_without.ensures b lt)
    (c.beside-sides.ensures.below b lt (c.sure_bits-below.ensures.wanted b lt h)))
    (λ h. set_without c.args.wanted c.sure_bits-sure.result c.bits_without.result b (c.bits_without.ensures b lt)
    (c.beside-sides.ensures.above b lt (c.sure_bits-above.ensures.wanted b lt h)))

pub returns-clause-sure : goal.returns-clause-sure
returns-clause-sure c = λ b lt set.
    set_in_three c.sure_bits-sure.result c.sure_bits-below.result c.sure_bits-above.result b _ set
    (c.sure_bits-sure.ensures.sure b lt) (c.sure_bits-below.ensures.sure b lt) (c.sure_bits-above.ensures.sure b lt)
