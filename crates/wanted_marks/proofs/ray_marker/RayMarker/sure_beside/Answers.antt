-- A bit of the result is one that is known, or one of those below or above.
use Rattle.wanted_marks.proofs.BitLemmas.{set_in_three, set_without}
use Rattle.wanted_marks.proofs.ray_marker.RayMarker.sure_beside.Goals as goal

pub returns-clause-wanted : goal.returns-clause-wanted
returns-clause-wanted c = λ b lt set.
    set_in_three c.args.known c.sure_on_sides-below.result c.sure_on_sides-above.result b _ set
    (c.requires.among b lt)
    (λ h. set_without c.args.wanted c.args.known c.bits_without.result b (c.bits_without.ensures b lt)
    (c.beside-sides.ensures.below b lt (c.sure_on_sides-below.ensures.wanted b lt h)))
    (λ h. set_without c.args.wanted c.args.known c.bits_without.result b (c.bits_without.ensures b lt)
    (c.beside-sides.ensures.above b lt (c.sure_on_sides-above.ensures.wanted b lt h)))

pub returns-clause-sure : goal.returns-clause-sure
returns-clause-sure c = λ b lt set.
    set_in_three c.args.known c.sure_on_sides-below.result c.sure_on_sides-above.result b _ set
    (c.requires.known b lt) (c.sure_on_sides-below.ensures.sure b lt) (c.sure_on_sides-above.ensures.sure b lt)
