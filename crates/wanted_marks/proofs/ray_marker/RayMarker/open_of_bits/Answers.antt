use Rattle.std.proofs.Common.{◌≡◌, ℕ, ◌+◌, ◌<◌, true, subst}
use Rattle.std.specs.Option.{MatchOption}
use Rattle.ray_grid.specs.Lattice.{point_of}
use Rattle.vf_spans.specs.Words.{has_bit}
use Rattle.wanted_marks.specs.Opens.{AreOpenAt}
use Rattle.wanted_marks.specs.Rays.{IsClearOf, RayOf}
use Rattle.wanted_marks.proofs.BitLemmas.{none_set}
use Rattle.wanted_marks.proofs.Opening.{bits_open}
use Rattle.wanted_marks.proofs.ray_marker.RayMarker.open_of_bits.Goals as goal

pub returns-then-bits-eq0 : goal.returns-then-bits-eq0
returns-then-bits-eq0 c = λ b below set. none_set c.args.bits b c.if-bits-eq0.true set

pub returns : goal.returns
returns c =
    let a = c.args in let s = c.self.inside in let found = c.open_stretch.result in
    subst (λ (r : RayOf). MatchOption found ((b : ℕ) → b < 64 → has_bit a.bits b ≡ true → IsClearOf r.sweep (point_of r.grid r.ray (a.first + b))) (λ x. AreOpenAt x r a.first a.bits)) c.self.view_is
    (bits_open found record { sweep = s.mover.now; grid = s.grid.now; ray = s.ray } a.first a.bits c.lowest_bit.result c.highest_bit.result c.lowest_bit.ensures.within c.lowest_bit.ensures.set c.lowest_bit.ensures.lowest c.highest_bit.ensures.highest c.open_stretch.ensures)
