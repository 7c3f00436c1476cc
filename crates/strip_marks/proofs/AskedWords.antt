-- Of the wanted points of a word of a ray, the candidates are all that the move's cylinder holds, and none that it doesn't hold where
-- it is widest.
use Rattle.std.proofs.Common.{◌≡◌, ℕ, ◌+◌, ◌*◌, ◌<◌, ◌≤◌, true, ◌&&◌, arith, sym, ap₂, ◌∙◌, ⊎_elim}
use Rattle.std.proofs.lemmas.Bool.{and_parts, cases_lt}
use Rattle.vf_spans.specs.Members.{in_range}
use Rattle.vf_spans.specs.Words.{has_bit}
use Rattle.ray_grid.specs.Lattice.{points_of}
use Rattle.near_points.specs.Rays.{AreOnRay, CylinderRayOf, IsHeldBit, IsKeptBit}
use Rattle.dexel_rays.specs.Sets.{Sets}
use Rattle.ray_words.specs.Rays.{HasAllWanted, is_wanted_at}
use Rattle.strip_marks.specs.RayMarks.{AreAskedIn, HasNoneAsked, IsAskedAt, IsUnasked}
use Rattle.strip_marks.proofs.AtWords.{AreWantedIn, in_range_below, none_asked}

-- they are points of the ray
pub wanted_on_ray : (near : CylinderRayOf) (d : Sets) (window : ℕ × ℕ) (n wanted : ℕ) → window.1 ≤ points_of near.grid near.ray.family
    → AreWantedIn d n window.0 window.1 wanted → AreOnRay near (64 * n) wanted
wanted_on_ray near d window n wanted on is b lt t =
    let both = and_parts (is_wanted_at d (64 * n + b)) (in_range (64 * n + b) window) (sym (is b lt) ∙ t) in
    let below = in_range_below window.0 window.1 (64 * n + b) both.1 in
    omega (arith, below, on)

pub held_asked : (near : CylinderRayOf) (d : Sets) (window : ℕ × ℕ) (n wanted held : ℕ) → AreWantedIn d n window.0 window.1 wanted
    → ((b : ℕ) → b < 64 → IsKeptBit near (64 * n) wanted b → has_bit held b ≡ true)
    → ((b : ℕ) → b < 64 → has_bit held b ≡ true → IsHeldBit near (64 * n) wanted b) → AreAskedIn near d window n held
held_asked near d window n wanted held is all only = record {
  all = λ b lt at. all b lt (is b lt ∙ ap₂ (λ x y. x && y) at.wanted at.in_window, at.kept);
  only = λ b lt t.
      let at = only b lt t in
      let l = 64 * n + b in
      let both = and_parts (is_wanted_at d l) (in_range l window) (sym (is b lt) ∙ at.0) in
      record { wanted = both.0; in_window = both.1; held = at.1 };
}

-- before the word after one that has no candidate there is none, where before that one there is none
pub none_asked_next : (near : CylinderRayOf) (d : Sets) (window : ℕ × ℕ) (n asked : ℕ) → HasNoneAsked near d window n → 64 * n < window.1
    → AreAskedIn near d window n asked → asked ≡ 0 → HasNoneAsked near d window (n + 1)
none_asked_next near d window n asked ahead inside is zero = record {
  from = omega (arith, ahead.from);
  to = omega (arith, inside);
  none = λ l lt.
      ⊎_elim (λ (before : l < 64 * n). ahead.none l before) (λ (here : 64 * n ≤ l). none_asked near d window n asked is zero l here lt)
      (cases_lt l (64 * n));
}

-- a range that has each wanted index of a window has each candidate of it
pub asked_left : (near : CylinderRayOf) (d : Sets) (window left : ℕ × ℕ) (l : ℕ) → HasAllWanted d window left → IsAskedAt near d window l
    → IsAskedAt near d left l
asked_left near d window left l has at = record { wanted = at.wanted; in_window = has.all l at.in_window at.wanted; kept = at.kept }

-- where none of it is a candidate, none of the window is one
pub unasked_left : (near : CylinderRayOf) (d : Sets) (window left : ℕ × ℕ) → HasAllWanted d window left → IsUnasked near d left
    → IsUnasked near d window
unasked_left near d window left has none l at = none l (asked_left near d window left l has at)
