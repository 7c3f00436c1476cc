-- Rays on which a window has no candidate.
use Rattle.std.proofs.Common.{◌≡◌, ◌≢◌, ℕ, ◌+◌, ◌*◌, ◌<◌, ◌≤◌, Bool, true, false, ◌&&◌, List, arith, ap₂, subst, ⊎_elim, leb, ltb}
use Rattle.std.proofs.lemmas.Bool.{and_parts, cases_eq, cases_lt, le-leb, lt-ltb}
use borrow.Author.Tests.{leb-true, ltb-true}
use Rattle.vf_spans.specs.Members.{in_range}
use Rattle.near_points.specs.Rays.{CylinderRayOf, CylinderStripOf, IsHeldAt, cylinder_ray_at}
use Rattle.ray_words.specs.Rays.{HasAllWanted, KeptSets}
use Rattle.dexel_rays.specs.Sets.{Sets}
use Rattle.strip_marks.specs.declared.candidate_word.CandidateWord.{CandidateWord}
use Rattle.strip_marks.specs.Marks.{sets_of}
use Rattle.strip_marks.specs.RayMarks.{IsFirstAsked, IsUnasked}
use Rattle.strip_marks.specs.RowMarks.{AreUnasked, IsFirstIn, IsOpenRay}
use Rattle.strip_marks.proofs.AskedWords.{asked_left, unasked_left}

-- an empty range has no candidate, nor has one of which its cylinder holds none
pub unasked_empty : (near : CylinderRayOf) (d : Sets) (range : ℕ × ℕ) → range.1 ≤ range.0 → IsUnasked near d range
unasked_empty near d range le l at =
    let both = and_parts (leb range.0 l) (ltb l range.1) at.in_window in
    omega (arith, le, leb-true range.0 l both.0, ltb-true l range.1 both.1)

not_both : (b : Bool) → b ≡ true → b ≡ false → ⊥
not_both b is isnt = cc

pub unasked_unheld : (near : CylinderRayOf) (d : Sets) (range : ℕ × ℕ) (held : Bool) → ((l : ℕ) → in_range l range ≡ true → IsHeldAt near l → held ≡ true) → held ≡ false
    → IsUnasked near d range
unasked_unheld near d range held each none l at = not_both held (each l at.in_window at.kept.widest) none

-- one such ray more
pub unasked_more : (near : CylinderStripOf) (rays : List KeptSets) (window : ℕ × ℕ) (lo n : ℕ) → AreUnasked near rays window lo n
    → IsUnasked (cylinder_ray_at near n) (sets_of rays n) window → AreUnasked near rays window lo (n + 1)
unasked_more near rays window lo n h here k ge lt =
    ⊎_elim (λ (e : n ≡ k). subst (λ (j : ℕ). IsUnasked (cylinder_ray_at near j) (sets_of rays j) window) e here)
    (λ (ne : n ≢ k). h k ge (omega arith)) (cases_eq n k)

-- on rays up to one and from it on
unasked_both : (near : CylinderStripOf) (rays : List KeptSets) (window : ℕ × ℕ) (lo at n : ℕ) → AreUnasked near rays window lo at → AreUnasked near rays window at n
    → AreUnasked near rays window lo n
unasked_both near rays window lo at n before behind k ge lt =
    ⊎_elim (λ (less : k < at). before k ge less) (λ (more : at ≤ k). behind k more lt) (cases_lt k at)

-- an open ray is passed over where what is left of its window has no candidate
pub open_passed : (near : CylinderStripOf) (rays : List KeptSets) (window : ℕ × ℕ) (lo at hi n : ℕ) (left : ℕ × ℕ) (d : Sets) → d ≡ sets_of rays n
    → AreUnasked near rays window lo at → IsOpenRay near rays window at hi (n, left) → IsUnasked (cylinder_ray_at near n) d left
    → AreUnasked near rays window lo (n + 1)
open_passed near rays window lo at hi n left d same ahead found none =
    unasked_more near rays window lo n (unasked_both near rays window lo at n ahead found.ahead)
    (unasked_left (cylinder_ray_at near n) (sets_of rays n) window left found.left
    (subst (λ (x : Sets). IsUnasked (cylinder_ray_at near n) x left) same none))

in_wider : (d : Sets) (window left : ℕ × ℕ) (l : ℕ) → HasAllWanted d window left → in_range l left ≡ true → in_range l window ≡ true
in_wider d window left l has h =
    let both = and_parts (leb left.0 l) (ltb l left.1) h in
    let from = leb-true left.0 l both.0 in
    let below = ltb-true l left.1 both.1 in
    ap₂ (λ x y. x && y) (le-leb window.0 l (omega (arith, from, has.from))) (lt-ltb l window.1 (omega (arith, below, has.to)))

-- the first word with a candidate of what is left of a window is that of the window
first_in_window : (near : CylinderRayOf) (d : Sets) (window left : ℕ × ℕ) (first : CandidateWord) → HasAllWanted d window left → IsFirstAsked near d left first
    → IsFirstAsked near d window first
first_in_window near d window left first has is = record {
  ahead = record {
    from = omega (arith, has.from, is.ahead.from);
    to = omega (arith, has.to, is.inside);
    none = λ l lt at. is.ahead.none l lt (asked_left near d window left l has at);
  };
  inside = omega (arith, has.to, is.inside);
  asked = record {
    all = λ b lt at. is.asked.all b lt (asked_left near d window left (64 * first.word + b) has at);
    only = λ b lt t.
        let at = is.asked.only b lt t in
        record { wanted = at.wanted; in_window = in_wider d window left (64 * first.word + b) has at.in_window; held = at.held };
  };
}

-- and an open ray with one is the first ray
pub open_first : (near : CylinderStripOf) (rays : List KeptSets) (window : ℕ × ℕ) (lo at hi n : ℕ) (left : ℕ × ℕ) (d : Sets) (first : CandidateWord) → d ≡ sets_of rays n
    → lo ≤ at → AreUnasked near rays window lo at → IsOpenRay near rays window at hi (n, left) → IsFirstAsked (cylinder_ray_at near n) d left first
    → IsFirstIn near rays window lo hi (n, first)
open_first near rays window lo at hi n left d first same from ahead found is = record {
  from = omega (arith, from, found.from);
  below = found.below;
  ahead = unasked_both near rays window lo at n ahead found.ahead;
  asked = first_in_window (cylinder_ray_at near n) (sets_of rays n) window left first found.left
      (subst (λ (x : Sets). IsFirstAsked (cylinder_ray_at near n) x left first) same is);
}
