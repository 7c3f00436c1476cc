-- The early half of a stretch, excluded by the inner slabs where the late one is Possible.
use Rattle.std.proofs.Common.{◌≡◌, not, ℕ, ◌+◌, ◌^◌, ◌≤◌, ◌<◌, List, length, ℤ, arith, refl, subst, sym, ap, ◌∙◌}
use Rattle.space.specs.Sweeps.{SweepOf}
use Rattle.bern_form.specs.Cells.{scaled_square}
use Rattle.bern_form.specs.Forms.{all_negative, difference4, lifted, product22, scaled4}
use Rattle.bern_form.specs.Slab.{SlabSize}
use Rattle.axis_cells.specs.declared.mark.Mark.{Mark}
use Rattle.axis_cells.specs.declared.mark.Mark.TheVariants.{Clear, Possible, Removed}
use Rattle.cutter_slabs.specs.Rising.{IsRising}
use Rattle.box_bisect.specs.Between.{IsMarkBetween, joined_mark}
use Rattle.box_bisect.specs.SlabTests.{TurnsBetween}
use Rattle.box_bisect.proofs.Searching.{free_both, halved, held_early, join_marks, left_late}
use Rattle.width_bisect.specs.Early.{slabs_after, lows_of}
use Rattle.width_bisect.specs.Searches.{IsWidthSearch, is_not_below}
use Rattle.width_bisect.proofs.Lows.{as_many, low_at}

-- whichever slabs they are, they rise and begin where the inner ones do
pub after_rises : (late : Mark) (inner outer slabs : List SlabSize) → slabs ≡ slabs_after late inner outer → IsRising inner → IsRising outer → IsRising slabs
after_rises Removed inner outer slabs e h k = subst IsRising (sym e) k
after_rises Possible inner outer slabs e h k = subst IsRising (sym e) h
after_rises Clear inner outer slabs e h k = subst IsRising (sym e) k

pub after_lows : (late : Mark) (inner outer slabs : List SlabSize) → slabs ≡ slabs_after late inner outer → lows_of inner ≡ lows_of outer → lows_of inner ≡ lows_of slabs
after_lows Removed inner outer slabs e h = h ∙ ap lows_of (sym e)
after_lows Possible inner outer slabs e h = ap lows_of (sym e)
after_lows Clear inner outer slabs e h = h ∙ ap lows_of (sym e)

pub after_within : (late : Mark) (inner outer slabs : List SlabSize) (high : ℕ) → slabs ≡ slabs_after late inner outer → lows_of inner ≡ lows_of outer → high ≤ length outer → high ≤ length slabs
after_within late inner outer slabs high e h within =
    subst (λ k. high ≤ k) (sym (as_many inner outer h) ∙ as_many inner slabs (after_lows late inner outer slabs e h)) within

-- a test of where slabs begin turns at the same number
pub turns_alike : (a b : List SlabSize) (S high : ℕ) (u n : List ℤ) → lows_of a ≡ lows_of b → TurnsBetween (is_not_below S u n) b 0 high → TurnsBetween (is_not_below S u n) a 0 high
turns_alike a b S high u n e turns =
    let many = as_many a b e in record {
      within = subst (λ k. high ≤ k) (sym many) turns.within;
      before = λ i z. absurd (omega (arith, z));
      after = λ l.
          ap (λ z. not (all_negative (difference4 (product22 u u) (scaled4 (scaled_square S z) (lifted n))))) (low_at a b high e)
          ∙ turns.after (subst (λ k. high < k) many l);
    }

pub inner_search : (inner outer : List SlabSize) (u n width : List ℤ) (m : SweepOf) (p : List ℤ) (S high levels j : ℕ) → lows_of inner ≡ lows_of outer
    → IsWidthSearch inner outer u n width m p S high levels j → IsWidthSearch inner inner u n width m p S high levels j
inner_search inner outer u n width m p S high levels j e s = record {
  searched = record {
    some = s.searched.some;
    forms = s.searched.forms;
    enclosed = λ i h. h;
    first_free = s.searched.first_free;
    last_free = s.searched.last_free;
  };
  width_is = s.width_is;
  is_open = s.is_open;
  turns = turns_alike inner outer S high u n e s.turns;
}

-- so a search by them may begin
pub after_asked : (late : Mark) (inner outer slabs : List SlabSize) (high : ℕ) → slabs ≡ slabs_after late inner outer
    → lows_of inner ≡ lows_of outer → IsRising inner → IsRising outer → high ≤ length outer
    → (high ≤ length slabs) × (IsRising inner × (IsRising slabs × (lows_of inner ≡ lows_of slabs)))
after_asked late inner outer slabs high e h rises rise within =
    (after_within late inner outer slabs high e h within, (rises, (after_rises late inner outer slabs e rises rise, after_lows late inner outer slabs e h)))

-- so the search of the early half starts as it would with the outer slabs
pub after_search : (late : Mark) (inner outer slabs : List SlabSize) (u n width : List ℤ) (m : SweepOf) (p : List ℤ) (S high levels j : ℕ) → slabs ≡ slabs_after late inner outer
    → lows_of inner ≡ lows_of outer → IsWidthSearch inner outer u n width m p S high levels j → IsWidthSearch inner slabs u n width m p S high levels j
after_search Removed inner outer slabs u n width m p S high levels j e h s = subst (λ l. IsWidthSearch inner l u n width m p S high levels j) (sym e) s
after_search Possible inner outer slabs u n width m p S high levels j e h s =
    subst (λ l. IsWidthSearch inner l u n width m p S high levels j) (sym e) (inner_search inner outer u n width m p S high levels j h s)
after_search Clear inner outer slabs u n width m p S high levels j e h s = subst (λ l. IsWidthSearch inner l u n width m p S high levels j) (sym e) s

-- and both marks are the stretch's, for a late one that is Possible makes it that at least
join_at : (early : Mark) (inner outer : List SlabSize) (m : SweepOf) (p : List ℤ) (j i k S : ℕ) → j ≤ i → i ≤ k → IsMarkBetween early inner inner m p j i S
    → IsMarkBetween Possible inner outer m p i k S → IsMarkBetween (joined_mark early Possible) inner outer m p j k S
join_at Removed inner outer m p j i k S l h a b = held_early inner m p j i k S h a
join_at Possible inner outer m p j i k S l h a b = (free_both inner m p j i k S a.0 b.0, left_late outer m p j i k S l b.1)
join_at Clear inner outer m p j i k S l h a b = (free_both inner m p j i k S a.0 b.0, left_late outer m p j i k S l b.1)

join_possible : (early : Mark) (inner outer : List SlabSize) (m : SweepOf) (p : List ℤ) (S levels n j : ℕ) → levels ≡ n + 1 → IsMarkBetween early inner inner m p j (j + 2 ^ n) S
    → IsMarkBetween Possible inner outer m p (j + 2 ^ n) ((j + 2 ^ n) + 2 ^ n) S → IsMarkBetween (joined_mark early Possible) inner outer m p j (j + 2 ^ levels) S
join_possible early inner outer m p S levels n j e a b =
    let i = j + 2 ^ n in
    subst (λ k. IsMarkBetween (joined_mark early Possible) inner outer m p j k S) (halved levels n j e).end
    (join_at early inner outer m p j i (i + 2 ^ n) S (omega arith) (omega arith) a b)

pub join_early : (early late : Mark) (inner outer slabs : List SlabSize) (m : SweepOf) (p : List ℤ) (S levels n j : ℕ) → levels ≡ n + 1 → slabs ≡ slabs_after late inner outer
    → ¬ (late ≡ Removed) → IsMarkBetween early inner slabs m p j (j + 2 ^ n) S → IsMarkBetween late inner outer m p (j + 2 ^ n) ((j + 2 ^ n) + 2 ^ n) S
    → IsMarkBetween (joined_mark early late) inner outer m p j (j + 2 ^ levels) S
join_early early Removed inner outer slabs m p S levels n j e is not_late a b = absurd (not_late refl)
join_early early Possible inner outer slabs m p S levels n j e is not_late a b =
    join_possible early inner outer m p S levels n j e (subst (λ l. IsMarkBetween early inner l m p j (j + 2 ^ n) S) is a) b
join_early early Clear inner outer slabs m p S levels n j e is not_late a b =
    join_marks early Clear inner outer m p S levels n j e not_late (subst (λ l. IsMarkBetween early inner l m p j (j + 2 ^ n) S) is a) b
