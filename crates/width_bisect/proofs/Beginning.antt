-- Where a search of a whole move begins, and its mark.
use Rattle.std.proofs.Common.{◌≡◌, Bool, true, false, not, ℕ, ◌+◌, ◌^◌, ◌<◌, ◌≤◌, List, get_or, ℤ, pos, ◌*ℤ◌, ◌≤ℤ◌, arith, subst, sym, ap, ◌∙◌}
use Rattle.std.proofs.lemmas.Int.{ints}
use Rattle.space.specs.Sweeps.{SweepOf}
use Rattle.space.specs.Vectors.{at}
use Rattle.space.proofs.Tests.{decides_le}
use Rattle.bern_form.specs.Cells.{scaled_square}
use Rattle.bern_form.specs.Forms.{all_positive, lifted, product22}
use Rattle.bern_form.specs.Marks.{some_holds}
use Rattle.bern_form.specs.Slab.{SlabSize}
use Rattle.axis_cells.specs.declared.mark.Mark.TheVariants.{Removed}
use Rattle.box_bisect.specs.Between.{IsMarkBetween}
use Rattle.box_bisect.specs.SlabTests.{TurnsAt, TurnsBetween, is_below_by, is_reached, no_slab}
use Rattle.box_bisect.proofs.Raised.{not_under}
use Rattle.width_bisect.specs.Forms.{AreWidthForms}
use Rattle.width_bisect.specs.Searches.{IsWidthSearch, is_not_below}
use Rattle.width_bisect.specs.Turns.{IsReachedBefore}
use Rattle.width_bisect.proofs.Searching.{forms_by, test_as}

-- a slab that is reached at the last sample is one that the point isn't below throughout
times_one : (f n v : ℤ) → (f *ℤ n) ≤ℤ v → (f *ℤ (n *ℤ pos 1)) ≤ℤ v
times_one f n v h = let e : n *ℤ pos 1 ≡ n = omega (arith, ints) in subst (λ z. (f *ℤ z) ≤ℤ v) (sym e) h

reached_not_below : (S : ℕ) (u n : List ℤ) (s : SlabSize) → is_reached (pos S) (at u 2) (at n 2) s ≡ true → is_not_below S u n s ≡ true
reached_not_below S u n s reached =
    let f = scaled_square S s.lo in
    ap not (not_under (product22 u u) (lifted n) f 4 (omega arith) (times_one f (at n 2) (at u 2 *ℤ at u 2) ((decides_le (f *ℤ at n 2) (at u 2 *ℤ at u 2)).0 reached)))

pub begins_at : (slabs : List SlabSize) (S kept scale j : ℕ) (x y : ℤ) (raised height u n : List ℤ) → kept ≡ S → raised ≡ lifted n → height ≡ product22 u u → scale ≡ S → x ≡ at u 2 → y ≡ at n 2
    → TurnsAt (is_reached (pos scale) x y) slabs j → IsReachedBefore (λ s. not (is_below_by kept raised height s)) slabs j
begins_at slabs S kept scale j x y raised height u n eS er eh es ex ey turns =
    subst (λ (t : SlabSize → Bool). IsReachedBefore t slabs j) (sym (test_as S kept raised height u n eS er eh)) record {
      within = turns.within;
      before = λ i e.
          let s = get_or slabs i no_slab in
          reached_not_below S u n s (sym (ap (λ z. is_reached (pos z) x y s) es ∙ ap (λ z. is_reached (pos S) z y s) ex ∙ ap (λ z. is_reached (pos S) (at u 2) z s) ey) ∙ turns.before i e);
    }

-- a stretch of it
pub search_of_stretch : (inner outer : List SlabSize) (u n width : List ℤ) (m : SweepOf) (p : List ℤ) (S high levels j : ℕ) → 0 < S → AreWidthForms u n width m p j (j + 2 ^ levels) S
    → ((i : ℕ) → some_holds inner m p i S ≡ true → some_holds outer m p i S ≡ true) → all_positive (lifted n) ≡ true → TurnsBetween (is_not_below S u n) outer 0 high
    → some_holds inner m p (j + 2 ^ levels) S ≡ false → some_holds inner m p j S ≡ false → IsWidthSearch inner outer u n width m p S high levels j
search_of_stretch inner outer u n width m p S high levels j some f enclosed above turns last first = record {
  searched = record {
    some = some;
    forms = forms_by u n width m p j (j + 2 ^ levels) S f;
    enclosed = enclosed;
    first_free = first;
    last_free = last;
  };
  width_is = f.width_is;
  is_open = above;
  turns = turns;
}

pub last_is_held : (inner outer : List SlabSize) (m : SweepOf) (p : List ℤ) (j k S : ℕ) → j ≤ k → some_holds inner m p k S ≡ true → IsMarkBetween Removed inner outer m p j k S
last_is_held inner outer m p j k S h held = record { sample = k; after = h; before = omega arith; held = held }

pub first_is_held : (inner outer : List SlabSize) (m : SweepOf) (p : List ℤ) (j k S : ℕ) → j ≤ k → some_holds inner m p j S ≡ true → IsMarkBetween Removed inner outer m p j k S
first_is_held inner outer m p j k S h held = record { sample = j; after = omega arith; before = h; held = held }
