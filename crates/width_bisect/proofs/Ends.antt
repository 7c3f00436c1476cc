-- The samples at the ends of a stretch, and the search between them.
use Rattle.std.proofs.Common.{◌≡◌, true, false, ℕ, ◌+◌, ◌^◌, ◌<◌, List, ℤ, pos, ◌*ℤ◌}
use Rattle.space.specs.Sweeps.{SweepOf}
use Rattle.space.specs.Vectors.{at}
use Rattle.bern_form.specs.Forms.{all_positive, lifted}
use Rattle.bern_form.specs.Marks.{some_holds}
use Rattle.bern_form.specs.Slab.{SlabSize}
use Rattle.axis_cells.specs.declared.mark.Mark.{Mark}
use Rattle.box_bisect.specs.Between.{is_removed_mark}
use Rattle.box_bisect.specs.SlabTests.{TurnsBetween, some_covers}
use Rattle.width_bisect.specs.declared.sample.Sample.{Sample}
use Rattle.width_bisect.specs.declared.stretch.Stretch.{Stretch}
use Rattle.width_bisect.specs.Early.{sample_mark}
use Rattle.width_bisect.specs.Forms.{AreWidthForms}
use Rattle.width_bisect.specs.Searches.{IsWidthSearch, is_not_below}
use Rattle.width_bisect.proofs.Beginning.{search_of_stretch}
use Rattle.width_bisect.proofs.Tried.{marked_as_first, marked_as_last, tried_free}

-- what the code has: the samples, and a mark by a sample
abbrev pub IsFirstOf : Sample → Stretch → ℕ → Type 0
IsFirstOf x s S = record { scale : x.scale ≡ S; u : x.u ≡ at s.u 0; n : x.n ≡ at s.n 0; width : x.width ≡ at s.width 0 }

abbrev pub IsLastOf : Sample → Stretch → ℕ → Type 0
IsLastOf x s S = record { scale : x.scale ≡ S; u : x.u ≡ at s.u 2; n : x.n ≡ at s.n 2; width : x.width ≡ at s.width 4 }

abbrev pub IsMarkBy : Mark → Sample → List SlabSize → List SlabSize → Type 0
IsMarkBy mark x inner outer =
    (w : ℤ) → x.width ≡ pos 4 *ℤ w
    → mark ≡ sample_mark (some_covers (pos x.scale) x.u x.n w inner) (some_covers (pos x.scale) x.u x.n w outer)

-- what the mark says of the sample i
abbrev pub IsMarkAt : Mark → List SlabSize → List SlabSize → SweepOf → List ℤ → ℕ → ℕ → Type 0
IsMarkAt mark inner outer m p i S = mark ≡ sample_mark (some_holds inner m p i S) (some_holds outer m p i S)

pub first_tried : (inner outer : List SlabSize) (mark : Mark) (x : Sample) (s : Stretch) (m : SweepOf) (p : List ℤ) (j k S : ℕ)
    → AreWidthForms s.u s.n s.width m p j k S → IsFirstOf x s S → IsMarkBy mark x inner outer → IsMarkAt mark inner outer m p j S
first_tried inner outer mark x s m p j k S forms is marked =
    marked_as_first inner outer mark x.scale x.u x.n x.width s.u s.n s.width m p j k S forms marked is.scale is.u is.n is.width

pub last_tried : (inner outer : List SlabSize) (mark : Mark) (x : Sample) (s : Stretch) (m : SweepOf) (p : List ℤ) (j k S : ℕ)
    → AreWidthForms s.u s.n s.width m p j k S → IsLastOf x s S → IsMarkBy mark x inner outer → IsMarkAt mark inner outer m p k S
last_tried inner outer mark x s m p j k S forms is marked =
    marked_as_last inner outer mark x.scale x.u x.n x.width s.u s.n s.width m p j k S forms marked is.scale is.u is.n is.width

-- where neither is Removed, the stretch is searched
pub ends_searched : (inner outer : List SlabSize) (first last : Mark) (x y : Sample) (s : Stretch)
    (m : SweepOf) (p : List ℤ) (S high levels j : ℕ)
    → 0 < S → AreWidthForms s.u s.n s.width m p j (j + 2 ^ levels) S
    → ((i : ℕ) → some_holds inner m p i S ≡ true → some_holds outer m p i S ≡ true)
    → all_positive (lifted s.n) ≡ true → TurnsBetween (is_not_below S s.u s.n) outer 0 high
    → IsFirstOf x s S → IsMarkBy first x inner outer → is_removed_mark first ≡ false
    → IsLastOf y s S → IsMarkBy last y inner outer → is_removed_mark last ≡ false
    → IsWidthSearch inner outer s.u s.n s.width m p S high levels j
ends_searched inner outer first last x y s m p S high levels j some forms enclosed positive turns x_is by_x early y_is by_y late =
    let k = j + 2 ^ levels in
    let at_first = first_tried inner outer first x s m p j k S forms x_is by_x in
    let at_last = last_tried inner outer last y s m p j k S forms y_is by_y in
    search_of_stretch inner outer s.u s.n s.width m p S high levels j some forms enclosed positive turns
    (tried_free last (some_holds inner m p k S) (some_holds outer m p k S) at_last late (enclosed k))
    (tried_free first (some_holds inner m p j S) (some_holds outer m p j S) at_first early (enclosed j))
