-- The sample in the middle of a stretch that is searched, and the halves on either side of it.
use Rattle.std.proofs.Common.{◌≡◌, false, ℕ, ◌+◌, ◌^◌, List, ℤ, ap, subst, sym, ◌∙◌}
use Rattle.space.specs.Sweeps.{SweepOf}
use Rattle.space.specs.Vectors.{at}
use Rattle.bern_form.specs.Marks.{some_holds}
use Rattle.bern_form.specs.Slab.{SlabSize}
use Rattle.axis_cells.specs.declared.mark.Mark.{Mark}
use Rattle.box_bisect.specs.Between.{IsMarkBetween, is_removed_mark, joined_mark}
use Rattle.width_bisect.specs.declared.sample.Sample.{Sample}
use Rattle.width_bisect.specs.declared.stretch.Stretch.{Stretch}
use Rattle.width_bisect.specs.Early.{lows_of, slabs_after}
use Rattle.width_bisect.specs.Halved.{first2, first4, last2, last4}
use Rattle.width_bisect.specs.Searches.{IsWidthSearch}
use Rattle.width_bisect.proofs.Early.{after_search}
use Rattle.width_bisect.proofs.Ends.{IsLastOf, IsMarkAt, IsMarkBy}
use Rattle.width_bisect.proofs.Searching.{first_forms, search_first, search_last, searched_as}
use Rattle.width_bisect.proofs.Tried.{late_mark, marked_as_last, tried_free}

-- what the code has of the halves
abbrev IsFirstHalf : Stretch → Stretch → Type 0
IsFirstHalf first s = record { u : first.u ≡ first2 s.u; n : first.n ≡ first2 s.n; width : first.width ≡ first4 s.width }

abbrev IsLastHalf : Stretch → Stretch → Type 0
IsLastHalf last s = record { u : last.u ≡ last2 s.u; n : last.n ≡ last2 s.n; width : last.width ≡ last4 s.width }

-- what the mark of the middle sample says
pub middle_tried : (inner outer : List SlabSize) (mark : Mark) (s first : Stretch) (x : Sample)
    (m : SweepOf) (p : List ℤ) (S high levels k j : ℕ) → levels ≡ k + 1
    → IsWidthSearch inner outer s.u s.n s.width m p S high levels j → IsFirstHalf first s → IsLastOf x first S → IsMarkBy mark x inner outer
    → IsMarkAt mark inner outer m p (j + 2 ^ k) S
middle_tried inner outer mark s first x m p S high levels k j e search half is marked =
    marked_as_last inner outer mark x.scale x.u x.n x.width (first2 s.u) (first2 s.n) (first4 s.width) m p j (j + 2 ^ k) S
    (first_forms inner outer s.u s.n s.width m p S high levels k j e search) marked
    is.scale (is.u ∙ ap (λ l. at l 2) half.u) (is.n ∙ ap (λ l. at l 2) half.n) (is.width ∙ ap (λ l. at l 4) half.width)

-- so the halves are searched, by the slabs that are excluded once a mark is known
pub first_searched : (inner outer slabs : List SlabSize) (mark known : Mark) (s first : Stretch)
    (m : SweepOf) (p : List ℤ) (S high levels k j : ℕ) → levels ≡ k + 1
    → IsWidthSearch inner outer s.u s.n s.width m p S high levels j → IsFirstHalf first s → IsMarkAt mark inner outer m p (j + 2 ^ k) S
    → is_removed_mark mark ≡ false
    → slabs ≡ slabs_after known inner outer → lows_of inner ≡ lows_of outer
    → IsWidthSearch inner slabs first.u first.n first.width m p S high k j
first_searched inner outer slabs mark known s first m p S high levels k j e search half tried free after lows =
    let i = j + 2 ^ k in
    let none = tried_free mark (some_holds inner m p i S) (some_holds outer m p i S) tried free (search.searched.enclosed i) in
    after_search known inner outer slabs first.u first.n first.width m p S high k j after lows
    (searched_as inner outer first.u first.n first.width (first2 s.u) (first2 s.n) (first4 s.width) m p S high k j half.u half.n half.width
    (search_first inner outer s.u s.n s.width m p S high levels k j e search none))

pub last_searched : (inner outer slabs : List SlabSize) (mark : Mark) (s last : Stretch)
    (m : SweepOf) (p : List ℤ) (S high levels k j : ℕ)
    → levels ≡ k + 1
    → IsWidthSearch inner outer s.u s.n s.width m p S high levels j → IsLastHalf last s → IsMarkAt mark inner outer m p (j + 2 ^ k) S
    → is_removed_mark mark ≡ false
    → slabs ≡ slabs_after mark inner outer → lows_of inner ≡ lows_of outer
    → IsWidthSearch inner slabs last.u last.n last.width m p S high k (j + 2 ^ k)
last_searched inner outer slabs mark s last m p S high levels k j e search half tried free after lows =
    let i = j + 2 ^ k in
    let none = tried_free mark (some_holds inner m p i S) (some_holds outer m p i S) tried free (search.searched.enclosed i) in
    after_search mark inner outer slabs last.u last.n last.width m p S high k i after lows
    (searched_as inner outer last.u last.n last.width (last2 s.u) (last2 s.n) (last4 s.width) m p S high k i half.u half.n half.width
    (search_last inner outer s.u s.n s.width m p S high levels k j e search none))

-- and the late half has the mark that is found on it, joined to that of the sample
pub late_half : (inner outer slabs : List SlabSize) (found mark late : Mark) (s last : Stretch)
    (m : SweepOf) (p : List ℤ) (S high levels k j : ℕ) → levels ≡ k + 1
    → IsWidthSearch inner outer s.u s.n s.width m p S high levels j → IsLastHalf last s → IsMarkAt mark inner outer m p (j + 2 ^ k) S
    → is_removed_mark mark ≡ false
    → slabs ≡ slabs_after mark inner outer → lows_of inner ≡ lows_of outer
    → ((q : SweepOf) (r : List ℤ) (l : ℕ) → IsWidthSearch inner slabs last.u last.n last.width q r S high k l → IsMarkBetween found inner slabs q r l (l + 2 ^ k) S)
    → late ≡ joined_mark found mark → IsMarkBetween late inner outer m p (j + 2 ^ k) ((j + 2 ^ k) + 2 ^ k) S
late_half inner outer slabs found mark late s last m p S high levels k j e search half tried free after lows marked joined =
    let i = j + 2 ^ k in
    subst (λ z. IsMarkBetween z inner outer m p i (i + 2 ^ k) S) (sym joined)
    (late_mark found mark inner outer slabs s.u s.n s.width m p S high levels k j search tried free after
    (marked m p i (last_searched inner outer slabs mark s last m p S high levels k j e search half tried free after lows)))
