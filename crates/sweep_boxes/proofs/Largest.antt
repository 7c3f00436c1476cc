-- Slabs of at most a width and a height, one more at a time.
use Rattle.std.proofs.Common.{◌≡◌, ℕ, ◌+◌, ◌<◌, List, [], ◌∷◌, ◌++◌, take, ◌∙◌, ℤ, ◌≤ℤ◌, ⊎_elim, get_or, length, arith, subst, sym}
use Rattle.std.proofs.lemmas.Int.{ints}
use Rattle.std.proofs.lemmas.Bool.{cases_lt}
use Rattle.bern_form.specs.Slab.{SlabSize}
use Rattle.std.proofs.lemmas.List.{get_or_append_left, length-append, take-append-le}
use Rattle.std.proofs.Math.Seq.{get_or-append_seam}
use Rattle.sweep_boxes.specs.declared.point_box.PointBox.{PointBox}
use Rattle.sweep_boxes.specs.Intervals.{IsAsLarge}

larger : (w h v g : ℤ) (s : SlabSize) → w ≤ℤ v → h ≤ℤ g → IsAsLarge w h s → IsAsLarge v g s
larger w h v g s a b l =
    let c = l.thick in let d = l.width in let e = l.tall in let f = l.height in
    record { thick = c; width = omega (arith, ints, a, d); tall = e; height = omega (arith, ints, b, f) }

pub one_more : (slabs : List SlabSize) (n : ℕ) (w h v g : ℤ) → ((k : ℕ) (d : SlabSize) → k < n → IsAsLarge w h (get_or slabs k d)) → w ≤ℤ v → h ≤ℤ g
    → ((d : SlabSize) → IsAsLarge v g (get_or slabs n d)) → (k : ℕ) (d : SlabSize) → k < n + 1 → IsAsLarge v g (get_or slabs k d)
one_more slabs n w h v g before a b last k d l =
    ⊎_elim (λ less. larger w h v g (get_or slabs k d) a b (before k d less))
    (λ most. let e : n ≡ k = omega (arith, l, most) in subst (λ (i : ℕ). IsAsLarge v g (get_or slabs i d)) e (last d))
    (cases_lt k n)

-- boxes, one more at a time
pub one_box : (boxes old : List PointBox) (cell : ℕ) (box : PointBox) (holds : ℕ → PointBox → Type 0) → length boxes ≡ length old + cell → take (length old) boxes ≡ old
    → ((n : ℕ) (d : PointBox) → n < cell → holds n (get_or boxes (length old + n) d)) → holds cell box
    → (length (boxes ++ box ∷ []) ≡ length old + (cell + 1)) × (take (length old) (boxes ++ box ∷ []) ≡ old)
    × ((n : ℕ) (d : PointBox) → n < cell + 1 → holds n (get_or (boxes ++ box ∷ []) (length old + n) d))
one_box boxes old cell box holds long same each last = (
  omega (arith, length-append boxes (box ∷ []), long),
  take-append-le (length old) boxes (box ∷ []) (omega (arith, long)) ∙ same,
  λ n d l. ⊎_elim
      (λ less. subst (holds n) (sym (get_or_append_left boxes (box ∷ []) d (length old + n) (omega (arith, less, long)))) (each n d less))
      (λ most.
      let e : n ≡ cell = omega (arith, l, most) in
      let at_end : length old + n ≡ length boxes = omega (arith, e, long) in
      subst (λ (i : ℕ). holds n (get_or (boxes ++ box ∷ []) i d)) (sym at_end) (subst (holds n) (sym (get_or-append_seam boxes box [] d)) (subst (λ (i : ℕ). holds i box) (sym e) last)))
      (cases_lt n cell),
)
