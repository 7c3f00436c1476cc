-- A binary search among changes that are packed.
use Rattle.std.proofs.Common.{◌≡◌, ℕ, ◌≤◌, ◌<◌, Bool, true, false, List, length, map, arith, sym, ap, ◌∙◌}
use Rattle.std.specs.List.Sorted.{IsPartitionedBy, IsPartitionPoint}
use Rattle.std.proofs.lemmas.List.{get_or-map, length-map}

-- a list is split where what it was made of is
pub parted_under : {X Y : Type 0} (f : X → Y) (p : Y → Bool) (xs : List X) → IsPartitionedBy p (map f xs)
    → IsPartitionedBy (λ x. p (f x)) xs
parted_under f p xs h i j d up low is =
    ap p (sym (get_or-map f xs i d (f d) (omega (arith, up, low))))
    ∙ h i j (f d) up (omega (arith, low, length-map xs f)) (ap p (get_or-map f xs j d (f d) low) ∙ is)

-- and at the same place
pub point_over : {X Y : Type 0} (f : X → Y) (p : Y → Bool) (xs : List X) (place : ℕ) (x : X) → place ≤ length xs
    → IsPartitionPoint (λ x. p (f x) ≡ true) (λ x. p (f x) ≡ false) xs place
    → IsPartitionPoint (λ y. p y ≡ true) (λ y. p y ≡ false) (map f xs) place
point_over f p xs place x within h = (
  λ k d from low. ap p (get_or-map f xs k x d (omega (arith, low, within))) ∙ h.0 k x from low,
  λ k d from low.
      let few : k < length xs = omega (arith, low, length-map xs f) in ap p (get_or-map f xs k x d few) ∙ h.1 k x from few,
)
