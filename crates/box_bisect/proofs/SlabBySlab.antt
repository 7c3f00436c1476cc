-- Whether some of the slabs is not left out, slab by slab.
use Rattle.std.proofs.Common.{◌≡◌, ℕ, ◌+◌, ◌<◌, ◌≤◌, Bool, true, false, not, ◌||◌, List, length, get_or, drop, ap, sym, ◌∙◌}
use Rattle.std.specs.List.{list_any}
use Rattle.std.proofs.lemmas.List.{at_drop_more, at_drop_all}
use Rattle.bern_form.specs.Slab.{SlabSize}

abbrev pub leaves : (SlabSize → Bool) → List SlabSize → Bool
leaves out slabs = list_any (λ s. not (out s)) slabs

next_leaves : (out : SlabSize → Bool) (slabs : List SlabSize) (i : ℕ) (s : SlabSize) (b : Bool) → i < length slabs → s ≡ get_or slabs i s → out s ≡ b
    → leaves out (drop i slabs) ≡ (not b || leaves out (drop (i + 1) slabs))
next_leaves out slabs i s b h e here =
    at_drop_more (leaves out) slabs i s h ∙ ap (λ y. not (out y) || leaves out (drop (i + 1) slabs)) (sym e) ∙ ap (λ x. not x || leaves out (drop (i + 1) slabs)) here

-- one that is left out says nothing, one that isn't decides, and none is left at the end
pub left_out : (out : SlabSize → Bool) (slabs : List SlabSize) (i : ℕ) (s : SlabSize) → i < length slabs → s ≡ get_or slabs i s → out s ≡ true
    → leaves out (drop (i + 1) slabs) ≡ leaves out (drop i slabs)
left_out out slabs i s h e here = sym (next_leaves out slabs i s true h e here)

pub left_in : (out : SlabSize → Bool) (slabs : List SlabSize) (i : ℕ) (s : SlabSize) → i < length slabs → s ≡ get_or slabs i s → out s ≡ false → true ≡ leaves out (drop i slabs)
left_in out slabs i s h e here = sym (next_leaves out slabs i s false h e here)

pub left_none : (out : SlabSize → Bool) (slabs : List SlabSize) (i : ℕ) → length slabs ≤ i → false ≡ leaves out (drop i slabs)
left_none out slabs i h = sym (at_drop_all (leaves out) slabs i h)
