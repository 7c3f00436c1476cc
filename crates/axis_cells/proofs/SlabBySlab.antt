-- Whether some of the slabs passes a test, or each of them, slab by slab.
use Rattle.std.proofs.Common.{◌≡◌, ℕ, ◌+◌, ◌<◌, ◌≤◌, Bool, true, false, ◌||◌, ◌&&◌, List, length, get_or, drop, ap, subst, sym, ◌∙◌}
use Rattle.std.specs.List.{list_all, list_any}
use Rattle.std.proofs.lemmas.List.{at_drop_all, at_drop_more, get_or_default}
use borrow.Author.Count.{below_more}
use Rattle.bern_form.specs.Slab.{IsSlab, SlabSize}

next_any : (test : SlabSize → Bool) (slabs : List SlabSize) (i : ℕ) (s : SlabSize) (b : Bool) → i < length slabs → s ≡ get_or slabs i s → test s ≡ b
    → list_any test (drop i slabs) ≡ (b || list_any test (drop (i + 1) slabs))
next_any test slabs i s b h e here =
    at_drop_more (list_any test) slabs i s h ∙ ap (λ y. test y || list_any test (drop (i + 1) slabs)) (sym e) ∙ ap (λ x. x || list_any test (drop (i + 1) slabs)) here

-- one that passes decides, one that doesn't says nothing, and none is left at the end
pub any_here : (test : SlabSize → Bool) (slabs : List SlabSize) (i : ℕ) (s : SlabSize) → i < length slabs → s ≡ get_or slabs i s → test s ≡ true → true ≡ list_any test (drop i slabs)
any_here test slabs i s h e here = sym (next_any test slabs i s true h e here)

pub any_later : (test : SlabSize → Bool) (slabs : List SlabSize) (i : ℕ) (s : SlabSize) → i < length slabs → s ≡ get_or slabs i s → test s ≡ false
    → list_any test (drop (i + 1) slabs) ≡ list_any test (drop i slabs)
any_later test slabs i s h e here = sym (next_any test slabs i s false h e here)

pub any_none : (test : SlabSize → Bool) (slabs : List SlabSize) (i : ℕ) → length slabs ≤ i → false ≡ list_any test (drop i slabs)
any_none test slabs i h = sym (at_drop_all (list_any test) slabs i h)

next_all : (test : SlabSize → Bool) (slabs : List SlabSize) (i : ℕ) (s : SlabSize) (b : Bool) → i < length slabs → s ≡ get_or slabs i s → test s ≡ b
    → list_all test (drop i slabs) ≡ (b && list_all test (drop (i + 1) slabs))
next_all test slabs i s b h e here =
    at_drop_more (list_all test) slabs i s h ∙ ap (λ y. test y && list_all test (drop (i + 1) slabs)) (sym e) ∙ ap (λ x. x && list_all test (drop (i + 1) slabs)) here

-- of all, one that doesn't pass decides, and one that passes says nothing
pub not_all : (test : SlabSize → Bool) (slabs : List SlabSize) (i : ℕ) (s : SlabSize) → i < length slabs → s ≡ get_or slabs i s → test s ≡ false → false ≡ list_all test (drop i slabs)
not_all test slabs i s h e here = sym (next_all test slabs i s false h e here)

pub all_later : (test : SlabSize → Bool) (slabs : List SlabSize) (i : ℕ) (s : SlabSize) → i < length slabs → s ≡ get_or slabs i s → test s ≡ true
    → list_all test (drop (i + 1) slabs) ≡ list_all test (drop i slabs)
all_later test slabs i s h e here = sym (next_all test slabs i s true h e here)

pub all_none : (test : SlabSize → Bool) (slabs : List SlabSize) (i : ℕ) → length slabs ≤ i → true ≡ list_all test (drop i slabs)
all_none test slabs i h = sym (at_drop_all (list_all test) slabs i h)

-- one valid slab more
pub valid_more : (slabs : List SlabSize) (i : ℕ) (s : SlabSize) → ((k : ℕ) (d : SlabSize) → k < i → IsSlab (get_or slabs k d)) → i < length slabs → s ≡ get_or slabs i s → IsSlab s
    → (k : ℕ) (d : SlabSize) → k < i + 1 → IsSlab (get_or slabs k d)
valid_more slabs i s before h e here k d l =
    below_more (λ k. (d : SlabSize) → IsSlab (get_or slabs k d)) i (λ k l d. before k d l) (λ d. subst IsSlab (e ∙ get_or_default slabs i s d h) here) k l d
