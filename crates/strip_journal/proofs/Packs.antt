-- Changes in less memory: with one more that is kept whole the others stay.
use Rattle.std.proofs.Common.{◌≡◌, ℕ, ◌+◌, ◌-◌, ◌<◌, ◌==◌, Bool, true, false, if◌then◌else◌, List, [], ◌∷◌, ◌++◌, All, length, length-append, map, slice_range, suc, arith, refl, ap, ap₂, ◌∙◌}
use Rattle.std.specs.Prelude.{slice_index_or}
use Rattle.std.proofs.lemmas.Bool.{ne_eqb}
use Rattle.std.proofs.lemmas.Bool.Decides.{nat_tests}
use Rattle.std.proofs.lemmas.List.{drop-map, map-append, take-map}
use Rattle.std.proofs.lemmas.List.Elements.{All-append, All-cons}
use Rattle.std.proofs.Math.ListN.{drop, get_or-append, take}
use Rattle.std.proofs.Math.Seq.{get_or-append_seam}
use Rattle.strip_marks.specs.declared.change.WordChange.{WordChange}
use Rattle.strip_journal.specs.declared.packed.PackedChange.{PackedChange}
use Rattle.strip_journal.specs.Packed.{ArePacked, IsHeld, as_word_change, no_change, unpacked, whole_mark}

-- a choice with another value where the first is taken
chosen : {X : Type 0} (first : Bool) (a b c : X) → (first ≡ true → a ≡ b) → (if first then a else c) ≡ (if first then b else c)
chosen true a b c same = same refl
chosen false a b c same = refl

marked : (first : ℕ) → (first == whole_mark) ≡ true → first ≡ whole_mark
marked first is = grind (arith, nat_tests)

-- a change stays when another is kept whole
unpacked_more : (whole : List WordChange) (change : WordChange) (p : PackedChange) → IsHeld (length whole) p
    → unpacked (whole ++ change ∷ []) p ≡ unpacked whole p
unpacked_more whole change p held =
    chosen (p.first == whole_mark) _ _ (as_word_change p)
    (λ is. get_or-append whole (change ∷ []) no_change p.ray (held.low (marked p.first is)))

-- and so do all
all_more : (whole : List WordChange) (change : WordChange) (packed : List PackedChange) → All (IsHeld (length whole)) packed
    → map (unpacked (whole ++ change ∷ [])) packed ≡ map (unpacked whole) packed
all_more whole change [] held = refl
all_more whole change (p ∷ packed) held =
    ap₂ (λ (x : WordChange) (xs : List WordChange). x ∷ xs) (unpacked_more whole change p (held 0 p (omega arith)))
    (all_more whole change packed (λ k d low. held (suc k) d (omega (arith, low))))

-- a change that is kept whole comes after the others
pub kept_whole : (whole : List WordChange) (change : WordChange) (packed : List PackedChange) → All (IsHeld (length whole)) packed
    → map (unpacked (whole ++ change ∷ [])) (packed ++ record { ray = length whole; first = whole_mark; sure = 0; possible = 0 } ∷ [])
    ≡ map (unpacked whole) packed ++ change ∷ []
kept_whole whole change packed held =
    map-append (unpacked (whole ++ change ∷ [])) packed (record { ray = length whole; first = whole_mark; sure = 0; possible = 0 } ∷ [])
    ∙ ap₂ (λ (xs ys : List WordChange). xs ++ ys) (all_more whole change packed held)
    (ap (λ (x : WordChange). x ∷ []) (get_or-append_seam whole change [] no_change))

-- and so does one that is packed
pub kept_packed : (whole : List WordChange) (packed : List PackedChange) (p : PackedChange) (change : WordChange) → p.first < whole_mark
    → as_word_change p ≡ change → map (unpacked whole) (packed ++ p ∷ []) ≡ map (unpacked whole) packed ++ change ∷ []
kept_packed whole packed p change low is =
    let unmarked : (p.first == whole_mark) ≡ false = ne_eqb p.first whole_mark (λ e. omega (arith, e, low)) in
    map-append (unpacked whole) packed (p ∷ [])
    ∙ ap (λ (x : WordChange). map (unpacked whole) packed ++ x ∷ [])
    (ap (λ (first : Bool). if first then slice_index_or whole p.ray no_change else as_word_change p) unmarked ∙ is)

-- all are held, with one more that holds
held_more : (n : ℕ) (packed : List PackedChange) (p : PackedChange) → All (IsHeld n) packed → IsHeld n p → All (IsHeld n) (packed ++ p ∷ [])
held_more n packed p held one = All-append (IsHeld n) packed (p ∷ []) held (All-cons (IsHeld n) p [] one (λ k d low. absurd (omega (arith, low))))

pub packed_more : (whole : List WordChange) (packed : List PackedChange) (p : PackedChange) → p.first < whole_mark → ArePacked whole packed
    → ArePacked whole (packed ++ p ∷ [])
packed_more whole packed p low are = record {
  few = omega (arith, length-append packed (p ∷ []), are.few);
  held = held_more (length whole) packed p are.held (record { low = λ e. absurd (omega (arith, e, low)) });
}

pub whole_more : (whole : List WordChange) (packed : List PackedChange) (p : PackedChange) (change : WordChange) → p.ray ≡ length whole
    → ArePacked whole packed → ArePacked (whole ++ change ∷ []) (packed ++ p ∷ [])
whole_more whole packed p change place are =
    let more : length (whole ++ change ∷ []) ≡ length whole + 1 = length-append whole (change ∷ []) in
    record {
      few = omega (arith, more, length-append packed (p ∷ []), are.few);
      held = held_more (length (whole ++ change ∷ [])) packed p
          (λ k d low. record { low = λ e. (let there = (are.held k d low).low e in omega (arith, more, there)) })
          (record { low = λ e. omega (arith, more, place) });
    }

-- changes that follow each other
pub part_of : (whole : List WordChange) (packed : List PackedChange) (from to : ℕ)
    → slice_range (map (unpacked whole) packed) from to ≡ map (unpacked whole) (slice_range packed from to)
part_of whole packed from to =
    ap (λ l. take (to - from) l) (drop-map (unpacked whole) from packed) ∙ take-map (unpacked whole) (to - from) (drop from packed)
