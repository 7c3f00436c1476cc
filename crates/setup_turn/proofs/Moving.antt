-- Walks over the ranges of a set: its first index from a number on, and the set moved or reversed.
use Rattle.std.proofs.Common.{◌≡◌, ℕ, ◌+◌, ◌-◌, ◌<◌, ◌≤◌, max, Bool, true, false, ◌&&◌, ◌||◌, leb, ltb, IsTrue, List, length, take, drop, Some, None, arith, refl, sym, ap, ap₂, ◌∙◌, ⊎_elim}
use Rattle.std.specs.List.{list_any}
use Rattle.std.proofs.lemmas.Bool.{and_parts, cases_lt, false_from_ne_true, leb-true, ltb-true, or_cases, or_from}
use Rattle.std.proofs.lemmas.List.{drop_all, take_all}
use Rattle.vf_spans.specs.Members.{has, in_range, ranges_of}
use Rattle.vf_spans.proofs.InRanges.{members}
use Rattle.setup_turn.specs.Moved.{IsFirstFrom, IsMovedSet, IsReversed, LiesWithin}
use Rattle.setup_turn.proofs.RangeOrder.{IsRangeOf, one_before, one_more, split_at}
use Rattle.setup_turn.proofs.Tests.{leb_as_ltb, ltb_as_leb, same_leb, same_ltb}

-- none of the first ranges has an index from the number on
abbrev pub HasNoneYet : List Bool → ℕ → ℕ → Type 0
HasNoneYet set n from = (i : ℕ) → from ≤ i → list_any (in_range i) (take n (ranges_of set)) ≡ false

in_it : (i : ℕ) (r : ℕ × ℕ) → in_range i r ≡ true → (r.0 ≤ i) × (i < r.1)
in_it i r test = let parts = and_parts (leb r.0 i) (ltb i r.1) test in (leb-true r.0 i parts.0, ltb-true i r.1 parts.1)

pub none_yet_more : (set : List Bool) (n from : ℕ) (r : ℕ × ℕ) → IsRangeOf set n r → r.1 ≤ from → HasNoneYet set n from → HasNoneYet set (n + 1) from
none_yet_more set n from r is ends none i le =
    one_more set n i r is
    ∙ or_from (list_any (in_range i) (take n (ranges_of set))) (in_range i r) (none i le)
    (false_from_ne_true (in_range i r) (λ h. let w = in_it i r h in omega (arith, w.1)))

pub none_at_all : (set : List Bool) (n from : ℕ) → length (ranges_of set) ≤ n → HasNoneYet set n from → IsFirstFrom set from None
none_at_all set n from all none i le =
    members set i ∙ ap (list_any (in_range i)) (sym (take_all n (ranges_of set) all)) ∙ none i le

not_before : (set : List Bool) (n from i : ℕ) (r : ℕ × ℕ) → IsRangeOf set n r → HasNoneYet set n from → from ≤ i → i < r.1 → has set i ≡ true → r.0 ≤ i
not_before set n from i r is none le before h =
    ⊎_elim
    (λ early. absurd (let no = none i le in cc))
    (λ rest. ⊎_elim
    (λ here. (in_it i r here).0)
    (λ later. absurd (let past = is.later i later in omega arith))
    (or_cases (in_range i r) (list_any (in_range i) (drop (n + 1) (ranges_of set))) (sym (one_before set n i r is) ∙ rest)))
    (or_cases (list_any (in_range i) (take n (ranges_of set))) (list_any (in_range i) (drop n (ranges_of set))) (sym (split_at set n i) ∙ h))

-- the first range of a set begins at its first index
pub lowest : (set : List Bool) (r : ℕ × ℕ) → IsRangeOf set 0 r → r.0 < r.1 → (i : ℕ) → has set i ≡ true → r.0 ≤ i
lowest set r is some i h =
    ⊎_elim (λ (before : i < r.1). not_before set 0 0 i r is (λ k from. refl) (omega arith) before h)
    (λ (past : r.1 ≤ i). omega arith) (cases_lt i r.1)

pub no_ranges : (set : List Bool) → length (ranges_of set) ≡ 0 → (i : ℕ) → has set i ≡ false
no_ranges set none i = none_at_all set 0 0 (omega arith) (λ k from. refl) i (omega arith)

pub first_is : (set : List Bool) (n from l : ℕ) (r : ℕ × ℕ) → IsRangeOf set n r → HasNoneYet set n from → from < r.1 → r.0 < r.1 → l ≡ max r.0 from
    → IsFirstFrom set from (Some l)
first_is set n from l r is none past some most = (
  omega arith,
  is.inside l (omega arith) (omega arith),
  λ i le before. false_from_ne_true (has set i) (λ h. let low = not_before set n from i r is none le (omega arith) h in omega arith),
)

-- a range lies where the set does
pub range_within : (set : List Bool) (n first end : ℕ) (r : ℕ × ℕ) → IsRangeOf set n r → LiesWithin set first end → r.0 < r.1 → (first ≤ r.0) × (r.1 ≤ end)
range_within set n first end r is within some =
    let low = within.from r.0 (is.inside r.0 (omega arith) some) in
    let high = within.before (r.1 - 1) (is.inside (r.1 - 1) (omega arith) (omega arith)) in
    (low, omega arith)

-- the first ranges moved
pub record IsMovedPart (set : List Bool) (n first to : ℕ) (moved : List Bool) : Type 0 where
  pub below : (m : ℕ) → m < to → has moved m ≡ false
  pub same : (k : ℕ) → has moved (to + k) ≡ list_any (in_range (first + k)) (take n (ranges_of set))

pub moved_none : (set : List Bool) (first to : ℕ) (moved : List Bool) → ((i : ℕ) → has moved i ≡ false) → IsMovedPart set 0 first to moved
moved_none set first to moved none = record { below = λ m low. none m; same = λ k. none (to + k) }

pub moved_above : (set : List Bool) (n first to : ℕ) (moved : List Bool) (r : ℕ × ℕ) → IsRangeOf set n r → first ≤ r.0 → IsMovedPart set n first to moved
    → (i : ℕ) → IsTrue (has moved i) → i < to + (r.0 - first)
moved_above set n first to moved r is from part i h =
    ⊎_elim
    (λ (low : i < to). omega arith)
    (λ (at : to ≤ i).
    let k = i - to in
    let early = is.earlier (first + k) (sym (part.same k) ∙ ap (has moved) (let q : to + (i - to) ≡ i = omega arith in q) ∙ h) in omega arith)
    (cases_lt i to)

pub moved_more : (set : List Bool) (n first to : ℕ) (moved new : List Bool) (r : ℕ × ℕ) → IsRangeOf set n r → first ≤ r.0 → r.0 < r.1 → IsMovedPart set n first to moved
    → ((i : ℕ) → has new i ≡ (has moved i || (leb (to + (r.0 - first)) i && ltb i (to + (r.1 - first))))) → IsMovedPart set (n + 1) first to new
moved_more set n first to moved new r is from some part added = record {
  below = λ m low.
      added m
      ∙ or_from (has moved m) (leb (to + (r.0 - first)) m && ltb m (to + (r.1 - first))) (part.below m low)
      (false_from_ne_true (leb (to + (r.0 - first)) m && ltb m (to + (r.1 - first)))
      (λ h. let le = leb-true (to + (r.0 - first)) m (and_parts (leb (to + (r.0 - first)) m) (ltb m (to + (r.1 - first))) h).0 in omega arith));
  same = λ k.
      added (to + k)
      ∙ ap₂ (λ (a b : Bool). a || b) (part.same k)
      (ap₂ (λ (a b : Bool). a && b)
      (same_leb (to + (r.0 - first)) (to + k) r.0 (first + k) (λ e. omega arith) (λ e. omega arith))
      (same_ltb (to + k) (to + (r.1 - first)) (first + k) r.1 (λ e. omega arith) (λ e. omega arith)))
      ∙ sym (one_more set n (first + k) r is);
}

pub moved_whole : (set : List Bool) (n first to : ℕ) (moved : List Bool) → length (ranges_of set) ≤ n → IsMovedPart set n first to moved → IsMovedSet set first to moved
moved_whole set n first to moved all part = record {
  below = part.below;
  same = λ k. part.same k ∙ ap (list_any (in_range (first + k))) (take_all n (ranges_of set) all) ∙ sym (members set (first + k));
}

-- the ranges from the n-th on, reversed
pub record IsReversedPart (set : List Bool) (n first to : ℕ) (moved : List Bool) : Type 0 where
  pub above : (m : ℕ) → to < m → has moved m ≡ false
  pub same : (k : ℕ) → k ≤ to → has moved (to - k) ≡ list_any (in_range (first + k)) (drop n (ranges_of set))

pub reversed_none : (set : List Bool) (n first to : ℕ) (moved : List Bool) → length (ranges_of set) ≤ n → ((i : ℕ) → has moved i ≡ false) → IsReversedPart set n first to moved
reversed_none set n first to moved all none = record {
  above = λ m low. none m;
  same = λ k le. none (to - k) ∙ sym (ap (list_any (in_range (first + k))) (drop_all n (ranges_of set) all));
}

pub reversed_below : (set : List Bool) (n first to : ℕ) (moved : List Bool) (r : ℕ × ℕ) → IsRangeOf set n r → first ≤ r.0 → r.0 < r.1 → r.1 ≤ first + (to + 1)
    → IsReversedPart set (n + 1) first to moved → (i : ℕ) → IsTrue (has moved i) → i < to + 1 - (r.1 - first)
reversed_below set n first to moved r is from some end part i h =
    ⊎_elim
    (λ (high : to < i). absurd (let no = part.above i high in let told : has moved i ≡ true = h in cc))
    (λ (at : i ≤ to).
    let k = to - i in
    let late = is.later (first + k) (sym (part.same k (omega arith)) ∙ ap (has moved) (let q : to - (to - i) ≡ i = omega arith in q) ∙ h) in omega arith)
    (cases_lt to i)

and_turned : (a b : Bool) → (a && b) ≡ (b && a)
and_turned true true = refl
and_turned true false = refl
and_turned false true = refl
and_turned false false = refl

or_turned : (a b : Bool) → (a || b) ≡ (b || a)
or_turned true true = refl
or_turned true false = refl
or_turned false true = refl
or_turned false false = refl

pub reversed_more : (set : List Bool) (n first to : ℕ) (moved new : List Bool) (r : ℕ × ℕ) → IsRangeOf set n r → first ≤ r.0 → r.0 < r.1 → r.1 ≤ first + (to + 1)
    → IsReversedPart set (n + 1) first to moved
    → ((i : ℕ) → has new i ≡ (has moved i || (leb (to + 1 - (r.1 - first)) i && ltb i (to + 1 - (r.0 - first))))) → IsReversedPart set n first to new
reversed_more set n first to moved new r is from some end part added = record {
  above = λ m high.
      added m
      ∙ or_from (has moved m) (leb (to + 1 - (r.1 - first)) m && ltb m (to + 1 - (r.0 - first))) (part.above m high)
      (false_from_ne_true (leb (to + 1 - (r.1 - first)) m && ltb m (to + 1 - (r.0 - first)))
      (λ h. let lt = ltb-true m (to + 1 - (r.0 - first)) (and_parts (leb (to + 1 - (r.1 - first)) m) (ltb m (to + 1 - (r.0 - first))) h).1 in omega arith));
  same = λ k le.
      added (to - k)
      ∙ ap₂ (λ (a b : Bool). a || b) (part.same k le)
      (ap₂ (λ (a b : Bool). a && b)
      (leb_as_ltb (to + 1 - (r.1 - first)) (to - k) (first + k) r.1 (λ e. omega arith) (λ e. omega arith))
      (ltb_as_leb (to - k) (to + 1 - (r.0 - first)) r.0 (first + k) (λ e. omega arith) (λ e. omega arith))
      ∙ and_turned (ltb (first + k) r.1) (leb r.0 (first + k)))
      ∙ or_turned (list_any (in_range (first + k)) (drop (n + 1) (ranges_of set))) (in_range (first + k) r)
      ∙ sym (one_before set n (first + k) r is);
}

pub reversed_whole : (set : List Bool) (first to : ℕ) (moved : List Bool) → IsReversedPart set 0 first to moved → IsReversed set first to moved
reversed_whole set first to moved part = record {
  above = part.above;
  same = λ k le. part.same k le ∙ sym (members set (first + k));
}
