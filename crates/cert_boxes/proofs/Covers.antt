-- A part of the time is covered by the spans that have all of it, or in both of its halves.
use Rattle.std.proofs.Common.{◌≡◌, ℕ, zero, suc, ◌+◌, ◌-◌, ◌/◌, ◌^◌, ◌<◌, ◌≤◌, Bool, true, false, not, ◌||◌, ◌&&◌, cond, leb, ltb, List, [], ◌∷◌, length, arith, refl, ap, sym, subst, ⊎_elim, ◌∙◌}
use Rattle.std.specs.List.{filter, list_all, list_any, range_with_len}
use Rattle.std.proofs.lemmas.Bool.{and_from, and_parts, cases_Bool, cases_lt, le-leb, leb-true, lt-ltb, ltb-true, not_from_false, or_cases, or_left, or_parts, or_right}
use Rattle.std.proofs.Math.Nat.{two-pow-succ}
use Rattle.std.proofs.lemmas.Nat.{pow_pos}
use Rattle.vf_spans.specs.Members.{has}
use Rattle.cert_boxes.specs.declared.span.CellSpan.{CellSpan}
use Rattle.cert_boxes.specs.Rows.{AreAlike, covers_from, covers_throughout, has_both, has_index, is_throughout}

-- two tests that say yes together are one
pub same_tests : (a b : Bool) → (a ≡ true → b ≡ true) → (b ≡ true → a ≡ true) → a ≡ b
same_tests true true h k = refl
same_tests true false h k = sym (h refl)
same_tests false true h k = k refl
same_tests false false h k = refl

-- a test of the numbers from one on
pub all_from : (test : ℕ → Bool) (from many : ℕ) → ((e : ℕ) → from ≤ e → e < from + many → test e ≡ true) → list_all test (range_with_len from many) ≡ true
all_from test from zero each = refl
all_from test from (suc many) each =
    and_from (test from) (list_all test (range_with_len (from + 1) many)) (each from (omega arith) (omega arith))
    (all_from test (from + 1) many (λ e after before. each e (omega arith) (omega arith)))

pub all_at : (test : ℕ → Bool) (from many : ℕ) → list_all test (range_with_len from many) ≡ true → (e : ℕ) → from ≤ e → e < from + many → test e ≡ true
all_at test from zero all e after before = absurd (omega arith)
all_at test from (suc many) all e after before =
    let both = and_parts (test from) (list_all test (range_with_len (from + 1) many)) all in
    ⊎_elim
    (λ later. all_at test (from + 1) many both.1 e (omega arith) (omega arith))
    (λ soon. let same : from ≡ e = omega arith in subst (λ k. test k ≡ true) same both.0)
    (cases_lt from e)

-- what some item that was kept passes, some item passes
pub any_of_kept : {X : Type 0} (keep t u : X → Bool) → ((x : X) → keep x ≡ true → t x ≡ true → u x ≡ true) → (xs : List X) → list_any t (filter keep xs) ≡ true → list_any u xs ≡ true
any_of_kept keep t u each [] h = h
any_of_kept keep t u each (x ∷ xs) h =
    ⊎_elim
    (λ yes.
    let here : (t x || list_any t (filter keep xs)) ≡ true = sym (ap (λ b. list_any t (cond b (x ∷ filter keep xs) (filter keep xs))) yes) ∙ h in
    ⊎_elim (λ is. or_left (u x) (list_any u xs) (each x yes is)) (λ is. or_right (u x) (list_any u xs) (any_of_kept keep t u each xs is)) (or_cases (t x) (list_any t (filter keep xs)) here))
    (λ no.
    let here : list_any t (filter keep xs) ≡ true = sym (ap (λ b. list_any t (cond b (x ∷ filter keep xs) (filter keep xs))) no) ∙ h in
    or_right (u x) (list_any u xs) (any_of_kept keep t u each xs here))
    (cases_Bool (keep x))

-- what some item passes, some item that is kept passes, unless one of those that are all in passes too
pub any_kept : {X : Type 0} (all t keep u : X → Bool) → ((x : X) → t x ≡ true → (all x ≡ true → u x ≡ true → ⊥) → keep x ≡ true) → (xs : List X)
    → list_any u (filter all xs) ≡ false → list_any t xs ≡ true → list_any t (filter keep xs) ≡ true
any_kept all t keep u each [] none h = h
any_kept all t keep u each (x ∷ xs) none h =
    let whole : list_any u (cond (all x) (x ∷ filter all xs) (filter all xs)) ≡ false = none in
    let later : list_any u (filter all xs) ≡ false =
    ⊎_elim
    (λ yes. (or_parts (u x) (list_any u (filter all xs)) (sym (ap (λ b. list_any u (cond b (x ∷ filter all xs) (filter all xs))) yes) ∙ whole)).1)
    (λ no. sym (ap (λ b. list_any u (cond b (x ∷ filter all xs) (filter all xs))) no) ∙ whole)
    (cases_Bool (all x)) in
    let here : all x ≡ true → u x ≡ true → ⊥ =
    λ yes is. let f = (or_parts (u x) (list_any u (filter all xs)) (sym (ap (λ b. list_any u (cond b (x ∷ filter all xs) (filter all xs))) yes) ∙ whole)).0 in cc in
    ⊎_elim
    (λ is.
    let kept = each x is here in
    ap (λ b. list_any t (cond b (x ∷ filter keep xs) (filter keep xs))) kept ∙ or_left (t x) (list_any t (filter keep xs)) is)
    (λ is.
    let rest = any_kept all t keep u each xs later is in
    ⊎_elim
    (λ yes. ap (λ b. list_any t (cond b (x ∷ filter keep xs) (filter keep xs))) yes ∙ or_right (t x) (list_any t (filter keep xs)) rest)
    (λ no. ap (λ b. list_any t (cond b (x ∷ filter keep xs) (filter keep xs))) no ∙ rest)
    (cases_Bool (keep x)))
    (or_cases (t x) (list_any t xs) h)

-- the parts of a test of a span
pub record HasBoth (l e : ℕ) (span : CellSpan) : Type 0 where
  pub index : has_index l span ≡ true
  pub after : span.from ≤ e
  pub before : e < span.to

pub both_parts : (l e : ℕ) (span : CellSpan) → has_both l e span ≡ true → HasBoth l e span
both_parts l e span h =
    let first = and_parts (has_index l span) (leb span.from e && ltb e span.to) h in let last = and_parts (leb span.from e) (ltb e span.to) first.1 in record {
      index = first.0;
      after = leb-true span.from e last.0;
      before = ltb-true e span.to last.1;
    }

pub both_from : (l e : ℕ) (span : CellSpan) → HasBoth l e span → has_both l e span ≡ true
both_from l e span h =
    and_from (has_index l span) (leb span.from e && ltb e span.to) h.index (and_from (leb span.from e) (ltb e span.to) (le-leb span.from e h.after) (lt-ltb e span.to h.before))

throughout_parts : (from to : ℕ) (span : CellSpan) → is_throughout from to span ≡ true → (span.from ≤ from) × (to ≤ span.to)
throughout_parts from to span h = let both = and_parts (leb span.from from) (leb to span.to) h in (leb-true span.from from both.0, leb-true to span.to both.1)

throughout_from : (from to : ℕ) (span : CellSpan) → span.from ≤ from → to ≤ span.to → is_throughout from to span ≡ true
throughout_from from to span h k = and_from (leb span.from from) (leb to span.to) (le-leb span.from from h) (le-leb to span.to k)

-- a span that has all of a part of the time and the index covers it there
all_cover : (spans : List CellSpan) (l from to e : ℕ) → from ≤ e → e < to → list_any (has_index l) (filter (is_throughout from to) spans) ≡ true → list_any (has_both l e) spans ≡ true
all_cover spans l from to e after before h =
    any_of_kept (is_throughout from to) (has_index l) (has_both l e)
    (λ span whole index. let t = throughout_parts from to span whole in both_from l e span record { index = index; after = omega (arith, t.0, after); before = omega (arith, t.1, before) })
    spans h

-- a test that cannot say yes
not_whole : (from to : ℕ) (span : CellSpan) → (is_throughout from to span ≡ true → ⊥) → not (is_throughout from to span) ≡ true
not_whole from to span none = ⊎_elim (λ yes. absurd (none yes)) (λ no. not_from_false (is_throughout from to span) no) (cases_Bool (is_throughout from to span))

-- where none of those has the index, what is covered is covered by the other spans
covered_rest : (spans : List CellSpan) (l from to e : ℕ) → list_any (has_index l) (filter (is_throughout from to) spans) ≡ false
    → list_any (has_both l e) spans ≡ true → list_any (has_both l e) (filter (λ span. not (is_throughout from to span)) spans) ≡ true
covered_rest spans l from to e none h =
    any_kept (is_throughout from to) (has_both l e) (λ span. not (is_throughout from to span)) (has_index l)
    (λ span is apart. let b = both_parts l e span is in not_whole from to span (λ whole. apart whole b.index))
    spans none h

some_in : (keep : CellSpan → Bool) (l e : ℕ) (spans : List CellSpan) → list_any (has_both l e) (filter keep spans) ≡ true → list_any (has_both l e) spans ≡ true
some_in keep l e spans h = any_of_kept keep (has_both l e) (has_both l e) (λ x kept is. is) spans h

-- the spans that have not all of a part of the time
abbrev pub rest_of : ℕ → ℕ → List CellSpan → List CellSpan
rest_of from to spans = filter (λ span. not (is_throughout from to span)) spans

-- a part of two halves
pub cover_halves : (spans : List CellSpan) (l from half mid to many : ℕ) → mid ≡ from + half → to ≡ mid + half → many ≡ half + half
    → covers_from spans l from many
    ≡ (list_any (has_index l) (filter (is_throughout from to) spans) || (covers_from (rest_of from to spans) l from half && covers_from (rest_of from to spans) l mid half))
cover_halves spans l from half mid to many em et en =
    let whole = list_any (has_index l) (filter (is_throughout from to) spans) in
    let rest = rest_of from to spans in
    let early = covers_from rest l from half in
    let late = covers_from rest l mid half in
    same_tests (covers_from spans l from many) (whole || (early && late))
    (λ all.
    ⊎_elim (λ yes. or_left whole (early && late) yes)
    (λ no.
    or_right whole (early && late)
    (and_from early late
    (all_from (λ e. list_any (has_both l e) rest) from half (λ e after before. covered_rest spans l from to e no (all_at (λ k. list_any (has_both l k) spans) from many all e after (omega arith))))
    (all_from (λ e. list_any (has_both l e) rest) mid half (λ e after before. covered_rest spans l from to e no (all_at (λ k. list_any (has_both l k) spans) from many all e (omega arith) (omega arith))))))
    (cases_Bool whole))
    (λ some.
    all_from (λ e. list_any (has_both l e) spans) from many
    (λ e after before.
    ⊎_elim (λ yes. all_cover spans l from to e after (omega arith) yes)
    (λ both.
    let parts = and_parts early late both in
    ⊎_elim
    (λ soon. some_in (λ span. not (is_throughout from to span)) l e spans (all_at (λ k. list_any (has_both l k) rest) from half parts.0 e after (omega arith)))
    (λ later. some_in (λ span. not (is_throughout from to span)) l e spans (all_at (λ k. list_any (has_both l k) rest) mid half parts.1 e later (omega arith)))
    (cases_lt e mid))
    (or_cases whole (early && late) some)))

-- what some item passes, some item that is kept passes in another way
any_kept_index : {X : Type 0} (keep t u : X → Bool) → ((x : X) → t x ≡ true → (keep x ≡ true) × (u x ≡ true)) → (xs : List X) → list_any t xs ≡ true → list_any u (filter keep xs) ≡ true
any_kept_index keep t u each [] h = h
any_kept_index keep t u each (x ∷ xs) h =
    ⊎_elim
    (λ is.
    let both = each x is in
    ap (λ b. list_any u (cond b (x ∷ filter keep xs) (filter keep xs))) both.0 ∙ or_left (u x) (list_any u (filter keep xs)) both.1)
    (λ is.
    let rest = any_kept_index keep t u each xs is in
    ⊎_elim
    (λ yes. ap (λ b. list_any u (cond b (x ∷ filter keep xs) (filter keep xs))) yes ∙ or_right (u x) (list_any u (filter keep xs)) rest)
    (λ no. ap (λ b. list_any u (cond b (x ∷ filter keep xs) (filter keep xs))) no ∙ rest)
    (cases_Bool (keep x)))
    (or_cases (t x) (list_any t xs) h)

-- one finest cell
pub cover_one : (spans : List CellSpan) (l from to many : ℕ) → to ≡ from + 1 → many ≡ 1 → covers_from spans l from many ≡ list_any (has_index l) (filter (is_throughout from to) spans)
cover_one spans l from to many et en =
    same_tests (covers_from spans l from many) (list_any (has_index l) (filter (is_throughout from to) spans))
    (λ all.
    any_kept_index (is_throughout from to) (has_both l from) (has_index l)
    (λ span is. let b = both_parts l from span is in (throughout_from from to span b.after (omega (arith, b.before, et)), b.index)) spans
    (all_at (λ e. list_any (has_both l e) spans) from many all from (omega arith) (omega arith)))
    (λ some. all_from (λ e. list_any (has_both l e) spans) from many (λ e after before. all_cover spans l from to e after (omega arith) some))

-- no spans cover nothing
pub cover_none : (l from many : ℕ) → 0 < many → covers_from [] l from many ≡ false
cover_none l from zero some = absurd (omega arith)
cover_none l from (suc many) some = refl

-- lists that are alike cover alike
pub covers_alike : (spans others : List CellSpan) (l from many : ℕ) → AreAlike spans others → covers_from spans l from many ≡ covers_from others l from many
covers_alike spans others l from many alike = λ t. list_all (λ e. alike (has_both l e) t) (range_with_len from many)

-- the finest cells of the whole time, of which there are 2^10
pub throughout_is : (spans : List CellSpan) (l : ℕ) → covers_from spans l 0 (2 ^ 10) ≡ covers_throughout spans l
unfolding covers_throughout
throughout_is spans l = refl

pub throughout_alike : (spans others : List CellSpan) (l : ℕ) → AreAlike spans others → covers_throughout spans l ≡ covers_throughout others l
throughout_alike spans others l alike = sym (throughout_is spans l) ∙ covers_alike spans others l 0 (2 ^ 10) alike ∙ throughout_is others l

pub throughout_none : (l : ℕ) → covers_throughout [] l ≡ false
throughout_none l = sym (throughout_is [] l) ∙ cover_none l 0 (2 ^ 10) (omega arith)

-- a set that has what some spans cover has what the same spans by another name cover
pub throughout_by : (set : List Bool) (spans others : List CellSpan) (bound : ℕ) → spans ≡ others → ((l : ℕ) → l < bound → has set l ≡ covers_from spans l 0 (2 ^ 10))
    → (l : ℕ) → l < bound → has set l ≡ covers_throughout others l
throughout_by set spans others bound same exact l low =
    exact l low ∙ throughout_is spans l ∙ ap (λ (s : List CellSpan). covers_throughout s l) same

-- what the items that are kept pass
kept_one : {X : Type 0} (keep : Bool) (t : X → Bool) (x : X) (kept : List X) (rest : Bool) → list_any t kept ≡ rest → list_any t (cond keep (x ∷ kept) kept) ≡ ((keep && t x) || rest)
kept_one true t x kept rest h = ap (λ b. t x || b) h
kept_one false t x kept rest h = h

pub any_filtered : {X : Type 0} (keep t : X → Bool) (xs : List X) → list_any t (filter keep xs) ≡ list_any (λ x. keep x && t x) xs
any_filtered keep t [] = refl
any_filtered keep t (x ∷ xs) = kept_one (keep x) t x (filter keep xs) (list_any (λ y. keep y && t y) xs) (any_filtered keep t xs)

-- tests that agree at each number
all_same : (p q : ℕ → Bool) (from many : ℕ) → ((e : ℕ) → from ≤ e → e < from + many → p e ≡ q e) → list_all p (range_with_len from many) ≡ list_all q (range_with_len from many)
all_same p q from zero each = refl
all_same p q from (suc many) each =
    ap (λ b. b && list_all p (range_with_len (from + 1) many)) (each from (omega arith) (omega arith))
    ∙ ap (λ b. q from && b) (all_same p q (from + 1) many (λ e after before. each e (omega arith) (omega arith)))

-- A part of the time is covered by the spans that have some of it: a span that has some of the finest cells from x on and below y has
-- all from y - 1 on and below x + 1.
has_some : (l e from to : ℕ) (span : CellSpan) → from ≤ e → e < to → (is_throughout (to - 1) (from + 1) span && has_both l e span) ≡ has_both l e span
has_some l e from to span after before =
    same_tests (is_throughout (to - 1) (from + 1) span && has_both l e span) (has_both l e span)
    (λ h. (and_parts (is_throughout (to - 1) (from + 1) span) (has_both l e span) h).1)
    (λ h.
    let b = both_parts l e span h in
    and_from (is_throughout (to - 1) (from + 1) span) (has_both l e span) (throughout_from (to - 1) (from + 1) span (omega (arith, b.after, before)) (omega (arith, b.before, after))) h)

pub cover_some : (spans part : List CellSpan) (l from to many : ℕ) → to ≡ from + many → AreAlike part (filter (is_throughout (to - 1) (from + 1)) spans) → covers_from part l from many ≡ covers_from spans l from many
cover_some spans part l from to many et alike =
    all_same (λ e. list_any (has_both l e) part) (λ e. list_any (has_both l e) spans) from many
    (λ e after before.
    alike (has_both l e)
    ∙ any_filtered (is_throughout (to - 1) (from + 1)) (has_both l e) spans
    ∙ (λ t. list_any (λ span. has_some l e from to span after (omega arith) t) spans))

-- the cover of a part of the time by those of its halves
pub cover_joined : (spans all rest later : List CellSpan) (l from h mid to many : ℕ) (set whole both first last : List Bool) → 0 < h → many ≡ 2 ^ h → mid ≡ from + many / 2 → to ≡ from + many
    → AreAlike all (filter (is_throughout from to) spans) → AreAlike rest (rest_of from to spans) → AreAlike later rest
    → has set l ≡ (has whole l || has both l) → has both l ≡ (has first l && has last l) → has whole l ≡ list_any (has_index l) all
    → has first l ≡ covers_from rest l from (2 ^ (h - 1)) → has last l ≡ covers_from later l mid (2 ^ (h - 1)) → has set l ≡ covers_from spans l from (2 ^ h)
cover_joined spans all rest later l from zero mid to many set whole both first last some em ed et ea er el es eb ew ef eg = absurd (omega arith)
cover_joined spans all rest later l from (suc n) mid to many set whole both first last some em ed et ea er el es eb ew ef eg =
    let half = 2 ^ n in
    let less : suc n - 1 ≡ n = omega arith in
    let double = two-pow-succ n in
    let halves : 2 ^ suc n ≡ half + half = omega arith in
    let middle : mid ≡ from + half = omega arith in
    let end : to ≡ mid + half = omega arith in
    let others = rest_of from to spans in
    es ∙ ap (λ b. b || has both l) (ew ∙ ea (has_index l))
    ∙ ap (λ b. list_any (has_index l) (filter (is_throughout from to) spans) || b)
    (eb ∙ ap (λ b. b && has last l) (ef ∙ ap (λ k. covers_from rest l from (2 ^ k)) less ∙ covers_alike rest others l from half er)
    ∙ ap (λ b. covers_from others l from half && b) (eg ∙ ap (λ k. covers_from later l mid (2 ^ k)) less ∙ covers_alike later rest l mid half el ∙ covers_alike rest others l mid half er))
    ∙ sym (cover_halves spans l from half mid to (2 ^ suc n) middle end halves)

pub cover_whole : (spans all : List CellSpan) (l from h to many : ℕ) (whole : List Bool) → h ≡ 0 → many ≡ 2 ^ h → to ≡ from + many → AreAlike all (filter (is_throughout from to) spans)
    → has whole l ≡ list_any (has_index l) all → has whole l ≡ covers_from spans l from (2 ^ h)
cover_whole spans all l from h to many whole eh em et ea ew =
    let one : 2 ^ h ≡ 1 = ap (λ k. 2 ^ k) eh in
    ew ∙ ea (has_index l) ∙ sym (cover_one spans l from to (2 ^ h) (omega arith) one)

-- and where all spans have the whole part
neither : (a b c : Bool) → b ≡ false → a ≡ (a || (b && c))
neither true b c h = refl
neither false true c h = cc
neither false false c h = refl

pub cover_alone : (spans all rest : List CellSpan) (l from h to many : ℕ) (whole : List Bool) → many ≡ 2 ^ h → to ≡ from + many → AreAlike all (filter (is_throughout from to) spans)
    → AreAlike rest (rest_of from to spans) → length rest ≡ 0 → has whole l ≡ list_any (has_index l) all → has whole l ≡ covers_from spans l from (2 ^ h)
cover_alone spans all rest l from zero to many whole em et ea er none ew = cover_whole spans all l from 0 to many whole refl em et ea ew
cover_alone spans all (span ∷ rest) l from (suc n) to many whole em et ea er none ew = absurd (omega arith)
cover_alone spans all [] l from (suc n) to many whole em et ea er none ew =
    let half = 2 ^ n in
    let double = two-pow-succ n in
    let halves : 2 ^ suc n ≡ half + half = omega arith in
    let positive : 0 < half = pow_pos n in
    let mid = from + half in
    let end : to ≡ mid + half = omega arith in
    let others = rest_of from to spans in
    let no : covers_from others l from half ≡ false = sym (covers_alike [] others l from half er) ∙ cover_none l from half positive in
    ew ∙ ea (has_index l)
    ∙ neither (list_any (has_index l) (filter (is_throughout from to) spans)) (covers_from others l from half) (covers_from others l mid half) no
    ∙ sym (cover_halves spans l from half mid to (2 ^ suc n) refl end halves)

-- no spans cover no part of the time
pub cover_nothing : (spans : List CellSpan) (l from h : ℕ) → length spans ≡ 0 → covers_from spans l from (2 ^ h) ≡ false
cover_nothing [] l from h none = cover_none l from (2 ^ h) (pow_pos h)
cover_nothing (span ∷ spans) l from h none = absurd (omega arith)

-- both halves lie within the whole time
pub early_fits : (h from : ℕ) → 0 < h → from + 2 ^ h ≤ 1024 → from + 2 ^ (h - 1) ≤ 1024
early_fits zero from some within = absurd (omega arith)
early_fits (suc n) from some within =
    let less : suc n - 1 ≡ n = omega arith in
    let double = two-pow-succ n in
    subst (λ k. from + 2 ^ k ≤ 1024) (sym less) (omega arith)

pub late_fits : (h from many : ℕ) → 0 < h → many ≡ 2 ^ h → from + 2 ^ h ≤ 1024 → from + many / 2 + 2 ^ (h - 1) ≤ 1024
late_fits zero from many some em within = absurd (omega arith)
late_fits (suc n) from many some em within =
    let less : suc n - 1 ≡ n = omega arith in
    let double = two-pow-succ n in
    subst (λ k. from + many / 2 + 2 ^ k ≤ 1024) (sym less) (omega arith)
