-- Spans that were moved in front of the others: what those in front pass, and what the others do.
use Rattle.std.proofs.Common.{◌≡◌, ℕ, zero, suc, ◌+◌, ◌<◌, ◌≤◌, Bool, true, false, not, ◌||◌, ◌&&◌, List, [], ◌∷◌, ◌++◌, length, get_or, set, take, drop, arith, refl, ap, sym, subst, ⊎_elim, ◌∙◌}
use Rattle.std.specs.List.{filter, list_any, swap}
use Rattle.std.proofs.lemmas.Bool.{cases_eq, cases_lt}
use Rattle.std.proofs.lemmas.List.{get_or-set_other, get_or-set_same, get_or_default, length-set, take-append-drop}
use Rattle.std.proofs.lemmas.List.Edits.{length-swap, swap_is}
use Rattle.std.proofs.lemmas.List.Folds.{list_any-append}
use Rattle.cert_boxes.specs.declared.span.CellSpan.{CellSpan}
use Rattle.cert_boxes.specs.Rows.{AreAlike}
use Rattle.cert_boxes.proofs.Covers.{any_filtered}

-- each item answers a test so
abbrev pub EachIs : {X : Type 0} → (X → Bool) → Bool → List X → Type 0
EachIs test answer xs = (k : ℕ) (d : _) → k < length xs → test (get_or xs k d) ≡ answer

front_is : {X : Type 0} (test : X → Bool) (answer : Bool) (xs : List X) (n : ℕ) → ((k : ℕ) (d : X) → k < n → k < length xs → test (get_or xs k d) ≡ answer) → EachIs test answer (take n xs)
front_is test answer [] zero h k d low = absurd (omega arith)
front_is test answer [] (suc n) h k d low = absurd (omega arith)
front_is test answer (x ∷ xs) zero h k d low = absurd (omega arith)
front_is test answer (x ∷ xs) (suc n) h zero d low = h 0 d (omega arith) (omega arith)
front_is test answer (x ∷ xs) (suc n) h (suc k) d low = front_is test answer xs n (λ j e small in_list. h (suc j) e (omega arith) (omega arith)) k d (omega arith)

back_is : {X : Type 0} (test : X → Bool) (answer : Bool) (xs : List X) (n : ℕ) → ((k : ℕ) (d : X) → n ≤ k → k < length xs → test (get_or xs k d) ≡ answer) → EachIs test answer (drop n xs)
back_is test answer [] zero h k d low = absurd (omega arith)
back_is test answer [] (suc n) h k d low = absurd (omega arith)
back_is test answer (x ∷ xs) zero h k d low = h k d (omega arith) low
back_is test answer (x ∷ xs) (suc n) h k d low = back_is test answer xs n (λ j e after in_list. h (suc j) e (omega arith) (omega arith)) k d low

-- where each passes a test it says nothing more, and where none does nothing passes both
keep_all : {X : Type 0} (test t : X → Bool) (xs : List X) → EachIs test true xs → list_any (λ x. test x && t x) xs ≡ list_any t xs
keep_all test t [] h = refl
keep_all test t (x ∷ xs) h =
    ap (λ b. (b && t x) || list_any (λ y. test y && t y) xs) (h 0 x (omega arith)) ∙ ap (λ b. t x || b) (keep_all test t xs (λ k d low. h (suc k) d (omega arith)))

keep_none : {X : Type 0} (test t : X → Bool) (xs : List X) → EachIs test false xs → list_any (λ x. test x && t x) xs ≡ false
keep_none test t [] h = refl
keep_none test t (x ∷ xs) h =
    ap (λ b. (b && t x) || list_any (λ y. test y && t y) xs) (h 0 x (omega arith)) ∙ keep_none test t xs (λ k d low. h (suc k) d (omega arith))

or_no : (a b : Bool) → b ≡ false → a ≡ (a || b)
or_no true b h = refl
or_no false b h = sym h

-- the parts of a list of which the first has all that pass and the last all that don't
front_kept : (test : CellSpan → Bool) (front back : List CellSpan) → EachIs test true front → EachIs test false back → (spans : List CellSpan) → AreAlike (front ++ back) spans → AreAlike front (filter test spans)
front_kept test front back all none spans alike t =
    let both = λ (span : CellSpan). test span && t span in
    sym (keep_all test t front all)
    ∙ or_no (list_any both front) (list_any both back) (keep_none test t back none)
    ∙ sym (list_any-append both front back)
    ∙ alike both
    ∙ sym (any_filtered test t spans)

back_kept : (test : CellSpan → Bool) (front back : List CellSpan) → EachIs test false front → EachIs test true back → (spans : List CellSpan) → AreAlike (front ++ back) spans → AreAlike back (filter test spans)
back_kept test front back none all spans alike t =
    let both = λ (span : CellSpan). test span && t span in
    sym (keep_all test t back all)
    ∙ ap (λ b. b || list_any both back) (sym (keep_none test t front none))
    ∙ sym (list_any-append both front back)
    ∙ alike both
    ∙ sym (any_filtered test t spans)

-- a list is alike with its parts joined
joined_alike : (n : ℕ) (spans others : List CellSpan) → AreAlike spans others → AreAlike (take n spans ++ drop n spans) others
joined_alike n spans others alike = subst (λ (l : List CellSpan). AreAlike l others) (sym (take-append-drop n spans)) alike

pub gathered_front : (test : CellSpan → Bool) (spans others : List CellSpan) (n : ℕ) → AreAlike spans others → ((k : ℕ) (d : CellSpan) → k < n → test (get_or spans k d) ≡ true)
    → ((k : ℕ) (d : CellSpan) → n ≤ k → k < length spans → test (get_or spans k d) ≡ false) → AreAlike (take n spans) (filter test others)
gathered_front test spans others n alike front back =
    front_kept test (take n spans) (drop n spans) (front_is test true spans n (λ k d low within. front k d low)) (back_is test false spans n back) others (joined_alike n spans others alike)

pub gathered_back : (test : CellSpan → Bool) (spans others : List CellSpan) (n : ℕ) → AreAlike spans others → ((k : ℕ) (d : CellSpan) → k < n → test (get_or spans k d) ≡ true)
    → ((k : ℕ) (d : CellSpan) → n ≤ k → k < length spans → test (get_or spans k d) ≡ false) → AreAlike (drop n spans) (filter (λ span. not (test span)) others)
gathered_back test spans others n alike front back =
    back_kept (λ span. not (test span)) (take n spans) (drop n spans) (front_is (λ span. not (test span)) false spans n (λ k d low within. ap not (front k d low)))
    (back_is (λ span. not (test span)) true spans n (λ k d after within. ap not (back k d after within))) others (joined_alike n spans others alike)

-- one item more that passes
pub passed_more : (test : CellSpan → Bool) (spans : List CellSpan) (front : ℕ) (item : CellSpan) → front < length spans → test (get_or spans front item) ≡ true
    → ((k : ℕ) (d : CellSpan) → k < front → test (get_or spans k d) ≡ true) → (k : ℕ) (d : CellSpan) → k < front + 1 → test (get_or spans k d) ≡ true
passed_more test spans front item low here before k d less =
    ⊎_elim (λ first. before k d first)
    (λ last. let same : front ≡ k = omega arith in subst (λ j. test (get_or spans j d) ≡ true) same (ap test (get_or_default spans front d item low) ∙ here))
    (cases_lt k front)

-- an item that fails goes in front of those that fail, in the place of another
pub swapped_front : (test : CellSpan → Bool) (spans swapped : List CellSpan) (front back : ℕ) → swapped ≡ swap spans front back → front ≤ back → back < length spans
    → ((k : ℕ) (d : CellSpan) → k < front → test (get_or spans k d) ≡ true) → (k : ℕ) (d : CellSpan) → k < front → test (get_or swapped k d) ≡ true
swapped_front test spans swapped front back is le low passes k d before =
    let edited = sym (swap_is spans front back d (omega arith) low) in
    ap (λ l. test (get_or l k d)) (is ∙ edited)
    ∙ ap test (get_or-set_other (set spans front (get_or spans back d)) back k (get_or spans front d) d (omega arith) ∙ get_or-set_other spans front k (get_or spans back d) d (omega arith))
    ∙ passes k d before

pub swapped_back : (test : CellSpan → Bool) (spans swapped : List CellSpan) (front back : ℕ) (item : CellSpan) → swapped ≡ swap spans front back → front ≤ back → back < length spans
    → test (get_or spans front item) ≡ false → ((k : ℕ) (d : CellSpan) → back + 1 ≤ k → k < length spans → test (get_or spans k d) ≡ false)
    → (k : ℕ) (d : CellSpan) → back ≤ k → k < length swapped → test (get_or swapped k d) ≡ false
swapped_back test spans swapped front back item is le low here fails k d after within =
    let edited = sym (swap_is spans front back d (omega arith) low) in
    let size : length swapped ≡ length spans = ap length is ∙ length-swap spans front back in
    let moved = set spans front (get_or spans back d) in
    let same_size : length moved ≡ length spans = length-set spans front (get_or spans back d) in
    ap (λ l. test (get_or l k d)) (is ∙ edited)
    ∙ ⊎_elim
    (λ e.
    subst (λ j. test (get_or (set moved back (get_or spans front d)) j d) ≡ false) e
    (ap test (get_or-set_same moved back (get_or spans front d) d (omega arith) ∙ get_or_default spans front d item (omega arith)) ∙ here))
    (λ ne.
    ap test (get_or-set_other moved back k (get_or spans front d) d (λ e. ne (sym e)) ∙ get_or-set_other spans front k (get_or spans back d) d (λ e. absurd (ne (omega arith))))
    ∙ fails k d (let apart = ne in ⊎_elim (λ less. omega arith) (λ more. absurd (ne (omega arith))) (cases_lt back k)) (omega arith))
    (cases_eq back k)

-- two lists that are alike with the front of a list and with the rest, joined
pub parts_alike : (front rest spans others : List CellSpan) (n : ℕ) → AreAlike rest (drop n spans) → front ≡ take n spans → AreAlike spans others → AreAlike (front ++ rest) others
parts_alike front rest spans others n alike is whole t =
    list_any-append t front rest
    ∙ ap (λ l. list_any t l || list_any t rest) is
    ∙ ap (λ b. list_any t (take n spans) || b) (alike t)
    ∙ sym (list_any-append t (take n spans) (drop n spans))
    ∙ ap (list_any t) (take-append-drop n spans)
    ∙ whole t

-- and with a part that is alike in front
pub front_alike : (front spans others : List CellSpan) (n : ℕ) → AreAlike front (take n spans) → AreAlike spans others → AreAlike (front ++ drop n spans) others
front_alike front spans others n alike whole t =
    list_any-append t front (drop n spans)
    ∙ ap (λ b. b || list_any t (drop n spans)) (alike t)
    ∙ sym (list_any-append t (take n spans) (drop n spans))
    ∙ ap (list_any t) (take-append-drop n spans)
    ∙ whole t

-- lists that are alike with a third
pub alike_too : (spans others third : List CellSpan) → AreAlike spans others → AreAlike others third → AreAlike spans third
alike_too spans others third h k t = h t ∙ k t
