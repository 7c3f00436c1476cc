-- What is so of the cells of a box: each holds and is a part of it, and each wanted index has one at each time of the box. Where there are
-- none, one wanted index at the depth does not hold.
use Rattle.std.proofs.Common.{◌≡◌, ℕ, zero, suc, ◌+◌, ◌-◌, ◌*◌, ◌^◌, ◌<◌, ◌≤◌, Bool, true, false, cond, ◌&&◌, leb, ltb, List, [], ◌∷◌, ◌++◌, Option, Some, None, ◌⊎◌, inl, inr, arith, refl, ap, sym, subst, ⊎_elim, ◌∙◌}
use Rattle.std.specs.List.{list_any}
use Rattle.std.proofs.lemmas.Bool.{and_from, cases_Bool, cases_lt, cond-false, cond-true, le-leb, lt-ltb, ltb-true, or_left, or_right, ltb-false}
use Rattle.std.proofs.lemmas.List.Folds.{list_any-append}
use Rattle.std.proofs.Math.Nat.{two-pow-succ}
use Rattle.ray_grid.specs.declared.ray.Ray.{Ray}
use Rattle.cert_lines.specs.declared.cell.CertCell.{CertCell}
use Rattle.cert_boxes.specs.Covering.{finest_in, is_among, is_during}
use Rattle.cert_boxes.specs.Drafts.{halvings_left}
use Rattle.cert_boxes.specs.Making.{both_cells, cells_of_box, cells_of_cut, cells_of_halves, half_way, halves_of}
use Rattle.cert_boxes.proofs.Ends.{IsCut, NoneWanted, cases_cut, cut_is, cut_none}

-- each cell of a list
abbrev pub EachCell : (CertCell → Type 0) → List CertCell → Type 0
EachCell P [] = Unit {0}
EachCell P (cell ∷ cells) = P cell × EachCell P cells

pub each_appended : (P : CertCell → Type 0) (xs ys : List CertCell) → EachCell P xs → EachCell P ys → EachCell P (xs ++ ys)
each_appended P [] ys hx hy = hy
each_appended P (x ∷ xs) ys hx hy = (hx.0, each_appended P xs ys hx.1 hy)

pub each_by : (P Q : CertCell → Type 0) → ((cell : CertCell) → P cell → Q cell) → (cells : List CertCell) → EachCell P cells → EachCell Q cells
each_by P Q by [] h = tt
each_by P Q by (cell ∷ cells) h = (by cell h.0, each_by P Q by cells h.1)

-- a cell that holds and is a part of a box
pub record IsPartOf (holds : CertCell → Bool) (depth : ℕ) (ray : Ray) (end : ℕ) (cell : CertCell) : Type 0 where
  pub held : holds cell ≡ true
  pub same : cell.ray ≡ ray
  pub few : cell.q ≤ depth
  pub part : cell.k < 2 ^ cell.q
  pub some : cell.a < cell.b
  pub within : cell.b ≤ end

-- some cell has the index at the finest cell
abbrev pub has_at : ℕ → ℕ → CertCell → Bool
has_at l e cell = is_among l cell && is_during e cell

abbrev pub IsDuring : ℕ → ℕ → ℕ → Type 0
IsDuring q k e = (k * finest_in q ≤ e) × (e < k * finest_in q + finest_in q)

pub record AreCells (wanted : ℕ → Bool) (holds : CertCell → Bool) (depth : ℕ) (box : CertCell) (cells : List CertCell) : Type 0 where
  pub each : EachCell (IsPartOf holds depth box.ray box.b) cells
  pub cover : (l e : ℕ) → box.a ≤ l → l < box.b → wanted l ≡ true → IsDuring box.q box.k e → list_any (has_at l e) cells ≡ true

-- the box of one index at the depth
abbrev pub least_box : ℕ → ℕ → Ray → ℕ → ℕ → CertCell
least_box depth line ray part place = record { line = line; ray = ray; q = depth; k = part; a = place; b = place + 1 }

pub record IsStuck (wanted : ℕ → Bool) (holds : CertCell → Bool) (depth : ℕ) (box : CertCell) : Type 0 where
  pub place : ℕ
  pub part : ℕ
  pub after : box.a ≤ place
  pub within : place < box.b
  pub there : wanted place ≡ true
  pub few : part < 2 ^ depth
  pub stuck : holds (least_box depth box.line box.ray part place) ≡ false

abbrev pub TreeFacts : (ℕ → Bool) → (CertCell → Bool) → ℕ → CertCell → Option (List CertCell) → Type 0
TreeFacts wanted holds depth box None = IsStuck wanted holds depth box
TreeFacts wanted holds depth box (Some cells) = AreCells wanted holds depth box cells

-- an index is not wanted and unwanted
not_both : (wanted : ℕ → Bool) (l : ℕ) → wanted l ≡ false → wanted l ≡ true → ⊥
not_both wanted l h k = cc

-- a box in two parts
abbrev Has : CertCell → ℕ → ℕ → Type 0
Has box l e = (box.a ≤ l) × (l < box.b) × IsDuring box.q box.k e

record IsSplit (box x y : CertCell) : Type 0 where
  line_x : x.line ≡ box.line
  line_y : y.line ≡ box.line
  ray_x : x.ray ≡ box.ray
  ray_y : y.ray ≡ box.ray
  after_x : box.a ≤ x.a
  after_y : box.a ≤ y.a
  within_x : x.b ≤ box.b
  within_y : y.b ≤ box.b
  split : (l e : ℕ) → Has box l e → Has x l e ⊎ Has y l e

wider_part : (holds : CertCell → Bool) (depth : ℕ) (ray other : Ray) (end later : ℕ) → ray ≡ other → end ≤ later → (cell : CertCell) → IsPartOf holds depth ray end cell → IsPartOf holds depth other later cell
wider_part holds depth ray other end later same le cell p = record { held = p.held; same = p.same ∙ same; few = p.few; part = p.part; some = p.some; within = (let h = p.within in omega arith) }

wider_stuck : (wanted : ℕ → Bool) (holds : CertCell → Bool) (depth : ℕ) (box x : CertCell) → x.line ≡ box.line → x.ray ≡ box.ray → box.a ≤ x.a → x.b ≤ box.b
    → IsStuck wanted holds depth x → IsStuck wanted holds depth box
wider_stuck wanted holds depth box x line ray after within s = record {
  place = s.place;
  part = s.part;
  after = (let h = s.after in omega arith);
  within = (let h = s.within in omega arith);
  there = s.there;
  few = s.few;
  stuck = sym (λ t. holds (least_box depth (line t) (ray t) s.part s.place)) ∙ s.stuck;
}

either : (xs ys : List CertCell) (l e : ℕ) → (list_any (has_at l e) xs ≡ true) ⊎ (list_any (has_at l e) ys ≡ true) → list_any (has_at l e) (xs ++ ys) ≡ true
either xs ys l e h =
    list_any-append (has_at l e) xs ys
    ∙ ⊎_elim (λ one. or_left (list_any (has_at l e) xs) (list_any (has_at l e) ys) one) (λ other. or_right (list_any (has_at l e) xs) (list_any (has_at l e) ys) other) h

both_facts : (wanted : ℕ → Bool) (holds : CertCell → Bool) (depth : ℕ) (box x y : CertCell) (xs ys : Option (List CertCell)) → IsSplit box x y
    → TreeFacts wanted holds depth x xs → TreeFacts wanted holds depth y ys → TreeFacts wanted holds depth box (both_cells xs ys)
both_facts wanted holds depth box x y None ys s hx hy = wider_stuck wanted holds depth box x s.line_x s.ray_x s.after_x s.within_x hx
both_facts wanted holds depth box x y (Some xs) None s hx hy = wider_stuck wanted holds depth box y s.line_y s.ray_y s.after_y s.within_y hy
both_facts wanted holds depth box x y (Some xs) (Some ys) s hx hy = record {
  each = each_appended (IsPartOf holds depth box.ray box.b) xs ys
      (each_by (IsPartOf holds depth x.ray x.b) (IsPartOf holds depth box.ray box.b) (wider_part holds depth x.ray box.ray x.b box.b s.ray_x s.within_x) xs hx.each)
      (each_by (IsPartOf holds depth y.ray y.b) (IsPartOf holds depth box.ray box.b) (wider_part holds depth y.ray box.ray y.b box.b s.ray_y s.within_y) ys hy.each);
  cover = λ l e after within want during.
      either xs ys l e
      (⊎_elim
      (λ one. inl (hx.cover l e one.0 one.1 want one.2))
      (λ other. inr (hy.cover l e other.0 other.1 want other.2))
      (s.split l e (after, within, during)));
}

-- halves along the ray
abbrev pub front : CertCell → CertCell
front box = record box { b = half_way box }

abbrev pub back : CertCell → CertCell
back box = record box { a = half_way box }

along : (box : CertCell) → box.a + 1 < box.b → IsSplit box (front box) (back box)
along box long = record {
  line_x = refl;
  line_y = refl;
  ray_x = refl;
  ray_y = refl;
  after_x = omega arith;
  after_y = omega arith;
  within_x = omega arith;
  within_y = omega arith;
  split = λ l e h. ⊎_elim (λ low. inl (h.0, low, h.2)) (λ high. inr (high, h.1, h.2)) (cases_lt l (half_way box));
}

-- and in time
abbrev pub early : CertCell → CertCell
early box = record box { q = box.q + 1; k = 2 * box.k }

abbrev pub late : CertCell → CertCell
late box = record box { q = box.q + 1; k = 2 * box.k + 1 }

pub finest_halved : (q : ℕ) → q < 10 → finest_in q ≡ finest_in (q + 1) + finest_in (q + 1)
finest_halved q low =
    let n = 10 - (q + 1) in
    let e : 10 - q ≡ suc n = omega arith in
    ap (λ x. 2 ^ x) e ∙ two-pow-succ n

during_half : (k e whole half : ℕ) → whole ≡ half + half → k * whole ≤ e → e < k * whole + whole
    → ((2 * k * half ≤ e) × (e < 2 * k * half + half)) ⊎ (((2 * k + 1) * half ≤ e) × (e < (2 * k + 1) * half + half))
during_half k e whole half same after before =
    let twice : k * whole ≡ 2 * k * half = ap (λ x. k * x) same ∙ omega arith in
    let more : (2 * k + 1) * half ≡ 2 * k * half + half = omega arith in
    ⊎_elim (λ low. inl (omega arith, low)) (λ high. inr (omega arith, omega arith)) (cases_lt e (2 * k * half + half))

in_time : (box : CertCell) → box.q < 10 → IsSplit box (early box) (late box)
in_time box low = record {
  line_x = refl;
  line_y = refl;
  ray_x = refl;
  ray_y = refl;
  after_x = omega arith;
  after_y = omega arith;
  within_x = omega arith;
  within_y = omega arith;
  split = λ l e h.
      ⊎_elim (λ one. inl (h.0, h.1, one)) (λ other. inr (h.0, h.1, other))
      (during_half box.k e (finest_in box.q) (finest_in (box.q + 1)) (finest_halved box.q low) h.2.0 h.2.1);
}

pub part_early : (q k : ℕ) → k < 2 ^ q → 2 * k < 2 ^ (q + 1)
part_early q k h = let e : q + 1 ≡ suc q = omega arith in let d : 2 ^ (q + 1) ≡ 2 ^ q + 2 ^ q = ap (λ x. 2 ^ x) e ∙ two-pow-succ q in omega arith

pub part_late : (q k : ℕ) → k < 2 ^ q → 2 * k + 1 < 2 ^ (q + 1)
part_late q k h = let e : q + 1 ≡ suc q = omega arith in let d : 2 ^ (q + 1) ≡ 2 ^ q + 2 ^ q = ap (λ x. 2 ^ x) e ∙ two-pow-succ q in omega arith

-- a box that was cut down, by what is so of smaller boxes
abbrev Smaller : (ℕ → Bool) → (CertCell → Bool) → ℕ → ℕ → (CertCell → Option (List CertCell)) → Type 0
Smaller wanted holds depth n cells_of = (box : CertCell) → halvings_left depth box < n → box.q ≤ depth → box.k < 2 ^ box.q → TreeFacts wanted holds depth box (cells_of box)

whole_facts : (wanted : ℕ → Bool) (holds : CertCell → Bool) (depth : ℕ) (box : CertCell) → box.a < box.b → box.q ≤ depth → box.k < 2 ^ box.q → holds box ≡ true
    → AreCells wanted holds depth box (box ∷ [])
whole_facts wanted holds depth box some few part held = record {
  each = (record { held = held; same = refl; few = few; part = part; some = some; within = omega arith }, tt);
  cover = λ l e after within want during.
      or_left (has_at l e box) false
      (and_from (is_among l box) (is_during e box)
      (and_from (leb box.a l) (ltb l box.b) (le-leb box.a l after) (lt-ltb l box.b within))
      (and_from (leb (box.k * finest_in box.q) e) (ltb e (box.k * finest_in box.q + finest_in box.q)) (le-leb (box.k * finest_in box.q) e during.0) (lt-ltb e (box.k * finest_in box.q + finest_in box.q) during.1)));
}

least_is : (depth : ℕ) (box : CertCell) → box.q ≡ depth → box.b ≡ box.a + 1 → box ≡ least_box depth box.line box.ray box.k box.a
least_is depth box eq eb = λ t. record { line = box.line; ray = box.ray; q = eq t; k = box.k; a = box.a; b = eb t }

halved_facts : (wanted : ℕ → Bool) (holds : CertCell → Bool) (depth n : ℕ) (cells_of : CertCell → Option (List CertCell)) (box : CertCell) → depth ≤ 10 → halvings_left depth box ≤ n
    → box.a < box.b → box.q ≤ depth → box.k < 2 ^ box.q → wanted box.a ≡ true → holds box ≡ false → Smaller wanted holds depth n cells_of
    → TreeFacts wanted holds depth box (cells_of_halves cells_of (halves_of depth box))
halved_facts wanted holds depth n cells_of box shallow few some level part there stands smaller =
    let time : Option (CertCell × CertCell) = cond (ltb box.q depth) (Some (early box, late box)) None in
    ⊎_elim
    (λ long.
    let far = ltb-true (box.a + 1) box.b long in
    subst (λ halves. TreeFacts wanted holds depth box (cells_of_halves cells_of halves)) (sym (cond-true (ltb (box.a + 1) box.b) (Some (front box, back box)) time long))
    (both_facts wanted holds depth box (front box) (back box) (cells_of (front box)) (cells_of (back box)) (along box far)
    (smaller (front box) (omega arith) level part) (smaller (back box) (omega arith) level part)))
    (λ short.
    let near = ltb-false (box.a + 1) box.b short in
    subst (λ halves. TreeFacts wanted holds depth box (cells_of_halves cells_of halves)) (sym (cond-false (ltb (box.a + 1) box.b) (Some (front box, back box)) time short))
    (⊎_elim
    (λ higher.
    let less = ltb-true box.q depth higher in
    subst (λ halves. TreeFacts wanted holds depth box (cells_of_halves cells_of halves)) (sym (cond-true (ltb box.q depth) (Some (early box, late box)) None higher))
    (both_facts wanted holds depth box (early box) (late box) (cells_of (early box)) (cells_of (late box)) (in_time box (omega arith))
    (smaller (early box) (omega arith) (omega arith) (part_early box.q box.k part)) (smaller (late box) (omega arith) (omega arith) (part_late box.q box.k part))))
    (λ lowest.
    let least = ltb-false box.q depth lowest in
    let same : box.q ≡ depth = omega arith in
    subst (λ halves. TreeFacts wanted holds depth box (cells_of_halves cells_of halves)) (sym (cond-false (ltb box.q depth) (Some (early box, late box)) None lowest))
    record {
      place = box.a;
      part = box.k;
      after = omega arith;
      within = some;
      there = there;
      few = subst (λ (x : ℕ). box.k < 2 ^ x) same part;
      stuck = ap holds (sym (least_is depth box same (omega arith))) ∙ stands;
    })
    (cases_Bool (ltb box.q depth))))
    (cases_Bool (ltb (box.a + 1) box.b))

cut_facts : (wanted : ℕ → Bool) (holds : CertCell → Bool) (depth n : ℕ) (cells_of : CertCell → Option (List CertCell)) (box : CertCell) → depth ≤ 10 → halvings_left depth box ≤ n
    → box.a < box.b → box.q ≤ depth → box.k < 2 ^ box.q → wanted box.a ≡ true → Smaller wanted holds depth n cells_of
    → TreeFacts wanted holds depth box (cells_of_cut holds depth cells_of (Some box))
cut_facts wanted holds depth n cells_of box shallow few some level part there smaller =
    let halves = cells_of_halves cells_of (halves_of depth box) in
    ⊎_elim
    (λ held. subst (TreeFacts wanted holds depth box) (sym (cond-true (holds box) (Some (box ∷ [])) halves held)) (whole_facts wanted holds depth box some level part held))
    (λ stands. subst (TreeFacts wanted holds depth box) (sym (cond-false (holds box) (Some (box ∷ [])) halves stands))
    (halved_facts wanted holds depth n cells_of box shallow few some level part there stands smaller))
    (cases_Bool (holds box))

-- the box from which it was cut down
uncut_facts : (wanted : ℕ → Bool) (holds : CertCell → Bool) (depth : ℕ) (box : CertCell) (first end : ℕ) (cells : Option (List CertCell)) → IsCut wanted box first end
    → TreeFacts wanted holds depth (record box { a = first; b = end }) cells → TreeFacts wanted holds depth box cells
uncut_facts wanted holds depth box first end None cut h = wider_stuck wanted holds depth box (record box { a = first; b = end }) refl refl cut.after cut.within h
uncut_facts wanted holds depth box first end (Some cells) cut h = record {
  each = each_by (IsPartOf holds depth box.ray end) (IsPartOf holds depth box.ray box.b) (wider_part holds depth box.ray box.ray end box.b refl cut.within) cells h.each;
  cover = λ l e after within want during.
      ⊎_elim
      (λ low. absurd (not_both wanted l (cut.before l after low) want))
      (λ high. ⊎_elim (λ less. h.cover l e high less want during) (λ more. absurd (not_both wanted l (cut.beyond l more within) want)) (cases_lt l end))
      (cases_lt l first);
}

empty_facts : (wanted : ℕ → Bool) (holds : CertCell → Bool) (depth : ℕ) (box : CertCell) → NoneWanted wanted box.a box.b → AreCells wanted holds depth box []
empty_facts wanted holds depth box none = record { each = tt; cover = λ l e after within want during. absurd (not_both wanted l (none l after within) want) }

-- the whole tree
pub tree_facts : (wanted : ℕ → Bool) (holds : CertCell → Bool) (depth n : ℕ) (box : CertCell) → depth ≤ 10 → halvings_left depth box < n → box.q ≤ depth → box.k < 2 ^ box.q
    → TreeFacts wanted holds depth box (cells_of_box wanted holds depth n box)
unfolding cells_of_box
tree_facts wanted holds depth zero box shallow few level part = absurd (omega arith)
tree_facts wanted holds depth (suc n) box shallow few level part =
    let cells_of = cells_of_box wanted holds depth n in
    ⊎_elim
    (λ found.
    let first = found.0 in let end = found.1 in let cut = found.2 in
    let h = cut.after in let g = cut.some in let w = cut.within in
    subst (λ c. TreeFacts wanted holds depth box (cells_of_cut holds depth cells_of c)) (sym (cut_is wanted box first end cut))
    (uncut_facts wanted holds depth box first end (cells_of_cut holds depth cells_of (Some (record box { a = first; b = end }))) cut
    (cut_facts wanted holds depth n cells_of (record box { a = first; b = end }) shallow (omega arith) g level part cut.first_there
    (λ smaller fewer higher parts. tree_facts wanted holds depth n smaller shallow fewer higher parts))))
    (λ none. subst (λ c. TreeFacts wanted holds depth box (cells_of_cut holds depth cells_of c)) (sym (cut_none wanted box none)) (empty_facts wanted holds depth box none))
    (cases_cut wanted box)
