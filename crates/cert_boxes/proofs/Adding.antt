-- The cells that are added, box by box, ray by ray and strip by strip.
use Rattle.std.proofs.Common.{◌≡◌, ℕ, zero, suc, ◌+◌, ◌-◌, ◌^◌, ◌<◌, ◌≤◌, Bool, true, false, cond, ltb, List, [], ◌∷◌, ◌++◌, length, get_or, take, drop, Option, Some, None, Result, Ok, Err, IfOk, arith, refl, ap, ap₂, sym, subst, append_assoc, ⊎_elim, ◌∙◌}
use Rattle.std.specs.List.{flat_map, slice_get}
use Rattle.std.proofs.lemmas.Bool.{cases_Bool, cond-false, cond-true, ltb-true}
use Rattle.std.proofs.lemmas.Grind.{flat_map-append}
use Rattle.std.proofs.lemmas.List.{append-nil, take-append-drop, take_all, take_more}
use Rattle.std.proofs.lemmas.Option.{slice_get_within}
use Rattle.space.specs.Sweeps.{SweepOf}
use Rattle.bern_form.specs.Slab.{SlabSize}
use Rattle.cutter_slabs.specs.Cutter.{CutterSize}
use Rattle.cutter_slabs.specs.Stacks.{outer_stack}
use Rattle.ray_grid.specs.Grids.{GridSize}
use Rattle.ray_grid.specs.Lattice.{IsRay, points_of}
use Rattle.ray_grid.specs.Points.{rays_of}
use Rattle.ray_grid.specs.Strips.{strip_at, strips_of}
use Rattle.ray_grid.specs.declared.ray.Ray.{Ray}
use Rattle.ray_shapes.specs.declared.solid.Solid.{Solid}
use Rattle.cert_lines.specs.Spelling.{line_of_cell}
use Rattle.cert_lines.specs.declared.cell.CertCell.{CertCell}
use Rattle.cert_boxes.specs.declared.draft.Draft.{Draft}
use Rattle.cert_boxes.specs.Drafts.{AddsCells, IsBoxOn, empty_draft, halvings_left, with_box, with_boxes}
use Rattle.cert_boxes.specs.Holding.{IsLineInRange, are_slabs_excluded, box_holds}
use Rattle.cert_boxes.specs.Making.{both_cells, cells_of_box, cells_of_cut, cells_of_halves, cells_of_ray, cells_of_rays, cert_with, cut_down, halves_of, wants_index, numbered, whole_box}
use Rattle.cert_boxes.specs.Tasks.{CertTask, cert_task}
use Rattle.cert_boxes.proofs.Due.{found_there}
use Rattle.cert_boxes.proofs.Ends.{cases_cut, cut_is, cut_none}
use Rattle.cert_boxes.proofs.Trees.{back, early, front, late, part_early, part_late}

-- cells of two lists, one after the other
with_both : (draft : Draft) (xs ys : List CertCell) → with_boxes draft (xs ++ ys) ≡ with_boxes (with_boxes draft xs) ys
with_both draft [] ys = refl
with_both draft (x ∷ xs) ys = with_both (with_box draft x) xs ys

pub adds_both : (xs ys : Option (List CertCell)) (old mid new : Draft) (whole : Bool) → AddsCells xs old mid true → AddsCells ys mid new whole → AddsCells (both_cells xs ys) old new whole
adds_both None ys old mid new whole hx hy = cc
adds_both (Some xs) None old mid new whole hx hy = hy
adds_both (Some xs) (Some ys) old mid new whole hx hy = (hy.0, hy.1 ∙ ap (λ (d : Draft). with_boxes d ys) hx.1 ∙ sym (with_both old xs ys))

pub adds_half : (xs ys : Option (List CertCell)) (old mid new : Draft) → AddsCells xs old mid false → AddsCells (both_cells xs ys) old new false
adds_half None ys old mid new h = refl
adds_half (Some xs) ys old mid new h = let no = h.0 in cc

-- a box that is cut down
pub record IsCutOf (wanted : ℕ → Bool) (box cut : CertCell) : Type 0 where
  pub ray : cut.ray ≡ box.ray
  pub level : cut.q ≡ box.q
  pub part : cut.k ≡ box.k
  pub after : box.a ≤ cut.a
  pub some : cut.a < cut.b
  pub within : cut.b ≤ box.b

nothing : {X : Type 0} (x : X) (o : Option X) → o ≡ None → o ≡ Some x → ⊥
nothing x o h k = cc

the_one : {X : Type 0} (x y : X) (o : Option X) → o ≡ Some x → o ≡ Some y → x ≡ y
the_one x y o h k = cc

pub cut_of : (wanted : ℕ → Bool) (box cut : CertCell) → cut_down wanted box ≡ Some cut → IsCutOf wanted box cut
cut_of wanted box cut is =
    ⊎_elim
    (λ found.
    let first = found.0 in let end = found.1 in let ends = found.2 in
    let made : CertCell = record box { a = first; b = end } in
    subst (IsCutOf wanted box) (the_one made cut (cut_down wanted box) (cut_is wanted box first end ends) is)
    record { ray = refl; level = refl; part = refl; after = ends.after; some = ends.some; within = ends.within })
    (λ none. absurd (nothing cut (cut_down wanted box) (cut_none wanted box none) is))
    (cases_cut wanted box)

pub cut_in_range : (grid : GridSize) (depth : ℕ) (wanted : ℕ → Bool) (box cut : CertCell) → depth ≤ 10 → IsBoxOn grid depth box → cut_down wanted box ≡ Some cut → IsLineInRange grid cut
cut_in_range grid depth wanted box cut shallow in_grid is =
    let of = cut_of wanted box cut is in
    let level : cut.q ≤ 10 = (let a = of.level in let b = in_grid.level in omega arith) in
    let within : cut.b ≤ points_of grid box.ray.family = (let a = of.within in let b = in_grid.within in omega arith) in
    record {
      ray = subst (IsRay grid) (sym of.ray) in_grid.ray;
      few = level;
      part = subst (λ (k : ℕ). k < 2 ^ cut.q) (sym of.part) (subst (λ (q : ℕ). box.k < 2 ^ q) (sym of.level) in_grid.part);
      some = of.some;
      within = subst (λ (r : Ray). cut.b ≤ points_of grid r.family) (sym of.ray) within;
    }

cut_is_box : (grid : GridSize) (depth : ℕ) (wanted : ℕ → Bool) (box cut : CertCell) → IsBoxOn grid depth box → cut_down wanted box ≡ Some cut → IsBoxOn grid depth cut
cut_is_box grid depth wanted box cut in_grid is =
    let of = cut_of wanted box cut is in
    let within : cut.b ≤ points_of grid box.ray.family = (let a = of.within in let b = in_grid.within in omega arith) in
    record {
      ray = subst (IsRay grid) (sym of.ray) in_grid.ray;
      level = subst (λ (q : ℕ). q ≤ depth) (sym of.level) in_grid.level;
      part = subst (λ (k : ℕ). k < 2 ^ cut.q) (sym of.part) (subst (λ (q : ℕ). box.k < 2 ^ q) (sym of.level) in_grid.part);
      order = (let a = of.some in omega arith);
      within = subst (λ (r : Ray). cut.b ≤ points_of grid r.family) (sym of.ray) within;
    }

-- the halves of it
pub record AreHalves (grid : GridSize) (depth : ℕ) (box x y : CertCell) : Type 0 where
  pub first : IsBoxOn grid depth x
  pub last : IsBoxOn grid depth y
  pub first_less : halvings_left depth x < halvings_left depth box
  pub last_less : halvings_left depth y < halvings_left depth box

abbrev first_half : CertCell → Option (CertCell × CertCell) → CertCell
first_half box None = box
first_half box (Some halves) = halves.0

abbrev last_half : CertCell → Option (CertCell × CertCell) → CertCell
last_half box None = box
last_half box (Some halves) = halves.1

by_pair : (grid : GridSize) (depth : ℕ) (box x y z t : CertCell) → ◌≡◌ {A = Option (CertCell × CertCell)} (Some (x, y)) (Some (z, t)) → AreHalves grid depth box x y → AreHalves grid depth box z t
by_pair grid depth box x y z t h are =
    subst (λ (a : CertCell). AreHalves grid depth box a t) (ap (first_half x) h) (subst (λ (a : CertCell). AreHalves grid depth box x a) (ap (last_half x) h) are)

halves_along : (grid : GridSize) (depth : ℕ) (box : CertCell) → box.a + 1 < box.b → IsBoxOn grid depth box → AreHalves grid depth box (front box) (back box)
halves_along grid depth box long in_grid =
    let w = in_grid.within in
    record {
      first = record { ray = in_grid.ray; level = in_grid.level; part = in_grid.part; order = omega arith; within = omega arith };
      last = record { ray = in_grid.ray; level = in_grid.level; part = in_grid.part; order = omega arith; within = w };
      first_less = omega arith;
      last_less = omega arith;
    }

halves_in_time : (grid : GridSize) (depth : ℕ) (box : CertCell) → box.q < depth → IsBoxOn grid depth box → AreHalves grid depth box (early box) (late box)
halves_in_time grid depth box higher in_grid = record {
  first = record { ray = in_grid.ray; level = omega arith; part = part_early box.q box.k in_grid.part; order = in_grid.order; within = in_grid.within };
  last = record { ray = in_grid.ray; level = omega arith; part = part_late box.q box.k in_grid.part; order = in_grid.order; within = in_grid.within };
  first_less = omega arith;
  last_less = omega arith;
}

halves_are : (grid : GridSize) (depth : ℕ) (box x y : CertCell) → halves_of depth box ≡ Some (x, y) → IsBoxOn grid depth box → AreHalves grid depth box x y
halves_are grid depth box x y is in_grid =
    let long = ltb (box.a + 1) box.b in let higher = ltb box.q depth in
    let time : Option (CertCell × CertCell) = cond higher (Some (early box, late box)) None in
    ⊎_elim
    (λ yes. by_pair grid depth box (front box) (back box) x y (sym (cond-true long (Some (front box, back box)) time yes) ∙ is) (halves_along grid depth box (ltb-true (box.a + 1) box.b yes) in_grid))
    (λ no.
    let rest : time ≡ Some (x, y) = sym (cond-false long (Some (front box, back box)) time no) ∙ is in
    ⊎_elim
    (λ yes. by_pair grid depth box (early box) (late box) x y (sym (cond-true higher (Some (early box, late box)) None yes) ∙ rest) (halves_in_time grid depth box (ltb-true box.q depth yes) in_grid))
    (λ none. let pair : CertCell × CertCell = (x, y) in absurd (nothing pair time (cond-false higher (Some (early box, late box)) None none) rest))
    (cases_Bool higher))
    (cases_Bool long)

-- of a box that was cut down
pub halves_of_cut : (grid : GridSize) (depth : ℕ) (wanted : ℕ → Bool) (box cut x y : CertCell) → IsBoxOn grid depth box → cut_down wanted box ≡ Some cut → halves_of depth cut ≡ Some (x, y)
    → AreHalves grid depth box x y
halves_of_cut grid depth wanted box cut x y in_grid is halves =
    let of = cut_of wanted box cut is in
    let are = halves_are grid depth cut x y halves (cut_is_box grid depth wanted box cut in_grid is) in
    let fewer : halvings_left depth cut ≤ halvings_left depth box = (let l = of.level in let a = of.after in let w = of.within in omega arith) in
    record {
      first = are.first;
      last = are.last;
      first_less = (let f = are.first_less in omega arith);
      last_less = (let l = are.last_less in omega arith);
    }

-- a box without a wanted index; one that is a cell; one that has none; one that has those of its halves
pub adds_none : (wanted : ℕ → Bool) (holds : CertCell → Bool) (depth n : ℕ) (box : CertCell) (draft : Draft) → cut_down wanted box ≡ None → halvings_left depth box < n
    → AddsCells (cells_of_box wanted holds depth n box) draft draft true
unfolding cells_of_box
adds_none wanted holds depth zero box draft is few = absurd (omega arith)
adds_none wanted holds depth (suc n) box draft is few =
    subst (λ c. AddsCells (cells_of_cut holds depth (cells_of_box wanted holds depth n) c) draft draft true) (sym is) (refl, refl)

pub adds_cell : (wanted : ℕ → Bool) (holds : CertCell → Bool) (depth n : ℕ) (box cut : CertCell) (old new : Draft) → cut_down wanted box ≡ Some cut → holds cut ≡ true → new ≡ with_box old cut
    → halvings_left depth box < n → AddsCells (cells_of_box wanted holds depth n box) old new true
unfolding cells_of_box
adds_cell wanted holds depth zero box cut old new is held more few = absurd (omega arith)
adds_cell wanted holds depth (suc n) box cut old new is held more few =
    let cells_of = cells_of_box wanted holds depth n in
    subst (λ c. AddsCells (cells_of_cut holds depth cells_of c) old new true) (sym is)
    (subst (λ made. AddsCells made old new true) (sym (cond-true (holds cut) (Some (cut ∷ [])) (cells_of_halves cells_of (halves_of depth cut)) held)) (refl, more))

by_halves : (wanted : ℕ → Bool) (holds : CertCell → Bool) (depth n : ℕ) (box cut : CertCell) (halves : Option (CertCell × CertCell)) → cut_down wanted box ≡ Some cut → holds cut ≡ false → halves_of depth cut ≡ halves
    → cells_of_box wanted holds depth (suc n) box ≡ cells_of_halves (cells_of_box wanted holds depth n) halves
unfolding cells_of_box
by_halves wanted holds depth n box cut halves is stands e =
    let cells_of = cells_of_box wanted holds depth n in
    ap (cells_of_cut holds depth cells_of) is ∙ cond-false (holds cut) (Some (cut ∷ [])) (cells_of_halves cells_of (halves_of depth cut)) stands ∙ ap (cells_of_halves cells_of) e

pub adds_nothing : (wanted : ℕ → Bool) (holds : CertCell → Bool) (depth n : ℕ) (box cut : CertCell) (old new : Draft) → cut_down wanted box ≡ Some cut → holds cut ≡ false → halves_of depth cut ≡ None
    → halvings_left depth box < n → AddsCells (cells_of_box wanted holds depth n box) old new false
adds_nothing wanted holds depth zero box cut old new is stands none few = absurd (omega arith)
adds_nothing wanted holds depth (suc n) box cut old new is stands none few =
    subst (λ made. AddsCells made old new false) (sym (by_halves wanted holds depth n box cut None is stands none)) refl

pub adds_first : (grid : GridSize) (wanted : ℕ → Bool) (holds : CertCell → Bool) (depth n : ℕ) (box cut x y : CertCell) (old mid : Draft) → IsBoxOn grid depth box → cut_down wanted box ≡ Some cut → holds cut ≡ false
    → halves_of depth cut ≡ Some (x, y) → ((k : ℕ) → halvings_left depth x < k → AddsCells (cells_of_box wanted holds depth k x) old mid false)
    → halvings_left depth box < n → AddsCells (cells_of_box wanted holds depth n box) old mid false
adds_first grid wanted holds depth zero box cut x y old mid in_grid is stands halves one few = absurd (omega arith)
adds_first grid wanted holds depth (suc n) box cut x y old mid in_grid is stands halves one few =
    let are = halves_of_cut grid depth wanted box cut x y in_grid is halves in let less = are.first_less in
    let cells_of = cells_of_box wanted holds depth n in
    subst (λ made. AddsCells made old mid false) (sym (by_halves wanted holds depth n box cut (Some (x, y)) is stands halves))
    (adds_half (cells_of x) (cells_of y) old mid mid (one n (omega arith)))

pub adds_halves : (grid : GridSize) (wanted : ℕ → Bool) (holds : CertCell → Bool) (depth n : ℕ) (box cut x y : CertCell) (old mid new : Draft) (whole : Bool) → IsBoxOn grid depth box → cut_down wanted box ≡ Some cut → holds cut ≡ false
    → halves_of depth cut ≡ Some (x, y) → ((k : ℕ) → halvings_left depth x < k → AddsCells (cells_of_box wanted holds depth k x) old mid true)
    → ((k : ℕ) → halvings_left depth y < k → AddsCells (cells_of_box wanted holds depth k y) mid new whole)
    → halvings_left depth box < n → AddsCells (cells_of_box wanted holds depth n box) old new whole
adds_halves grid wanted holds depth zero box cut x y old mid new whole in_grid is stands halves one other few = absurd (omega arith)
adds_halves grid wanted holds depth (suc n) box cut x y old mid new whole in_grid is stands halves one other few =
    let are = halves_of_cut grid depth wanted box cut x y in_grid is halves in let less = are.first_less in let fewer = are.last_less in
    let cells_of = cells_of_box wanted holds depth n in
    subst (λ made. AddsCells made old new whole) (sym (by_halves wanted holds depth n box cut (Some (x, y)) is stands halves))
    (adds_both (cells_of x) (cells_of y) old mid new whole (one n (omega arith)) (other n (omega arith)))

-- the tree of a set of indices is that of a test that says the same of the box's indices
agreed : (v w : ℕ → Bool) (bound l : ℕ) (b : Bool) → ((k : ℕ) → k < bound → v k ≡ w k) → l < bound → w l ≡ b → v l ≡ b
agreed v w bound l b same low is = same l low ∙ is

same_cut : (v w : ℕ → Bool) (bound : ℕ) (box : CertCell) → ((k : ℕ) → k < bound → v k ≡ w k) → box.b ≤ bound → cut_down v box ≡ cut_down w box
same_cut v w bound box same within =
    ⊎_elim
    (λ found.
    let first = found.0 in let end = found.1 in let cut = found.2 in
    let h = cut.some in let g = cut.within in
    cut_is v box first end record {
      after = cut.after;
      some = h;
      within = g;
      first_there = agreed v w bound first true same (omega arith) cut.first_there;
      last_there = agreed v w bound (end - 1) true same (omega arith) cut.last_there;
      before = λ k after less. agreed v w bound k false same (omega arith) (cut.before k after less);
      beyond = λ k more before. agreed v w bound k false same (omega arith) (cut.beyond k more before);
    }
    ∙ sym (cut_is w box first end cut))
    (λ none. cut_none v box (λ k after before. agreed v w bound k false same (omega arith) (none k after before)) ∙ sym (cut_none w box none))
    (cases_cut w box)

same_halves : (f g : CertCell → Option (List CertCell)) (x y z t : CertCell) (long higher : Bool) → f x ≡ g x → f y ≡ g y → f z ≡ g z → f t ≡ g t
    → cells_of_halves f (cond long (Some (x, y)) (cond higher (Some (z, t)) None)) ≡ cells_of_halves g (cond long (Some (x, y)) (cond higher (Some (z, t)) None))
same_halves f g x y z t true higher hx hy hz ht = ap₂ both_cells hx hy
same_halves f g x y z t false true hx hy hz ht = ap₂ both_cells hz ht
same_halves f g x y z t false false hx hy hz ht = refl

same_of_cut : (holds : CertCell → Bool) (depth : ℕ) (f g : CertCell → Option (List CertCell)) (bound : ℕ) (cut : CertCell) → ((box : CertCell) → box.b ≤ bound → f box ≡ g box) → cut.a < cut.b → cut.b ≤ bound
    → cells_of_cut holds depth f (Some cut) ≡ cells_of_cut holds depth g (Some cut)
same_of_cut holds depth f g bound cut each some within =
    ap (cond (holds cut) (Some (cut ∷ [])))
    (same_halves f g (front cut) (back cut) (early cut) (late cut) (ltb (cut.a + 1) cut.b) (ltb cut.q depth)
    (each (front cut) (omega arith)) (each (back cut) within) (each (early cut) within) (each (late cut) within))

pub same_cells : (v w : ℕ → Bool) (holds : CertCell → Bool) (depth bound n : ℕ) (box : CertCell) → ((k : ℕ) → k < bound → v k ≡ w k) → box.b ≤ bound
    → cells_of_box v holds depth n box ≡ cells_of_box w holds depth n box
unfolding cells_of_box
same_cells v w holds depth bound zero box same within = refl
same_cells v w holds depth bound (suc n) box same within =
    let f = cells_of_box v holds depth n in let g = cells_of_box w holds depth n in
    ap (cells_of_cut holds depth f) (same_cut v w bound box same within)
    ∙ ⊎_elim
    (λ found.
    let first = found.0 in let end = found.1 in let cut = found.2 in
    let e = cut_is w box first end cut in let h = cut.some in let i = cut.within in
    ap (cells_of_cut holds depth f) e
    ∙ same_of_cut holds depth f g bound (record box { a = first; b = end }) (λ smaller low. same_cells v w holds depth bound n smaller same low) h (omega arith)
    ∙ ap (cells_of_cut holds depth g) (sym e))
    (λ none. let e = cut_none w box none in ap (cells_of_cut holds depth f) e ∙ ap (cells_of_cut holds depth g) (sym e))
    (cases_cut w box)

-- the cells of a whole ray
pub adds_ray : (task : CertTask) (slabs depth : ℕ) (ray : Ray) (wanted : ℕ → Bool) (old new : Draft) (whole : Bool)
    → ((l : ℕ) → l < points_of task.grid ray.family → wanted l ≡ wants_index task ray l)
    → ((n : ℕ) → halvings_left depth (whole_box ray (points_of task.grid ray.family)) < n → AddsCells (cells_of_box wanted (box_holds task slabs) depth n (whole_box ray (points_of task.grid ray.family))) old new whole)
    → AddsCells (cells_of_ray task slabs depth ray) old new whole
adds_ray task slabs depth ray wanted old new whole same each =
    let points = points_of task.grid ray.family in
    subst (λ made. AddsCells made old new whole) (same_cells wanted (wants_index task ray) (box_holds task slabs) depth points (points + depth + 1) (whole_box ray points) same (omega arith))
    (each (points + depth + 1) (omega arith))

-- the same by the slabs and the box that the code has
pub adds_ray_by : (task : CertTask) (slabs depth : ℕ) (ray : Ray) (wanted : ℕ → Bool) (outer : List SlabSize) (cell : CertCell) (old new : Draft) (whole : Bool)
    → outer ≡ outer_stack task.cutter slabs → cell ≡ whole_box ray (points_of task.grid ray.family)
    → ((l : ℕ) → l < points_of task.grid ray.family → wanted l ≡ wants_index task ray l)
    → ((n : ℕ) → halvings_left depth cell < n → AddsCells (cells_of_box wanted (are_slabs_excluded task.sweep task.grid outer) depth n cell) old new whole)
    → AddsCells (cells_of_ray task slabs depth ray) old new whole
adds_ray_by task slabs depth ray wanted outer cell old new whole stack box same each =
    adds_ray task slabs depth ray wanted old new whole same
    (subst (λ (c : CertCell). (n : ℕ) → halvings_left depth c < n → AddsCells (cells_of_box wanted (box_holds task slabs) depth n c) old new whole) box
    (subst (λ (s : List SlabSize). (n : ℕ) → halvings_left depth cell < n → AddsCells (cells_of_box wanted (are_slabs_excluded task.sweep task.grid s) depth n cell) old new whole) stack each))

pub whole_is_box : (grid : GridSize) (depth : ℕ) (ray : Ray) (points : ℕ) → IsRay grid ray → points ≡ points_of grid ray.family → IsBoxOn grid depth (whole_box ray points)
whole_is_box grid depth ray points on same = record { ray = on; level = omega arith; part = omega arith; order = omega arith; within = omega arith }

-- the cells of rays, one after the other
both_associate : (xs ys zs : Option (List CertCell)) → both_cells (both_cells xs ys) zs ≡ both_cells xs (both_cells ys zs)
both_associate None ys zs = refl
both_associate (Some xs) None zs = refl
both_associate (Some xs) (Some ys) None = refl
both_associate (Some xs) (Some ys) (Some zs) = ap (λ (l : List CertCell). Some l) (append_assoc xs ys zs)

both_none : (xs : Option (List CertCell)) → both_cells xs (Some []) ≡ xs
both_none None = refl
both_none (Some xs) = ap (λ (l : List CertCell). Some l) (append-nil xs)

none_both : (xs : Option (List CertCell)) → xs ≡ both_cells (Some []) xs
none_both None = refl
none_both (Some xs) = refl

pub rays_joined : (task : CertTask) (slabs depth : ℕ) (xs ys : List Ray) → cells_of_rays task slabs depth (xs ++ ys) ≡ both_cells (cells_of_rays task slabs depth xs) (cells_of_rays task slabs depth ys)
rays_joined task slabs depth [] ys = none_both (cells_of_rays task slabs depth ys)
rays_joined task slabs depth (x ∷ xs) ys =
    ap (both_cells (cells_of_ray task slabs depth x)) (rays_joined task slabs depth xs ys)
    ∙ sym (both_associate (cells_of_ray task slabs depth x) (cells_of_rays task slabs depth xs) (cells_of_rays task slabs depth ys))

-- a part of the rays that has none
pub stops : (task : CertTask) (slabs depth : ℕ) (xs ys : List Ray) (old new other : Draft) → AddsCells (cells_of_rays task slabs depth xs) old new false → AddsCells (cells_of_rays task slabs depth (xs ++ ys)) old other false
stops task slabs depth xs ys old new other h =
    subst (λ made. AddsCells made old other false) (sym (rays_joined task slabs depth xs ys)) (adds_half (cells_of_rays task slabs depth xs) (cells_of_rays task slabs depth ys) old new other h)

-- one ray more
taken_more : (rays : List Ray) (n : ℕ) (ray : Ray) → slice_get rays n ≡ Some ray → take (n + 1) rays ≡ take n rays ++ ray ∷ []
taken_more rays n ray there =
    take_more rays n ray (slice_get_within rays n ray there) ∙ ap (λ (r : Ray). take n rays ++ r ∷ []) (found_there rays n ray there)

pub ray_more : (task : CertTask) (slabs depth : ℕ) (rays : List Ray) (n : ℕ) (ray : Ray) (old mid new : Draft) (whole : Bool) → slice_get rays n ≡ Some ray
    → AddsCells (cells_of_rays task slabs depth (take n rays)) old mid true → AddsCells (cells_of_ray task slabs depth ray) mid new whole → AddsCells (cells_of_rays task slabs depth (take (n + 1) rays)) old new whole
ray_more task slabs depth rays n ray old mid new whole there before here =
    let before_it = cells_of_rays task slabs depth (take n rays) in
    subst (λ made. AddsCells made old new whole)
    (sym (ap (cells_of_rays task slabs depth) (taken_more rays n ray there) ∙ rays_joined task slabs depth (take n rays) (ray ∷ []) ∙ ap (both_cells before_it) (both_none (cells_of_ray task slabs depth ray))))
    (adds_both before_it (cells_of_ray task slabs depth ray) old mid new whole before here)

pub rays_stop : (task : CertTask) (slabs depth : ℕ) (rays : List Ray) (m : ℕ) (old new : Draft) → AddsCells (cells_of_rays task slabs depth (take m rays)) old new false → AddsCells (cells_of_rays task slabs depth rays) old new false
rays_stop task slabs depth rays m old new h =
    subst (λ (l : List Ray). AddsCells (cells_of_rays task slabs depth l) old new false) (take-append-drop m rays) (stops task slabs depth (take m rays) (drop m rays) old new new h)

pub rays_all : (task : CertTask) (slabs depth : ℕ) (rays : List Ray) (n : ℕ) (old new : Draft) → length rays ≤ n → AddsCells (cells_of_rays task slabs depth (take n rays)) old new true → AddsCells (cells_of_rays task slabs depth rays) old new true
rays_all task slabs depth rays n old new all h = subst (λ (l : List Ray). AddsCells (cells_of_rays task slabs depth l) old new true) (take_all n rays all) h

-- one strip more
abbrev pub in_strips : List (List Ray) → List Ray
in_strips strips = flat_map (λ (strip : List Ray). strip) strips

strips_more : (strips : List (List Ray)) (s : ℕ) → s < length strips → in_strips (take (s + 1) strips) ≡ in_strips (take s strips) ++ get_or strips s []
strips_more strips s low =
    ap in_strips (take_more strips s [] low) ∙ flat_map-append (λ (strip : List Ray). strip) (take s strips) (get_or strips s [] ∷ []) ∙ ap (λ (l : List Ray). in_strips (take s strips) ++ l) (append-nil (get_or strips s []))

pub strip_more : (task : CertTask) (slabs depth : ℕ) (s : ℕ) (old mid new : Draft) (whole : Bool) → s < length (strips_of task.grid)
    → AddsCells (cells_of_rays task slabs depth (in_strips (take s (strips_of task.grid)))) old mid true → AddsCells (cells_of_rays task slabs depth (strip_at task.grid s)) mid new whole
    → AddsCells (cells_of_rays task slabs depth (in_strips (take (s + 1) (strips_of task.grid)))) old new whole
strip_more task slabs depth s old mid new whole low before here =
    let strips = strips_of task.grid in let before_it = in_strips (take s strips) in
    subst (λ made. AddsCells made old new whole)
    (sym (ap (cells_of_rays task slabs depth) (strips_more strips s low) ∙ rays_joined task slabs depth before_it (strip_at task.grid s)))
    (adds_both (cells_of_rays task slabs depth before_it) (cells_of_rays task slabs depth (strip_at task.grid s)) old mid new whole before here)

split_strips : (strips : List (List Ray)) (m : ℕ) → in_strips (take m strips) ++ in_strips (drop m strips) ≡ in_strips strips
split_strips strips m = sym (flat_map-append (λ (strip : List Ray). strip) (take m strips) (drop m strips)) ∙ ap in_strips (take-append-drop m strips)

pub strips_stop : (task : CertTask) (slabs depth m : ℕ) (old new : Draft) → AddsCells (cells_of_rays task slabs depth (in_strips (take m (strips_of task.grid)))) old new false
    → AddsCells (cells_of_rays task slabs depth (rays_of task.grid)) old new false
strips_stop task slabs depth m old new h =
    let strips = strips_of task.grid in
    subst (λ (l : List Ray). AddsCells (cells_of_rays task slabs depth l) old new false) (split_strips strips m)
    (stops task slabs depth (in_strips (take m strips)) (in_strips (drop m strips)) old new new h)

pub strips_all : (task : CertTask) (slabs depth s : ℕ) (old new : Draft) → length (strips_of task.grid) ≤ s → AddsCells (cells_of_rays task slabs depth (in_strips (take s (strips_of task.grid)))) old new true
    → AddsCells (cells_of_rays task slabs depth (rays_of task.grid)) old new true
strips_all task slabs depth s old new all h = subst (λ (l : List (List Ray)). AddsCells (cells_of_rays task slabs depth (in_strips l)) old new true) (take_all s (strips_of task.grid) all) h

-- what an answer says, said in another way
pub if_ok : {X E : Type 0} (r : Result X E) (P Q : X → Type 0) → ((x : X) → P x → Q x) → IfOk r P → IfOk r Q
if_ok (Ok x) P Q by h = by x h
if_ok (Err e) P Q by h = h

-- the cells of a draft have the numbers of their lines
drafted : (draft : Draft) (cells : List CertCell) → (with_boxes draft cells).cells ≡ draft.cells ++ numbered draft.number draft.last cells
drafted draft [] = sym (append-nil draft.cells)
drafted draft (cell ∷ cells) =
    let line = line_of_cell draft.number draft.last cell.ray in let here : CertCell = record cell { line = line } in
    drafted (with_box draft cell) cells ∙ append_assoc draft.cells (here ∷ []) (numbered (line + 1) (Some cell.ray) cells)

-- the cells of all rays, for the grid, the cutter and the slabs that were asked for
pub adds_asked : (sweep : SweepOf) (cutter asked : CutterSize) (slabs many depth : ℕ) (grid of : GridSize) (part fixture : Solid) (start draft : Draft) (whole : Bool)
    → cutter ≡ asked → slabs ≡ many → grid ≡ of → start ≡ empty_draft
    → AddsCells (cells_of_rays (cert_task sweep cutter grid part fixture) slabs depth (rays_of grid)) start draft whole
    → AddsCells (cells_of_rays (cert_task sweep asked of part fixture) many depth (rays_of of)) empty_draft draft whole
adds_asked sweep cutter asked slabs many depth grid of part fixture start draft whole hc hs hg hd h =
    subst (λ (c : CutterSize). AddsCells (cells_of_rays (cert_task sweep c of part fixture) many depth (rays_of of)) empty_draft draft whole) hc
    (subst (λ (n : ℕ). AddsCells (cells_of_rays (cert_task sweep cutter of part fixture) n depth (rays_of of)) empty_draft draft whole) hs
    (subst (λ (g : GridSize). AddsCells (cells_of_rays (cert_task sweep cutter g part fixture) slabs depth (rays_of g)) empty_draft draft whole) hg
    (subst (λ (d : Draft). AddsCells (cells_of_rays (cert_task sweep cutter grid part fixture) slabs depth (rays_of grid)) d draft whole) hd h)))

pub by_answer : (made : Option (List CertCell)) (old new : Draft) (is due : Bool) → is ≡ due → AddsCells made old new is → AddsCells made old new due
by_answer made old new is due same h = subst (λ (b : Bool). AddsCells made old new b) same h

pub cert_whole : (slabs : ℕ) (made : Option (List CertCell)) (draft : Draft) (cells : List CertCell) → AddsCells made empty_draft draft true → cells ≡ draft.cells
    → Some (record { slabs = slabs; cells = cells }) ≡ cert_with slabs made
cert_whole slabs None draft cells h same = cc
cert_whole slabs (Some boxes) draft cells h same =
    ap (λ (l : List CertCell). Some (record { slabs = slabs; cells = l })) (same ∙ ap (λ (d : Draft). d.cells) h.1 ∙ drafted empty_draft boxes)

pub cert_none : (slabs : ℕ) (made : Option (List CertCell)) (draft : Draft) → AddsCells made empty_draft draft false → None ≡ cert_with slabs made
cert_none slabs None draft h = refl
cert_none slabs (Some boxes) draft h = let no = h.0 in cc
