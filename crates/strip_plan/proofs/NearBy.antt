-- The holders whose boxes have a point, one more at a time, and the plan that they make.
use Rattle.std.proofs.Common.{◌≡◌, ◌∙◌, false, ℕ, ◌+◌, ◌<◌, ◌≤◌, List, [], ◌∷◌, ◌++◌, Option, None, Some, ⊎_elim, length, map, slice_get, get_or, arith, ap, refl, subst, sym}
use Rattle.std.specs.Option.{option_map}
use Rattle.std.proofs.lemmas.Bool.{cases_Bool, cases_lt}
use Rattle.std.proofs.lemmas.List.{get_or_append_left, get_or_push, length-append, length-map, length_push}
use Rattle.std.proofs.lemmas.Option.{get_or_from_slice_get, slice_get-get_or, slice_get-map, slice_get_within}
use Rattle.ray_grid.specs.Lattice.{IsRay, points_of}
use Rattle.ray_grid.specs.Points.{point_in}
use Rattle.ray_grid.specs.declared.ray.Ray.{Ray}
use Rattle.holder_check.specs.Above.{HolderSize}
use Rattle.job_model.specs.Holders.{holder_move, may_be_struck}
use Rattle.job_model.specs.Tasks.{JobMove, PlanOf}
use Rattle.job_model.proofs.Holders.{tool_possible}
use Rattle.strip_plan.specs.declared.holders.NearHolders.{NearHolders}
use Rattle.strip_plan.specs.declared.index_box.AxisRanges.{AxisRanges}
use Rattle.strip_plan.specs.declared.index_box.IndexBox.{IndexBox}
use Rattle.strip_plan.specs.Boxed.{HasBoxes}
use Rattle.strip_plan.specs.Holders.{AreHoldersOf, AreNear, HasNoPoint, IsTakenIn}
use Rattle.strip_plan.specs.Plans.{HasNumber}

-- what a list has it has still when more is added, and what it has below its old length it had
still_there : {X : Type 0} (xs ys : List X) (i : ℕ) (x : X) → slice_get xs i ≡ Some x → slice_get (xs ++ ys) i ≡ Some x
still_there xs ys i x at =
    let l = slice_get_within xs i x at in let size = length-append xs ys in
    slice_get-get_or (xs ++ ys) i x (omega (arith, l, size)) ∙ ap Some (get_or_append_left xs ys x i l ∙ get_or_from_slice_get xs i x x at)

there_before : {X : Type 0} (xs ys : List X) (i : ℕ) (x : X) → i < length xs → slice_get (xs ++ ys) i ≡ Some x → slice_get xs i ≡ Some x
there_before xs ys i x l at = slice_get-get_or xs i x l ∙ ap Some (sym (get_or_append_left xs ys x i l) ∙ get_or_from_slice_get (xs ++ ys) i x x at)

last_is : {X : Type 0} (xs : List X) (y : X) (i : ℕ) (x : X) → length xs ≡ i → slice_get (xs ++ y ∷ []) i ≡ Some x → x ≡ y
last_is xs y i x e at = sym (get_or_from_slice_get (xs ++ y ∷ []) i x x at) ∙ get_or_push xs y x i e

within_push : {X : Type 0} (xs : List X) (y : X) (i : ℕ) (x : X) → slice_get (xs ++ y ∷ []) i ≡ Some x → length xs ≤ i → length xs ≡ i
within_push xs y i x at most =
    let l = slice_get_within (xs ++ y ∷ []) i x at in let size = length_push xs y in omega (arith, l, size, most)

last_there : {X : Type 0} (xs : List X) (y : X) → slice_get (xs ++ y ∷ []) (length xs) ≡ Some y
last_there xs y = let size = length_push xs y in slice_get-get_or (xs ++ y ∷ []) (length xs) y (omega (arith, size)) ∙ ap Some (get_or_push xs y y (length xs) refl)

pub no_holders : (moves : List JobMove) (boxes : List IndexBox) (near : List JobMove) (places : List (Option ℕ)) → near ≡ [] → places ≡ [] → AreNear moves boxes near places 0
no_holders moves boxes near places no_moves no_places = record {
  many = ap (λ (xs : List (Option ℕ)). length xs) no_places;
  few = let e = ap (λ (xs : List JobMove). length xs) no_moves in omega (arith, e);
  there = λ n place move at on.
      let l = slice_get_within places n (Some place) at in let e = ap (λ (xs : List (Option ℕ)). length xs) no_places in absurd (omega (arith, l, e));
  none = λ n d at. let l = slice_get_within places n None at in let e = ap (λ (xs : List (Option ℕ)). length xs) no_places in absurd (omega (arith, l, e));
}

some_apart : {X : Type 0} (a : Option X) (x : X) → a ≡ Some x → a ≡ None → ⊥
some_apart a x e f = cc

-- one whose box has no point
more_off : (moves : List JobMove) (boxes : List IndexBox) (near : List JobMove) (places : List (Option ℕ)) (count : ℕ) → AreNear moves boxes near places count
    → ((d : IndexBox) → HasNoPoint (get_or boxes count d)) → AreNear moves boxes near (places ++ None ∷ []) (count + 1)
more_off moves boxes near places count are off =
    let many = are.many in let few = are.few in record {
      many = let size = length_push places None in omega (arith, size, many);
      few = omega (arith, few);
      there = λ n place move at on.
          ⊎_elim (λ less. are.there n place move (there_before places (None ∷ []) n (Some place) less at) on)
          (λ most. absurd (some_apart (Some place) place refl (last_is places None n (Some place) (within_push places None n (Some place) at most) at)))
          (cases_lt n (length places));
      none = λ n d at.
          ⊎_elim (λ less. are.none n d (there_before places (None ∷ []) n None less at))
          (λ most.
          let e = within_push places None n None at most in
          subst (λ k. HasNoPoint (get_or boxes k d)) (sym many ∙ e) (off d))
          (cases_lt n (length places));
    }

-- one that has the next number
more_on : (moves : List JobMove) (boxes : List IndexBox) (near : List JobMove) (places : List (Option ℕ)) (count : ℕ) (next : JobMove) → AreNear moves boxes near places count
    → next ≡ get_or moves count next → AreNear moves boxes (near ++ next ∷ []) (places ++ Some (length near) ∷ []) (count + 1)
more_on moves boxes near places count next are read =
    let many = are.many in let few = are.few in record {
      many = let size = length_push places (Some (length near)) in omega (arith, size, many);
      few = let size = length_push near next in omega (arith, size, few);
      there = λ n place move at on.
          ⊎_elim
          (λ less. still_there near (next ∷ []) place move (are.there n place move (there_before places (Some (length near) ∷ []) n (Some place) less at) on))
          (λ most.
          let e = within_push places (Some (length near)) n (Some place) at most in
          let same : place ≡ length near = own place (length near) (last_is places (Some (length near)) n (Some place) e at) in
          let move_is : move ≡ next = sym (get_or_from_slice_get moves n move next on) ∙ ap (λ k. get_or moves k next) (sym e ∙ many) ∙ sym read in
          subst (λ k. slice_get (near ++ next ∷ []) k ≡ Some move) (sym same) (last_there near next ∙ ap Some (sym move_is)))
          (cases_lt n (length places));
      none = λ n d at.
          ⊎_elim (λ less. are.none n d (there_before places (Some (length near) ∷ []) n None less at))
          (λ most.
          let e = within_push places (Some (length near)) n None at most in
          absurd (some_apart (Some (length near)) (length near) refl (sym (last_is places (Some (length near)) n None e at))))
          (cases_lt n (length places));
    }
  where
    own : (a b : ℕ) → Some a ≡ Some b → a ≡ b
    own a b e = cc

pub one_more_holder : (moves : List JobMove) (boxes : List IndexBox) (before after : NearHolders) (count : ℕ) (next : JobMove) (box : IndexBox)
    → AreNear moves boxes before.moves.items before.places.items count → next ≡ get_or moves count next → ((d : IndexBox) → box ≡ get_or boxes count d)
    → IsTakenIn before after next box → AreNear moves boxes after.moves.items after.places.items (count + 1)
one_more_holder moves boxes before after count next box are read held taken =
    ⊎_elim
    (λ off.
    subst (λ (xs : List JobMove). AreNear moves boxes xs after.places.items (count + 1)) (sym off.1)
    (subst (λ (xs : List (Option ℕ)). AreNear moves boxes before.moves.items xs (count + 1)) (sym off.0)
    (more_off moves boxes before.moves.items before.places.items count are (λ d. subst HasNoPoint (held d) off.2))))
    (λ on.
    subst (λ (xs : List JobMove). AreNear moves boxes xs after.places.items (count + 1)) (sym on.1)
    (subst (λ (xs : List (Option ℕ)). AreNear moves boxes (before.moves.items ++ next ∷ []) xs (count + 1)) (sym on.0)
    (more_on moves boxes before.moves.items before.places.items count next are read)))
    taken

no_box : IndexBox
no_box =
    let none : AxisRanges = record { nodes = (0, 0); points = (0, 0) } in
    record { x = none; y = none; z = none }

-- the holder whose box has no point may meet none
off_lattice : (plan : PlanOf) (holder : HolderSize) (hulls boxes : List IndexBox) (starts : List ℕ) (number : ℕ) (move : JobMove)
    → 0 < plan.slabs
    → HasBoxes plan.grid plan.slabs plan.depth (map (holder_move holder) plan.moves) hulls boxes starts (length (map (holder_move holder) plan.moves))
    → HasNumber plan number move → ((d : IndexBox) → HasNoPoint (get_or hulls number d)) → (ray : Ray) (l : ℕ)
    → IsRay plan.grid ray → l < points_of plan.grid ray.family → may_be_struck plan holder move (point_in plan.grid ray l) ≡ false
off_lattice plan holder hulls boxes starts number move some has named off ray l on_grid index =
    let all = map (holder_move holder) plan.moves in
    let there : slice_get all number ≡ Some (holder_move holder move) = slice_get-map (holder_move holder) plan.moves number ∙ ap (option_map (holder_move holder)) named in
    ⊎_elim
    (λ may.
    absurd (off no_box ray l (has.each number (holder_move holder move) no_box ray l (slice_get_within all number (holder_move holder move) there) there
    record { on_grid = on_grid; index = index; possible = sym (tool_possible plan holder move (point_in plan.grid ray l) some) ∙ may }).in_hull))
    (λ no. no) (cases_Bool (may_be_struck plan holder move (point_in plan.grid ray l)))

-- the plan of those that are near is that of the holders
pub holders_are : (plan made : PlanOf) (holder : HolderSize) (all near : List JobMove) (hulls boxes : List IndexBox) (starts : List ℕ) (places : List (Option ℕ))
    → 0 < plan.slabs → all ≡ map (holder_move holder) plan.moves → HasBoxes plan.grid plan.slabs plan.depth all hulls boxes starts (length all) → AreNear all hulls near places (length all)
    → made.grid ≡ plan.grid → made.depth ≡ plan.depth → made.slabs ≡ plan.slabs → made.moves ≡ near → AreHoldersOf plan holder record { plan = made; places = places }
holders_are plan made holder all near hulls boxes starts places some all_is has are grid depth slabs moves =
    let own = subst (λ (xs : List JobMove). HasBoxes plan.grid plan.slabs plan.depth xs hulls boxes starts (length xs)) all_is has in
    let split = subst (λ (xs : List JobMove). AreNear xs hulls near places (length xs)) all_is are in
    record {
      grid = grid;
      depth = depth;
      slabs = slabs;
      many = split.many ∙ length-map plan.moves (holder_move holder);
      near = λ number place move at named.
          subst (λ (xs : List JobMove). slice_get xs place ≡ Some (holder_move holder move)) (sym moves)
          (split.there number place (holder_move holder move) at (slice_get-map (holder_move holder) plan.moves number ∙ ap (option_map (holder_move holder)) named));
      far = λ number move at named. off_lattice plan holder hulls boxes starts number move some own named (λ d. split.none number d at);
    }
