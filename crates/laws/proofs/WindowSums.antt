-- A sum over the lattice of a grid is the sum over those of its windows.
use Rattle.std.proofs.Common.{◌≡◌, ℕ, zero, suc, ◌+◌, ◌*◌, ◌/◌, ◌%◌, ◌<◌, List, [], ◌∷◌, ℤ, pos, negsuc, ◌+ℤ◌, ◌*ℤ◌, ◌<ℤ◌, unsigned_abs, arith, refl, sym, ap, ◌∙◌}
use Rattle.std.specs.List.{sum, sum_by}
use Rattle.std.proofs.lemmas.Int.{ints}
use Rattle.std.proofs.lemmas.List.Sums.{sum_by-cons}
use Rattle.std.proofs.lemmas.Nat.{div-add-mod'}
use Rattle.space.specs.Vectors.{at}
use Rattle.space.proofs.Solver.{add, mul, ring, var}
use Rattle.ray_grid.specs.Grids.{GridSize}
use Rattle.ray_grid.specs.Lattice.{node_at, nodes_of, per_node, place_at, point_at, points_of}
use Rattle.ray_grid.specs.Points.{lattice_of}
use Rattle.ray_grid.specs.declared.ray.Family.{Family}
use Rattle.ray_grid.specs.declared.ray.Family.TheVariants.{X, Y, Z}
use Rattle.laws.specs.Windows.{IsCut, window_at, windows_from, windows_of}
use Rattle.laws.proofs.IndexSums.{cut_first, cut_second, cut_third}
use Rattle.laws.proofs.LatticeSums.{family_sum, lattice_sum_is, total_of}

-- node a + i from the node s on is node i from the node s + a on
node_on : (o p : ℤ) (s a i : ℕ) → (o +ℤ pos s *ℤ p) +ℤ pos (a + i) *ℤ p ≡ (o +ℤ pos (s + a) *ℤ p) +ℤ pos i *ℤ p
node_on o p s a i =
    let O = var 0 in let P = var 1 in let S = var 2 in let A = var 3 in let I = var 4 in
    ring (o ∷ p ∷ pos s ∷ pos a ∷ pos i ∷ [])
    (add (add O (mul S P)) (mul (add A I) P))
    (add (add O (mul (add S A) P)) (mul I P)) refl

-- and likewise the points along a ray, k of them for each node
places_on : (o q : ℤ) (s a k l : ℕ)
    → (o +ℤ pos s *ℤ (pos k *ℤ q)) +ℤ pos (a * k + l) *ℤ q ≡ (o +ℤ pos (s + a) *ℤ (pos k *ℤ q)) +ℤ pos l *ℤ q
places_on o q s a k l =
    let O = var 0 in let Q = var 1 in let S = var 2 in let A = var 3 in let K = var 4 in let L = var 5 in
    ring (o ∷ q ∷ pos s ∷ pos a ∷ pos k ∷ pos l ∷ [])
    (add (add O (mul S (mul K Q))) (mul (add (mul A K) L) Q))
    (add (add O (mul (add S A) (mul K Q))) (mul L Q)) refl

place_on : (o p q : ℤ) (s a k l : ℕ) → p ≡ pos k *ℤ q → (o +ℤ pos s *ℤ p) +ℤ pos (a * k + l) *ℤ q ≡ (o +ℤ pos (s + a) *ℤ p) +ℤ pos l *ℤ q
place_on o p q s a k l e =
    ap (λ x. (o +ℤ pos s *ℤ x) +ℤ pos (a * k + l) *ℤ q) e ∙ places_on o q s a k l ∙ ap (λ x. (o +ℤ pos (s + a) *ℤ x) +ℤ pos l *ℤ q) (sym e)

apart : (a b k : ℕ) → (a + b) * k ≡ a * k + b * k
apart a b k = omega arith

-- a window of a + b nodes is one of a nodes and, after it, one of b nodes: by the axis along which it is cut
abbrev Cuts : (List ℤ → ℕ) → GridSize → ℕ → ℕ → ℕ → ℕ → Type 0
Cuts t g axis s a b = total_of t (window_at g axis s (a + b)) ≡ total_of t (window_at g axis s a) + total_of t (window_at g axis (s + a) b)

-- what the sum takes of the point at these indices
abbrev at_indices : (List ℤ → ℕ) → GridSize → Family → ℕ → ℕ → ℕ → ℕ
at_indices t g f i j l = t (point_at g f i j l)

-- the sums of three families, each cut in two
three_cut : (z x y z' x' y' z'' x'' y'' : ℕ) → z ≡ z' + z'' → x ≡ x' + x'' → y ≡ y' + y'' → z + x + y ≡ z' + x' + y' + (z'' + x'' + y'')
three_cut z x y z' x' y' z'' x'' y'' e f g = omega (arith, e, f, g)

cut_x : (t : List ℤ → ℕ) (g : GridSize) (s a b : ℕ) → g.pitch ≡ pos (per_node g) *ℤ g.step → Cuts t g 0 s a b
cut_x t g s a b e =
    let k = per_node g in
    let u = window_at g 0 s (a + b) in
    let v = window_at g 0 s a in
    let w = window_at g 0 (s + a) b in
    let z : family_sum t u Z ≡ family_sum t v Z + family_sum t w Z =
    cut_first (at_indices t v Z) (at_indices t w Z) a b (nodes_of g 1) (points_of g Z)
    (λ i j l. ap (λ x. t (x ∷ node_at g 1 j ∷ place_at g 2 l ∷ [])) (node_on (at g.origin 0) g.pitch s a i)) in
    let x : family_sum t u X ≡ family_sum t v X + family_sum t w X =
    cut_third (at_indices t v X) (at_indices t w X) (nodes_of g 1) (nodes_of g 2) ((a + b) * k) (a * k) (b * k) (apart a b k)
    (λ i j l. ap (λ x. t (x ∷ node_at g 1 i ∷ node_at g 2 j ∷ [])) (place_on (at g.origin 0) g.pitch g.step s a k l e)) in
    let y : family_sum t u Y ≡ family_sum t v Y + family_sum t w Y =
    cut_first (at_indices t v Y) (at_indices t w Y) a b (nodes_of g 2) (points_of g Y)
    (λ i j l. ap (λ x. t (x ∷ place_at g 1 l ∷ node_at g 2 j ∷ [])) (node_on (at g.origin 0) g.pitch s a i)) in
    three_cut (family_sum t u Z) (family_sum t u X) (family_sum t u Y) (family_sum t v Z) (family_sum t v X) (family_sum t v Y)
    (family_sum t w Z) (family_sum t w X) (family_sum t w Y) z x y

cut_y : (t : List ℤ → ℕ) (g : GridSize) (s a b : ℕ) → g.pitch ≡ pos (per_node g) *ℤ g.step → Cuts t g 1 s a b
cut_y t g s a b e =
    let k = per_node g in
    let u = window_at g 1 s (a + b) in
    let v = window_at g 1 s a in
    let w = window_at g 1 (s + a) b in
    let z : family_sum t u Z ≡ family_sum t v Z + family_sum t w Z =
    cut_second (at_indices t v Z) (at_indices t w Z) (nodes_of g 0) a b (points_of g Z)
    (λ i j l. ap (λ x. t (node_at g 0 i ∷ x ∷ place_at g 2 l ∷ [])) (node_on (at g.origin 1) g.pitch s a j)) in
    let x : family_sum t u X ≡ family_sum t v X + family_sum t w X =
    cut_first (at_indices t v X) (at_indices t w X) a b (nodes_of g 2) (points_of g X)
    (λ i j l. ap (λ x. t (place_at g 0 l ∷ x ∷ node_at g 2 j ∷ [])) (node_on (at g.origin 1) g.pitch s a i)) in
    let y : family_sum t u Y ≡ family_sum t v Y + family_sum t w Y =
    cut_third (at_indices t v Y) (at_indices t w Y) (nodes_of g 0) (nodes_of g 2) ((a + b) * k) (a * k) (b * k) (apart a b k)
    (λ i j l. ap (λ x. t (node_at g 0 i ∷ x ∷ node_at g 2 j ∷ [])) (place_on (at g.origin 1) g.pitch g.step s a k l e)) in
    three_cut (family_sum t u Z) (family_sum t u X) (family_sum t u Y) (family_sum t v Z) (family_sum t v X) (family_sum t v Y)
    (family_sum t w Z) (family_sum t w X) (family_sum t w Y) z x y

cut_z : (t : List ℤ → ℕ) (g : GridSize) (s a b : ℕ) → g.pitch ≡ pos (per_node g) *ℤ g.step → Cuts t g 2 s a b
cut_z t g s a b e =
    let k = per_node g in
    let u = window_at g 2 s (a + b) in
    let v = window_at g 2 s a in
    let w = window_at g 2 (s + a) b in
    let z : family_sum t u Z ≡ family_sum t v Z + family_sum t w Z =
    cut_third (at_indices t v Z) (at_indices t w Z) (nodes_of g 0) (nodes_of g 1) ((a + b) * k) (a * k) (b * k) (apart a b k)
    (λ i j l. ap (λ x. t (node_at g 0 i ∷ node_at g 1 j ∷ x ∷ [])) (place_on (at g.origin 2) g.pitch g.step s a k l e)) in
    let x : family_sum t u X ≡ family_sum t v X + family_sum t w X =
    cut_second (at_indices t v X) (at_indices t w X) (nodes_of g 1) a b (points_of g X)
    (λ i j l. ap (λ x. t (place_at g 0 l ∷ node_at g 1 i ∷ x ∷ [])) (node_on (at g.origin 2) g.pitch s a j)) in
    let y : family_sum t u Y ≡ family_sum t v Y + family_sum t w Y =
    cut_second (at_indices t v Y) (at_indices t w Y) (nodes_of g 0) a b (points_of g Y)
    (λ i j l. ap (λ x. t (node_at g 0 i ∷ place_at g 1 l ∷ x ∷ [])) (node_on (at g.origin 2) g.pitch s a j)) in
    three_cut (family_sum t u Z) (family_sum t u X) (family_sum t u Y) (family_sum t v Z) (family_sum t v X) (family_sum t v Y)
    (family_sum t w Z) (family_sum t w X) (family_sum t w Y) z x y

cut : (t : List ℤ → ℕ) (g : GridSize) (axis s a b : ℕ) → axis < 3 → g.pitch ≡ pos (per_node g) *ℤ g.step → Cuts t g axis s a b
cut t g zero s a b lt e = cut_x t g s a b e
cut t g (suc zero) s a b lt e = cut_y t g s a b e
cut t g (suc (suc zero)) s a b lt e = cut_z t g s a b e
cut t g (suc (suc (suc n))) s a b lt e = absurd (omega (arith, lt))

none_twice : (x y : ℕ) → x ≡ x + y → y ≡ x → x ≡ 0
none_twice x y e f = omega (arith, e, f)

-- a window of no nodes has no points: it is cut into itself and itself
without_nodes : (t : List ℤ → ℕ) (g : GridSize) (axis s : ℕ) → axis < 3 → g.pitch ≡ pos (per_node g) *ℤ g.step → total_of t (window_at g axis s 0) ≡ 0
without_nodes t g axis s lt e =
    let same : s + 0 ≡ s = omega arith in
    let twice = cut t g axis s 0 0 lt e in
    let again = ap (λ x. total_of t (window_at g axis x 0)) same in
    none_twice (total_of t (window_at g axis s 0)) (total_of t (window_at g axis (s + 0) 0)) twice again

-- the whole grid is the window of all its nodes
at_zero : (o p : ℤ) → o ≡ o +ℤ pos 0 *ℤ p
at_zero o p = omega (arith, ints)

whole : (t : List ℤ → ℕ) (g : GridSize) (axis : ℕ) → axis < 3 → total_of t g ≡ total_of t (window_at g axis 0 (nodes_of g axis))
whole t g zero lt =
    ap (λ x. total_of t record g { origin = x ∷ at g.origin 1 ∷ at g.origin 2 ∷ []; counts = nodes_of g 0 ∷ nodes_of g 1 ∷ nodes_of g 2 ∷ [] }) (at_zero (at g.origin 0) g.pitch)
whole t g (suc zero) lt =
    ap (λ x. total_of t record g { origin = at g.origin 0 ∷ x ∷ at g.origin 2 ∷ []; counts = nodes_of g 0 ∷ nodes_of g 1 ∷ nodes_of g 2 ∷ [] }) (at_zero (at g.origin 1) g.pitch)
whole t g (suc (suc zero)) lt =
    ap (λ x. total_of t record g { origin = at g.origin 0 ∷ at g.origin 1 ∷ x ∷ []; counts = nodes_of g 0 ∷ nodes_of g 1 ∷ nodes_of g 2 ∷ [] }) (at_zero (at g.origin 2) g.pitch)
whole t g (suc (suc (suc n))) lt = absurd (omega (arith, lt))

-- the windows of these counts have what one window of all their nodes has
windows_together : (t : List ℤ → ℕ) (g : GridSize) (axis s : ℕ) (counts : List ℕ) → axis < 3 → g.pitch ≡ pos (per_node g) *ℤ g.step
    → total_of t (window_at g axis s (sum counts)) ≡ sum_by (total_of t) (windows_from g axis s counts)
windows_together t g axis s [] lt e = without_nodes t g axis s lt e
windows_together t g axis s (n ∷ counts) lt e =
    ap (λ x. total_of t (window_at g axis s x)) (sum_by-cons (λ x. x) n counts)
    ∙ cut t g axis s n (sum counts) lt e
    ∙ ap (λ x. total_of t (window_at g axis s n) + x) (windows_together t g axis (s + n) counts lt e)
    ∙ sym (sum_by-cons (total_of t) (window_at g axis s n) (windows_from g axis (s + n) counts))

steps_whole : (p q : ℕ) → p % q ≡ 0 → p ≡ p / q * q
steps_whole p q d = let e = div-add-mod' p q in omega (arith, e, d)

-- the pitch is as many steps as a ray has points for each node
steps_of_pitch : (p q : ℤ) → pos 0 <ℤ p → pos 0 <ℤ q → unsigned_abs p % unsigned_abs q ≡ 0 → p ≡ pos (unsigned_abs p / unsigned_abs q) *ℤ q
steps_of_pitch (pos p) (pos q) lp lq d = ap pos (steps_whole p q d)
steps_of_pitch (pos p) (negsuc q) lp lq d = absurd (omega (arith, ints, lq))
steps_of_pitch (negsuc p) q lp lq d = absurd (omega (arith, ints, lp))

-- a sum over the lattice is the sum over those of the windows
pub windows_sum : (t : List ℤ → ℕ) (g : GridSize) (axis : ℕ) (counts : List ℕ) → IsCut g axis counts
    → sum_by (λ point. t point.position) (lattice_of g) ≡ sum_by (λ window. sum_by (λ point. t point.position) (lattice_of window)) (windows_of g axis counts)
windows_sum t g axis counts cut =
    lattice_sum_is t g ∙ whole t g axis cut.axis_in ∙ ap (λ n. total_of t (window_at g axis 0 n)) (sym cut.whole)
    ∙ windows_together t g axis 0 counts cut.axis_in (steps_of_pitch g.pitch g.step cut.pitch_in cut.step_in cut.divides)
    ∙ ap (λ f. sum_by f (windows_of g axis counts)) (λ i w. sym (lattice_sum_is t w) i)
