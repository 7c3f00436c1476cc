-- The grid line: the test of its numbers, and its text.
use Rattle.std.proofs.Common.{◌≡◌, ℕ, ◌-◌, ◌*◌, ◌/◌, ◌%◌, ◌^◌, ◌<◌, ◌≤◌, ◌==◌, ◌&&◌, ℤ, pos, negsuc, ◌+ℤ◌, ◌≤ℤ◌, unsigned_abs, Bool, true, false, not, List, [], ◌∷◌, ◌++◌, length, map, Option, Some, None, codes, decimal, nat_le, slice_index, get_or, arith, refl, sym, ap, ap₂, ◌∙◌, subst, eq-eqb, to_z, w32}
use Rattle.std.specs.Fmt.{signed_decimal}
use Rattle.std.specs.List.{list_all}
use Rattle.std.specs.Option.{option_and_then}
use Rattle.std.specs.Prelude.{int_le}
use Rattle.std.specs.Str.{bytes_eq}
use Rattle.std.proofs.lemmas.Bool.{and_from, and_parts, eqb-true, le-leb, leb-true}
use Rattle.std.proofs.lemmas.Int.{ints, to_z_pos}
use Rattle.std.proofs.Math.Nat.{mul-le-mul}
use Rattle.std.proofs.lemmas.Option.{option_and_then_some, same_Some, some_pair_parts}
use Rattle.vf_io.specs.Pieces.{line_feed, pieces_of}
use Rattle.vf_text.specs.Pages.{line, numbers}
use Rattle.space.specs.Ranges.{IsBetween, is_coordinate, metre}
use Rattle.space.specs.Vectors.{at}
use Rattle.ray_grid.specs.Grids.{GridSize}
use Rattle.ray_grid.specs.Ranges.{IsGrid, IsGridAxis, most_nodes, most_per_node}
use Rattle.cert_lines.specs.Words.{line_in, spaced_words}
use Rattle.cert_lines.proofs.SpeltLemmas.{is_plain, pieces_of-line}
use Rattle.cert_lines.proofs.WordLemmas.{line_in-push}
use Rattle.stock_file.specs.GridTests.{counts_in, counts_of, grid_in, grid_in_line, grid_named, grid_of_sizes, is_axis_of_grid, is_grid, is_pitch, origin_in, origin_of, sizes_in}
use Rattle.stock_file.specs.Numbers.{plain_number, signed_number}
use Rattle.stock_file.specs.Spelling.{grid_line, grid_numbers}
use Rattle.stock_file.proofs.TextLemmas.{all_plain, is_small, line_is, numbers_as_words, plain-decimal, plain_is, signed-decimal, signed_is, signed_plain, text_no_end, text_of_words, words_make, words_of-text}
use Rattle.stock_file.proofs.LineLemmas.{same_bytes, then_is}

at_most : (a b : ℤ) → int_le a b ≡ true → a ≤ℤ b
at_most a b h = grind (arith, ints)

at_most_from : (a b : ℤ) → a ≤ℤ b → int_le a b ≡ true
at_most_from a b h = grind (arith, ints)

-- what passes the tests is a grid
axis_shown : (pitch step origin : ℤ) (nodes : ℕ) → is_axis_of_grid pitch step origin nodes ≡ true → IsGridAxis pitch step origin nodes
axis_shown pitch step origin nodes test =
    let last = int_le (origin +ℤ pos ((nodes * (unsigned_abs pitch / unsigned_abs step) - 1) * unsigned_abs step)) (pos metre) in
    let (near, more) = and_parts (is_coordinate origin) (nat_le 1 nodes && (nat_le nodes most_nodes && last)) test in
    let (some, rest) = and_parts (nat_le 1 nodes) (nat_le nodes most_nodes && last) more in
    let (most, end) = and_parts (nat_le nodes most_nodes) last rest in
    record {
      origin_in = leb-true (unsigned_abs origin) metre near;
      some = leb-true 1 nodes some;
      most = leb-true nodes most_nodes most;
      last = at_most (origin +ℤ pos ((nodes * (unsigned_abs pitch / unsigned_abs step) - 1) * unsigned_abs step)) (pos metre) end;
    }

axis_from : (pitch step origin : ℤ) (nodes : ℕ) → IsGridAxis pitch step origin nodes → is_axis_of_grid pitch step origin nodes ≡ true
axis_from pitch step origin nodes is =
    let last = int_le (origin +ℤ pos ((nodes * (unsigned_abs pitch / unsigned_abs step) - 1) * unsigned_abs step)) (pos metre) in
    and_from (is_coordinate origin) (nat_le 1 nodes && (nat_le nodes most_nodes && last)) (le-leb (unsigned_abs origin) metre is.origin_in)
    (and_from (nat_le 1 nodes) (nat_le nodes most_nodes && last) (le-leb 1 nodes is.some)
    (and_from (nat_le nodes most_nodes) last (le-leb nodes most_nodes is.most)
    (at_most_from (origin +ℤ pos ((nodes * (unsigned_abs pitch / unsigned_abs step) - 1) * unsigned_abs step)) (pos metre) is.last)))

pub record IsPitch (pitch step : ℤ) : Type 0 where
  pub pitch_in : IsBetween (pos 1) (pos metre) pitch
  pub step_in : IsBetween (pos 1) pitch step
  pub divides : unsigned_abs pitch % unsigned_abs step ≡ 0
  pub fine : unsigned_abs pitch / unsigned_abs step ≤ most_per_node

pub pitch_shown : (pitch step : ℤ) → is_pitch pitch step ≡ true → IsPitch pitch step
pitch_shown pitch step test =
    let whole = unsigned_abs pitch % unsigned_abs step == 0 in
    let few = nat_le (unsigned_abs pitch / unsigned_abs step) most_per_node in
    let (a, more) = and_parts (int_le (pos 1) pitch) (int_le pitch (pos metre) && (int_le (pos 1) step && (int_le step pitch && (whole && few)))) test in
    let (b, rest) = and_parts (int_le pitch (pos metre)) (int_le (pos 1) step && (int_le step pitch && (whole && few))) more in
    let (c, left) = and_parts (int_le (pos 1) step) (int_le step pitch && (whole && few)) rest in
    let (d, ends) = and_parts (int_le step pitch) (whole && few) left in
    let (e, f) = and_parts whole few ends in
    record {
      pitch_in = record { from_least = at_most (pos 1) pitch a; to_most = at_most pitch (pos metre) b };
      step_in = record { from_least = at_most (pos 1) step c; to_most = at_most step pitch d };
      divides = eqb-true (unsigned_abs pitch % unsigned_abs step) 0 e;
      fine = leb-true (unsigned_abs pitch / unsigned_abs step) most_per_node f;
    }

pitch_from : (pitch step : ℤ) → IsPitch pitch step → is_pitch pitch step ≡ true
pitch_from pitch step is =
    let whole = unsigned_abs pitch % unsigned_abs step == 0 in
    let few = nat_le (unsigned_abs pitch / unsigned_abs step) most_per_node in
    and_from (int_le (pos 1) pitch) (int_le pitch (pos metre) && (int_le (pos 1) step && (int_le step pitch && (whole && few)))) (at_most_from (pos 1) pitch is.pitch_in.from_least)
    (and_from (int_le pitch (pos metre)) (int_le (pos 1) step && (int_le step pitch && (whole && few))) (at_most_from pitch (pos metre) is.pitch_in.to_most)
    (and_from (int_le (pos 1) step) (int_le step pitch && (whole && few)) (at_most_from (pos 1) step is.step_in.from_least)
    (and_from (int_le step pitch) (whole && few) (at_most_from step pitch is.step_in.to_most)
    (and_from whole few (eq-eqb (unsigned_abs pitch % unsigned_abs step) 0 is.divides) (le-leb (unsigned_abs pitch / unsigned_abs step) most_per_node is.fine)))))

pub grid_shown : (g : GridSize) → is_grid g ≡ true → IsGrid g
grid_shown g test =
    let x = is_axis_of_grid g.pitch g.step (at g.origin 0) (slice_index g.counts 0) in
    let y = is_axis_of_grid g.pitch g.step (at g.origin 1) (slice_index g.counts 1) in
    let z = is_axis_of_grid g.pitch g.step (at g.origin 2) (slice_index g.counts 2) in
    let (p, axes) = and_parts (is_pitch g.pitch g.step) (x && (y && z)) test in
    let (a, more) = and_parts x (y && z) axes in
    let (b, c) = and_parts y z more in
    let pitch = pitch_shown g.pitch g.step p in
    record {
      pitch_in = pitch.pitch_in;
      step_in = pitch.step_in;
      divides = pitch.divides;
      fine = pitch.fine;
      x = axis_shown g.pitch g.step (at g.origin 0) (slice_index g.counts 0) a;
      y = axis_shown g.pitch g.step (at g.origin 1) (slice_index g.counts 1) b;
      z = axis_shown g.pitch g.step (at g.origin 2) (slice_index g.counts 2) c;
    }

pub grid_from : (g : GridSize) → IsGrid g → is_grid g ≡ true
grid_from g is =
    let x = is_axis_of_grid g.pitch g.step (at g.origin 0) (slice_index g.counts 0) in
    let y = is_axis_of_grid g.pitch g.step (at g.origin 1) (slice_index g.counts 1) in
    let z = is_axis_of_grid g.pitch g.step (at g.origin 2) (slice_index g.counts 2) in
    and_from (is_pitch g.pitch g.step) (x && (y && z))
    (pitch_from g.pitch g.step (record { pitch_in = is.pitch_in; step_in = is.step_in; divides = is.divides; fine = is.fine }))
    (and_from x (y && z) (axis_from g.pitch g.step (at g.origin 0) (slice_index g.counts 0) is.x)
    (and_from y z (axis_from g.pitch g.step (at g.origin 1) (slice_index g.counts 1) is.y)
    (axis_from g.pitch g.step (at g.origin 2) (slice_index g.counts 2) is.z)))

within_pitch : (pitch step : ℤ) → step ≤ℤ pitch → pitch ≤ℤ pos metre → step ≤ℤ pos metre
within_pitch pitch step a b = omega (arith, ints)

-- how far the points of a ray reach
pub short_axis : (pitch step nodes : ℕ) → is_pitch (pos pitch) (pos step) ≡ true → nodes ≤ most_nodes → (nodes * (pitch / step) - 1) * step ≤ 10 ^ 12
short_axis pitch step nodes test few =
    let is = pitch_shown (pos pitch) (pos step) test in
    let fine : pitch / step ≤ most_per_node = is.fine in
    let low : step ≤ metre = pos_most step (within_pitch (pos pitch) (pos step) is.step_in.to_most is.pitch_in.to_most) in
    let points : nodes * (pitch / step) ≤ most_nodes * most_per_node = mul-le-mul few fine in
    let before : nodes * (pitch / step) - 1 ≤ most_nodes * most_per_node = omega arith in
    let all : (nodes * (pitch / step) - 1) * step ≤ (most_nodes * most_per_node) * metre = mul-le-mul before low in
    omega (arith, all)
  where
    pos_most : (n : ℕ) → pos n ≤ℤ pos metre → n ≤ metre
    pos_most n h = omega (arith, ints)

-- the test of a grid's pitch and axes, one after the other
abbrev pub has_axis : GridSize → ℕ → Bool
has_axis g axis = is_axis_of_grid g.pitch g.step (at g.origin axis) (slice_index g.counts axis)

pub first_fails : (g : GridSize) → is_pitch g.pitch g.step ≡ true → has_axis g 0 ≡ false → false ≡ is_grid g
first_fails g pitch x =
    sym (ap (λ (t : Bool). t && (has_axis g 0 && (has_axis g 1 && has_axis g 2))) pitch ∙ ap (λ (t : Bool). t && (has_axis g 1 && has_axis g 2)) x)

pub second_fails : (g : GridSize) → is_pitch g.pitch g.step ≡ true → has_axis g 0 ≡ true → has_axis g 1 ≡ false → false ≡ is_grid g
second_fails g pitch x y =
    sym (ap (λ (t : Bool). t && (has_axis g 0 && (has_axis g 1 && has_axis g 2))) pitch ∙ ap (λ (t : Bool). t && (has_axis g 1 && has_axis g 2)) x
    ∙ ap (λ (t : Bool). t && has_axis g 2) y)

pub last_decides : (g : GridSize) → is_pitch g.pitch g.step ≡ true → has_axis g 0 ≡ true → has_axis g 1 ≡ true → has_axis g 2 ≡ is_grid g
last_decides g pitch x y =
    sym (ap (λ (t : Bool). t && (has_axis g 0 && (has_axis g 1 && has_axis g 2))) pitch ∙ ap (λ (t : Bool). t && (has_axis g 1 && has_axis g 2)) x
    ∙ ap (λ (t : Bool). t && has_axis g 2) y)

-- pitch and step of a grid as signed numbers
signed_number_is : (n : ℕ) → pos n ≤ℤ pos metre → to_z w32 n ≡ pos n
signed_number_is n most = let low : n ≤ metre = omega (arith, ints) in to_z_pos w32 n (omega (arith, low))

pub cast_grid : (origin : List ℤ) (pitch step : ℕ) (counts : List ℕ) → is_grid (record { origin = origin; pitch = pos pitch; step = pos step; counts = counts }) ≡ true
    → IsGrid (record { origin = origin; pitch = to_z w32 pitch; step = to_z w32 step; counts = counts })
cast_grid origin pitch step counts test =
    let is = grid_shown (record { origin = origin; pitch = pos pitch; step = pos step; counts = counts }) test in
    let p : to_z w32 pitch ≡ pos pitch = signed_number_is pitch is.pitch_in.to_most in
    let s : to_z w32 step ≡ pos step = signed_number_is step (within_pitch (pos pitch) (pos step) is.step_in.to_most is.pitch_in.to_most) in
    subst (λ (z : ℤ). IsGrid (record { origin = origin; pitch = z; step = to_z w32 step; counts = counts })) (sym p)
    (subst (λ (z : ℤ). IsGrid (record { origin = origin; pitch = pos pitch; step = z; counts = counts })) (sym s) is)

-- lists of three
pub three_is : {A : Type 0} (xs : List A) (d : A) → length xs ≡ 3 → xs ≡ get_or xs 0 d ∷ get_or xs 1 d ∷ get_or xs 2 d ∷ []
three_is [] d size = absurd (omega (arith, size))
three_is (a ∷ []) d size = absurd (omega (arith, size))
three_is (a ∷ b ∷ []) d size = absurd (omega (arith, size))
three_is (a ∷ b ∷ c ∷ []) d size = refl
three_is (a ∷ b ∷ c ∷ e ∷ xs) d size = absurd (omega (arith, size))

positive_is : (z : ℤ) → pos 1 ≤ℤ z → z ≡ pos (unsigned_abs z)
positive_is (pos n) h = refl
positive_is (negsuc n) h = absurd (omega (arith, ints))

small_origin : (z : ℤ) → unsigned_abs z ≤ metre → is_small z
small_origin (pos n) near = omega (arith, near)
small_origin (negsuc n) near = omega (arith, near)

-- the words of a grid's numbers
abbrev grid_words : GridSize → List (List ℕ)
grid_words g = map signed_decimal (grid_numbers g)

-- the line of a grid is read as the grid
abbrev grid_text : GridSize → List ℕ
grid_text g = codes "grid" ++ numbers (grid_numbers g)

made_grid : (x y z : ℤ) (pitch step a b c : ℕ) → is_small x → is_small y → is_small z → pitch < 10 ^ 9 → step < 10 ^ 9 → a < 10 ^ 9 → b < 10 ^ 9 → c < 10 ^ 9
    → grid_in (signed_decimal x ∷ signed_decimal y ∷ signed_decimal z ∷ decimal pitch ∷ decimal step ∷ decimal a ∷ decimal b ∷ decimal c ∷ [])
    ≡ Some (record { origin = x ∷ y ∷ z ∷ []; pitch = pos pitch; step = pos step; counts = a ∷ b ∷ c ∷ [] })
made_grid x y z pitch step a b c sx sy sz sp ss sa sb sc =
    let sizes = decimal pitch ∷ decimal step ∷ decimal a ∷ decimal b ∷ decimal c ∷ [] in
    let origin : origin_in (signed_decimal x ∷ signed_decimal y ∷ signed_decimal z ∷ sizes) ≡ Some (x ∷ y ∷ z ∷ [], sizes) =
    rw (signed-decimal x sx, signed-decimal y sy, signed-decimal z sz) refl in
    let rest : sizes_in (x ∷ y ∷ z ∷ []) sizes ≡ Some (record { origin = x ∷ y ∷ z ∷ []; pitch = pos pitch; step = pos step; counts = a ∷ b ∷ c ∷ [] }) =
    rw (plain-decimal pitch sp, plain-decimal step ss, plain-decimal a sa, plain-decimal b sb, plain-decimal c sc) refl in
    ap (option_and_then (λ cut. sizes_in cut.0 cut.1)) origin ∙ rest

pub record IsWritable (g : GridSize) : Type 0 where
  pub x : is_small (at g.origin 0)
  pub y : is_small (at g.origin 1)
  pub z : is_small (at g.origin 2)
  pub pitch_is : g.pitch ≡ pos (unsigned_abs g.pitch)
  pub step_is : g.step ≡ pos (unsigned_abs g.step)
  pub pitch : unsigned_abs g.pitch < 10 ^ 9
  pub step : unsigned_abs g.step < 10 ^ 9
  pub a : slice_index g.counts 0 < 10 ^ 9
  pub b : slice_index g.counts 1 < 10 ^ 9
  pub c : slice_index g.counts 2 < 10 ^ 9

few_abs : (z : ℤ) → pos 1 ≤ℤ z → z ≤ℤ pos metre → unsigned_abs z < 10 ^ 9
few_abs (pos n) low high = omega (arith, ints)
few_abs (negsuc n) low high = absurd (omega (arith, ints))

pub writable : (g : GridSize) → IsGrid g → IsWritable g
writable g is = record {
  x = small_origin (at g.origin 0) is.x.origin_in;
  y = small_origin (at g.origin 1) is.y.origin_in;
  z = small_origin (at g.origin 2) is.z.origin_in;
  pitch_is = positive_is g.pitch is.pitch_in.from_least;
  step_is = positive_is g.step is.step_in.from_least;
  pitch = few_abs g.pitch is.pitch_in.from_least is.pitch_in.to_most;
  step = few_abs g.step is.step_in.from_least (within_pitch g.pitch g.step is.step_in.to_most is.pitch_in.to_most);
  a = omega (arith, is.x.most);
  b = omega (arith, is.y.most);
  c = omega (arith, is.z.most);
}

-- a grid is the one of its numbers
same_grid : (g : GridSize) → length g.origin ≡ 3 → length g.counts ≡ 3 → g.pitch ≡ pos (unsigned_abs g.pitch) → g.step ≡ pos (unsigned_abs g.step)
    → record {
      origin = at g.origin 0 ∷ at g.origin 1 ∷ at g.origin 2 ∷ [];
      pitch = pos (unsigned_abs g.pitch);
      step = pos (unsigned_abs g.step);
      counts = slice_index g.counts 0 ∷ slice_index g.counts 1 ∷ slice_index g.counts 2 ∷ [];
    } ≡ g
same_grid g origin counts pitch step =
    let o = three_is g.origin (pos 0) origin in
    let n = three_is g.counts 0 counts in
    sym (ap (λ (xs : List ℤ). record { origin = xs; pitch = g.pitch; step = g.step; counts = g.counts }) o
    ∙ ap (λ (z : ℤ). record { origin = at g.origin 0 ∷ at g.origin 1 ∷ at g.origin 2 ∷ []; pitch = z; step = g.step; counts = g.counts }) pitch
    ∙ ap (λ (z : ℤ). record { origin = at g.origin 0 ∷ at g.origin 1 ∷ at g.origin 2 ∷ []; pitch = pos (unsigned_abs g.pitch); step = z; counts = g.counts }) step
    ∙ ap (λ (ns : List ℕ). record { origin = at g.origin 0 ∷ at g.origin 1 ∷ at g.origin 2 ∷ []; pitch = pos (unsigned_abs g.pitch); step = pos (unsigned_abs g.step); counts = ns }) n)

words_plain : (g : GridSize) → IsWritable g → all_plain (grid_words g) ≡ true
words_plain g w =
    ap₂ ◌&&◌ (signed_plain (at g.origin 0) w.x) (ap₂ ◌&&◌ (signed_plain (at g.origin 1) w.y) (ap₂ ◌&&◌ (signed_plain (at g.origin 2) w.z)
    (ap₂ ◌&&◌ (ap (λ (z : ℤ). list_all is_plain (signed_decimal z)) w.pitch_is ∙ signed_plain (pos (unsigned_abs g.pitch)) w.pitch)
    (ap₂ ◌&&◌ (ap (λ (z : ℤ). list_all is_plain (signed_decimal z)) w.step_is ∙ signed_plain (pos (unsigned_abs g.step)) w.step)
    (ap₂ ◌&&◌ (signed_plain (pos (slice_index g.counts 0)) w.a) (ap₂ ◌&&◌ (signed_plain (pos (slice_index g.counts 1)) w.b)
    (ap₂ ◌&&◌ (signed_plain (pos (slice_index g.counts 2)) w.c) refl)))))))

pub grid_read : (g : GridSize) → IsGrid g → length g.origin ≡ 3 → length g.counts ≡ 3 → grid_named (grid_line g) ≡ Some g
grid_read g is origin counts =
    let w = writable g is in
    let words : spaced_words (grid_text g) ≡ codes "grid" ∷ grid_words g =
    ap (λ (rest : List ℕ). spaced_words (codes "grid" ++ rest)) (numbers_as_words (grid_numbers g)) ∙ words_of-text (codes "grid") (grid_words g) refl (words_plain g w) in
    let shown : grid_in (grid_words g) ≡ grid_in (signed_decimal (at g.origin 0) ∷ signed_decimal (at g.origin 1) ∷ signed_decimal (at g.origin 2) ∷ decimal (unsigned_abs g.pitch) ∷ decimal (unsigned_abs g.step)
    ∷ decimal (slice_index g.counts 0) ∷ decimal (slice_index g.counts 1) ∷ decimal (slice_index g.counts 2) ∷ []) =
    ap₂ (λ (p s : ℤ). grid_in (signed_decimal (at g.origin 0) ∷ signed_decimal (at g.origin 1) ∷ signed_decimal (at g.origin 2) ∷ signed_decimal p ∷ signed_decimal s
    ∷ decimal (slice_index g.counts 0) ∷ decimal (slice_index g.counts 1) ∷ decimal (slice_index g.counts 2) ∷ [])) w.pitch_is w.step_is in
    ap (option_and_then (λ text. grid_in_line (spaced_words text))) (line_in-push (grid_text g) line_feed)
    ∙ ap grid_in_line words
    ∙ shown
    ∙ made_grid (at g.origin 0) (at g.origin 1) (at g.origin 2) (unsigned_abs g.pitch) (unsigned_abs g.step) (slice_index g.counts 0) (slice_index g.counts 1) (slice_index g.counts 2)
    w.x w.y w.z w.pitch w.step w.a w.b w.c
    ∙ ap (λ (h : GridSize). given h) (same_grid g origin counts w.pitch_is w.step_is)
  where
    given : GridSize → Option GridSize
    given h = Some h

pub piece_of_grid : (g : GridSize) (rest : List ℕ) → IsGrid g → pieces_of (grid_line g ++ rest) ≡ grid_line g ∷ pieces_of rest
piece_of_grid g rest is =
    pieces_of-line (grid_text g) rest
    (ap (λ (after : List ℕ). list_all (λ b. not (b == line_feed)) (codes "grid" ++ after)) (numbers_as_words (grid_numbers g))
    ∙ text_no_end (codes "grid") (grid_words g) refl (words_plain g (writable g is)))

-- and a line that is read as a grid is the grid's
pub record IsNamedGrid (piece : List ℕ) (g : GridSize) : Type 0 where
  pub origin : length g.origin ≡ 3
  pub counts : length g.counts ≡ 3
  pub text : piece ≡ grid_line g

abbrev signs : ℤ → ℤ → ℤ → List (List ℕ) → List (List ℕ)
signs x y z words = signed_decimal x ∷ signed_decimal y ∷ signed_decimal z ∷ words

record IsOrigin (words : List (List ℕ)) (origin : List ℤ) (after : List (List ℕ)) : Type 0 where
  x : ℤ
  y : ℤ
  z : ℤ
  are : origin ≡ x ∷ y ∷ z ∷ []
  text : words ≡ signs x y z after

origin_parts : (u v w : List ℕ) (x y z : Option ℤ) (words : List (List ℕ)) (origin : List ℤ) (after : List (List ℕ)) → signed_number u ≡ x → signed_number v ≡ y → signed_number w ≡ z
    → origin_of x y z words ≡ Some (origin, after) → IsOrigin (u ∷ v ∷ w ∷ words) origin after
origin_parts u v w None y z words origin after a b c is = absurd (cc)
origin_parts u v w (Some x) None z words origin after a b c is = absurd (cc)
origin_parts u v w (Some x) (Some y) None words origin after a b c is = absurd (cc)
origin_parts u v w (Some x) (Some y) (Some z) words origin after a b c is =
    let (all, rest) = some_pair_parts (x ∷ y ∷ z ∷ []) origin words after is in
    record {
      x = x;
      y = y;
      z = z;
      are = sym all;
      text = cons (signed_is u x a).0 (cons (signed_is v y b).0 (cons (signed_is w z c).0 rest));
    }
  where
    cons : {p q : List ℕ} {ps qs : List (List ℕ)} → p ≡ q → ps ≡ qs → p ∷ ps ≡ q ∷ qs
    cons one more = ap₂ (λ (p : List ℕ) (ps : List (List ℕ)). p ∷ ps) one more

origin_is : (words : List (List ℕ)) (origin : List ℤ) (after : List (List ℕ)) → origin_in words ≡ Some (origin, after) → IsOrigin words origin after
origin_is [] origin after is = absurd (cc)
origin_is (u ∷ []) origin after is = absurd (cc)
origin_is (u ∷ v ∷ []) origin after is = absurd (cc)
origin_is (u ∷ v ∷ w ∷ words) origin after is =
    origin_parts u v w (signed_number u) (signed_number v) (signed_number w) words origin after refl refl refl is

record AreCounts (words : List (List ℕ)) (counts : List ℕ) : Type 0 where
  a : ℕ
  b : ℕ
  c : ℕ
  are : counts ≡ a ∷ b ∷ c ∷ []
  text : words ≡ decimal a ∷ decimal b ∷ decimal c ∷ []

counts_parts : (u v w : List ℕ) (a b c : Option ℕ) (counts : List ℕ) → plain_number u ≡ a → plain_number v ≡ b → plain_number w ≡ c → counts_of a b c ≡ Some counts → AreCounts (u ∷ v ∷ w ∷ []) counts
counts_parts u v w None b c counts p q r is = absurd (cc)
counts_parts u v w (Some a) None c counts p q r is = absurd (cc)
counts_parts u v w (Some a) (Some b) None counts p q r is = absurd (cc)
counts_parts u v w (Some a) (Some b) (Some c) counts p q r is = record {
  a = a;
  b = b;
  c = c;
  are = sym (same_Some (a ∷ b ∷ c ∷ []) counts is);
  text = cons (plain_is u a p).0 (cons (plain_is v b q).0 (cons (plain_is w c r).0 refl));
}
  where
    cons : {p q : List ℕ} {ps qs : List (List ℕ)} → p ≡ q → ps ≡ qs → p ∷ ps ≡ q ∷ qs
    cons one more = ap₂ (λ (p : List ℕ) (ps : List (List ℕ)). p ∷ ps) one more

counts_are : (words : List (List ℕ)) (counts : List ℕ) → counts_in words ≡ Some counts → AreCounts words counts
counts_are [] counts is = absurd (cc)
counts_are (u ∷ []) counts is = absurd (cc)
counts_are (u ∷ v ∷ []) counts is = absurd (cc)
counts_are (u ∷ v ∷ w ∷ []) counts is = counts_parts u v w (plain_number u) (plain_number v) (plain_number w) counts refl refl refl is
counts_are (u ∷ v ∷ w ∷ e ∷ words) counts is = absurd (cc)

record AreSizes (origin : List ℤ) (words : List (List ℕ)) (g : GridSize) : Type 0 where
  pitch : ℕ
  step : ℕ
  counts : List ℕ
  rest : List (List ℕ)
  many : AreCounts rest counts
  are : record { origin = origin; pitch = pos pitch; step = pos step; counts = counts } ≡ g
  text : words ≡ decimal pitch ∷ decimal step ∷ rest

sizes_parts : (origin : List ℤ) (u v : List ℕ) (words : List (List ℕ)) (pitch step : Option ℕ) (counts : Option (List ℕ)) (g : GridSize) → plain_number u ≡ pitch → plain_number v ≡ step → counts_in words ≡ counts
    → grid_of_sizes origin pitch step counts ≡ Some g → AreSizes origin (u ∷ v ∷ words) g
sizes_parts origin u v words None step counts g p s c is = absurd (cc)
sizes_parts origin u v words (Some pitch) None counts g p s c is = absurd (cc)
sizes_parts origin u v words (Some pitch) (Some step) None g p s c is = absurd (cc)
sizes_parts origin u v words (Some pitch) (Some step) (Some counts) g p s c is = record {
  pitch = pitch;
  step = step;
  counts = counts;
  rest = words;
  many = counts_are words counts c;
  are = same_Some (record { origin = origin; pitch = pos pitch; step = pos step; counts = counts }) g is;
  text = ap₂ (λ (w : List ℕ) (ws : List (List ℕ)). w ∷ ws) (plain_is u pitch p).0 (ap (λ (a : List ℕ). a ∷ words) (plain_is v step s).0);
}

sizes_are : (origin : List ℤ) (words : List (List ℕ)) (g : GridSize) → sizes_in origin words ≡ Some g → AreSizes origin words g
sizes_are origin [] g is = absurd (cc)
sizes_are origin (u ∷ []) g is = absurd (cc)
sizes_are origin (u ∷ v ∷ words) g is = sizes_parts origin u v words (plain_number u) (plain_number v) (counts_in words) g refl refl refl is

-- the numbers of a grid that was read are its words
record AreWords (words : List (List ℕ)) (g : GridSize) : Type 0 where
  origin : length g.origin ≡ 3
  counts : length g.counts ≡ 3
  text : words ≡ grid_words g

words_are : (words : List (List ℕ)) (g : GridSize) → grid_in words ≡ Some g → AreWords words g
words_are words g is =
    option_and_then_some (λ cut. sizes_in cut.0 cut.1) (origin_in words) g is
    (λ cut here says.
    let o = origin_is words cut.0 cut.1 here in
    let s = sizes_are cut.0 cut.1 g says in
    let origin : g.origin ≡ o.x ∷ o.y ∷ o.z ∷ [] = ap (λ (h : GridSize). h.origin) (sym s.are) ∙ o.are in
    let pitch : g.pitch ≡ pos s.pitch = ap (λ (h : GridSize). h.pitch) (sym s.are) in
    let step : g.step ≡ pos s.step = ap (λ (h : GridSize). h.step) (sym s.are) in
    let counts : g.counts ≡ s.many.a ∷ s.many.b ∷ s.many.c ∷ [] = ap (λ (h : GridSize). h.counts) (sym s.are) ∙ s.many.are in
    record {
      origin = ap (λ (xs : List ℤ). length xs) origin;
      counts = ap (λ (xs : List ℕ). length xs) counts;
      text = o.text
          ∙ ap (signs o.x o.y o.z) (s.text ∙ ap (λ (rest : List (List ℕ)). decimal s.pitch ∷ decimal s.step ∷ rest) s.many.text)
          ∙ sym (ap₂ (λ (xs : List ℤ) (ns : List ℕ). shown xs g.pitch g.step ns) origin counts
          ∙ ap₂ (λ (p q : ℤ). shown (o.x ∷ o.y ∷ o.z ∷ []) p q (s.many.a ∷ s.many.b ∷ s.many.c ∷ [])) pitch step);
    })
  where
    shown : List ℤ → ℤ → ℤ → List ℕ → List (List ℕ)
    shown xs p q ns = grid_words (record { origin = xs; pitch = p; step = q; counts = ns })

pub named_grid : (piece : List ℕ) (g : GridSize) → grid_named piece ≡ Some g → IsNamedGrid piece g
named_grid piece g is =
    option_and_then_some (λ text. grid_in_line (spaced_words text)) (line_in piece) g is
    (λ text here says. by_words piece text (spaced_words text) refl here says)
  where
    by_words : (piece text : List ℕ) (words : List (List ℕ)) → spaced_words text ≡ words → line_in piece ≡ Some text → grid_in_line words ≡ Some g → IsNamedGrid piece g
    by_words piece text [] same here says = absurd (cc)
    by_words piece text (verb ∷ words) same here says =
        let (test, rest) = then_is (bytes_eq verb (codes "grid")) (grid_in words) g says in
        let all = words_are words g rest in
        record {
          origin = all.origin;
          counts = all.counts;
          text = line_is piece text here
              ∙ ap (λ (front : List ℕ). line front)
              (sym (words_make text) ∙ ap text_of_words (same ∙ ap₂ (λ (w : List ℕ) (ws : List (List ℕ)). w ∷ ws) (same_bytes verb (codes "grid") test) all.text)
              ∙ ap (λ (after : List ℕ). codes "grid" ++ after) (sym (numbers_as_words (grid_numbers g))));
        }
