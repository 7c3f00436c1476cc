-- The lines of a saved stock as they are read, and as they are written.
use Rattle.std.proofs.Common.{◌≡◌, ℕ, ◌+◌, ◌^◌, ◌<◌, ◌≤◌, ◌&&◌, ◌==◌, Bool, true, false, not, List, [], ◌∷◌, ◌++◌, length, map, Option, Some, None, Result, Ok, Err, cond, codes, decimal, nat_le, nat_lt, arith, refl, sym, ap, ap₂, ◌∙◌, subst}
use Rattle.std.specs.List.{list_all}
use Rattle.std.specs.Option.{option_and_then}
use Rattle.std.specs.Str.{bytes_eq}
use Rattle.std.proofs.lemmas.Bool.{and_from, and_parts, le-leb, leb-true, lt-ltb, ltb-true}
use Rattle.std.proofs.lemmas.Option.{option_and_then_some, same_Some, some_pair_parts}
use Rattle.std.proofs.lemmas.Slice.Eq.{bytes_eq-Decides}
use Rattle.vf_io.specs.Pieces.{line_feed, pieces_of}
use Rattle.vf_spans.specs.Edges.{flags_of}
use Rattle.vf_spans.specs.Members.{ranges_of}
use Rattle.vf_spans.proofs.Flags.{length-flags}
use Rattle.vf_text.specs.Pages.{line}
use Rattle.ray_grid.specs.Families.{first_axis, second_axis}
use Rattle.ray_grid.specs.Grids.{GridSize}
use Rattle.ray_grid.specs.Lattice.{IsRay, is_ray_on, nodes_of, points_of}
use Rattle.ray_grid.specs.Ranges.{IsGrid}
use Rattle.ray_grid.specs.Strips.{ray_number}
use Rattle.ray_grid.specs.declared.ray.Family.{Family}
use Rattle.ray_grid.specs.declared.ray.Family.TheVariants.{X, Y, Z}
use Rattle.ray_grid.specs.declared.ray.Ray.{Ray}
use Rattle.ray_grid.proofs.Sizes.{few_places}
use Rattle.cert_lines.specs.Lines.{named_family}
use Rattle.cert_lines.specs.Spelling.{family_letter}
use Rattle.cert_lines.specs.Words.{line_in, spaced_words}
use Rattle.cert_lines.proofs.SpeltLemmas.{pieces_of-line}
use Rattle.cert_lines.proofs.WordLemmas.{line_in-push}
use Rattle.stock_file.specs.Numbers.{plain_number}
use Rattle.stock_file.specs.RayLines.{are_ranges, are_ranges_from, bounds_in, is_ray_due, ray_after_verb, ray_in_line, ray_judged, ray_named, ray_set_in, ray_with, set_for, set_judged}
use Rattle.stock_file.specs.Spelling.{range_bounds, counts_spelt, ranges_line}
use Rattle.stock_file.specs.declared.fault.StockWhy.{StockWhy}
use Rattle.stock_file.specs.declared.fault.StockWhy.TheVariants.{StockOrder}
use Rattle.stock_file.specs.declared.ray_set.RaySet.{RaySet}
use Rattle.stock_file.proofs.RangeLemmas.{bounds-flags, flags-bounds, ranges_ordered}
use Rattle.stock_file.proofs.RayOrder.{few_nodes}
use Rattle.stock_file.proofs.TextLemmas.{all_few, all_plain, bounds-decimal, bounds_are, counts_as_words, decimals_plain, letter_plain, letter_read, line_is, plain-decimal, plain_is, text_no_end, text_of_words, words_make, words_of-text}

-- what passes a test of a ray is a ray of the grid
pub ray_on : (g : GridSize) (ray : Ray) → is_ray_on g ray ≡ true → IsRay g ray
ray_on g ray test =
    let (first, second) = and_parts (nat_lt ray.i (nodes_of g (first_axis ray.family))) (nat_lt ray.j (nodes_of g (second_axis ray.family))) test in
    record { first = ltb-true ray.i (nodes_of g (first_axis ray.family)) first; second = ltb-true ray.j (nodes_of g (second_axis ray.family)) second }

pub on_ray : (g : GridSize) (ray : Ray) → IsRay g ray → is_ray_on g ray ≡ true
on_ray g ray is =
    and_from (nat_lt ray.i (nodes_of g (first_axis ray.family))) (nat_lt ray.j (nodes_of g (second_axis ray.family)))
    (lt-ltb ray.i (nodes_of g (first_axis ray.family)) is.first) (lt-ltb ray.j (nodes_of g (second_axis ray.family)) is.second)

-- a set that was judged well
cond_ok : {A : Type 0} (t : Bool) (x y : A) (why : StockWhy) → cond t (Ok x) (Err why) ≡ Ok y → (t ≡ true) × (x ≡ y)
cond_ok true x y why is = (refl, cc)
cond_ok false x y why is = absurd (cc)

pub record IsJudged (is_due : Bool) (points : ℕ) (words : Option (List ℕ)) (set : List Bool) : Type 0 where
  pub due : is_due ≡ true
  pub bounds : List ℕ
  pub are : words ≡ Some bounds
  pub ranges : are_ranges points bounds ≡ true
  pub set_is : flags_of points bounds ≡ set

pub judged_ok : (is_due : Bool) (points : ℕ) (words : Option (List ℕ)) (set : List Bool) → set_judged is_due points words ≡ Ok set → IsJudged is_due points words set
judged_ok is_due points None set is = absurd (cc)
judged_ok is_due points (Some bounds) set is =
    let (test, same) = cond_ok (is_due && are_ranges points bounds) (flags_of points bounds) set StockOrder is in
    let (due, ranges) = and_parts is_due (are_ranges points bounds) test in
    record { due = due; bounds = bounds; are = refl; ranges = ranges; set_is = same }

set_for_ok : (ray : Ray) (judged : Result (List Bool) StockWhy) (found : RaySet) → set_for ray judged ≡ Ok found → (judged ≡ Ok found.set) × (ray ≡ found.ray)
set_for_ok ray (Ok set) found is =
    let same : record { ray = ray; set = set } ≡ found = cc in
    (ap (λ (one : RaySet). Ok one.set) same, ap (λ (one : RaySet). one.ray) same)
set_for_ok ray (Err why) found is = absurd (cc)

-- what a line says that has a set
pub record IsFound (g : GridSize) (next : ℕ) (piece : List ℕ) (found : RaySet) : Type 0 where
  pub words : List (List ℕ)
  pub named : ray_named piece ≡ Some (found.ray, words)
  pub judged : IsJudged (is_ray_due g next found.ray) (points_of g found.ray.family) (bounds_in words) found.set

pub found_is : (g : GridSize) (next : ℕ) (piece : List ℕ) (found : RaySet) → ray_set_in g next piece ≡ Ok found → IsFound g next piece found
found_is g next piece found is = by_name (ray_named piece) refl is
  where
    by_name : (o : Option (Ray × List (List ℕ))) → ray_named piece ≡ o → ray_judged g next o ≡ Ok found → IsFound g next piece found
    by_name None same here = absurd (cc)
    by_name (Some (ray, words)) same here =
        let (judged, ray_is) = set_for_ok ray (set_judged (is_ray_due g next ray) (points_of g ray.family) (bounds_in words)) found here in
        record {
          words = words;
          named = same ∙ ap (λ (r : Ray). named_with r words) ray_is;
          judged = judged_ok (is_ray_due g next found.ray) (points_of g found.ray.family) (bounds_in words) found.set
              (subst (λ (r : Ray). set_judged (is_ray_due g next r) (points_of g r.family) (bounds_in words) ≡ Ok found.set) ray_is judged);
        }
      where
        named_with : Ray → List (List ℕ) → Option (Ray × List (List ℕ))
        named_with r ws = Some (r, ws)

-- the set is one of the ray's, and the ray is one of the grid that may come
pub record IsSetOf (g : GridSize) (next : ℕ) (found : RaySet) : Type 0 where
  pub on : IsRay g found.ray
  pub later : next ≤ ray_number g found.ray
  pub size : length found.set ≡ points_of g found.ray.family

pub found_set : (g : GridSize) (next : ℕ) (piece : List ℕ) (found : RaySet) → ray_set_in g next piece ≡ Ok found → IsSetOf g next found
found_set g next piece found is =
    let judged = (found_is g next piece found is).judged in
    let (on, later) = and_parts (is_ray_on g found.ray) (nat_le next (ray_number g found.ray)) judged.due in
    record {
      on = ray_on g found.ray on;
      later = leb-true next (ray_number g found.ray) later;
      size = ap (λ (set : List Bool). length set) (sym judged.set_is) ∙ length-flags (points_of g found.ray.family) judged.bounds;
    }

-- a test that was passed
pub then_is : {A : Type 0} (t : Bool) (o : Option A) (y : A) → cond t o None ≡ Some y → (t ≡ true) × (o ≡ Some y)
then_is true o y is = (refl, is)
then_is false o y is = absurd (cc)

pub same_bytes : (xs ys : List ℕ) → bytes_eq xs ys ≡ true → xs ≡ ys
same_bytes xs ys is = (bytes_eq-Decides xs ys).0 is

pub bytes_same : (xs : List ℕ) → bytes_eq xs xs ≡ true
bytes_same xs = (bytes_eq-Decides xs xs).1 refl

-- the letter that a family has
letter_is : (word : List ℕ) (f : Family) → named_family word ≡ Some f → word ≡ family_letter f
letter_is word f is = by_x (bytes_eq word (codes "X")) refl is
  where
    by_z : (t : Bool) → bytes_eq word (codes "Z") ≡ t → cond t (Some Z) None ≡ Some f → word ≡ family_letter f
    by_z true test here = same_bytes word (codes "Z") test ∙ ap family_letter (same_Some Z f here)
    by_z false test here = absurd (cc)

    by_y : (t : Bool) → bytes_eq word (codes "Y") ≡ t → cond t (Some Y) (cond (bytes_eq word (codes "Z")) (Some Z) None) ≡ Some f → word ≡ family_letter f
    by_y true test here = same_bytes word (codes "Y") test ∙ ap family_letter (same_Some Y f here)
    by_y false test here = by_z (bytes_eq word (codes "Z")) refl here

    by_x : (t : Bool) → bytes_eq word (codes "X") ≡ t
        → cond t (Some X) (cond (bytes_eq word (codes "Y")) (Some Y) (cond (bytes_eq word (codes "Z")) (Some Z) None)) ≡ Some f → word ≡ family_letter f
    by_x true test here = same_bytes word (codes "X") test ∙ ap family_letter (same_Some X f here)
    by_x false test here = by_y (bytes_eq word (codes "Y")) refl here

-- the words of a ray line
abbrev ray_words : Ray → List (List ℕ) → List (List ℕ)
ray_words ray words = codes "ray" ∷ family_letter ray.family ∷ decimal ray.i ∷ decimal ray.j ∷ words

record AreNamed (f : Option Family) (i j : Option ℕ) (words : List (List ℕ)) (ray : Ray) (after : List (List ℕ)) : Type 0 where
  family : f ≡ Some ray.family
  first : i ≡ Some ray.i
  second : j ≡ Some ray.j
  same : words ≡ after

with_named : (f : Option Family) (i j : Option ℕ) (words : List (List ℕ)) (ray : Ray) (after : List (List ℕ)) → ray_with f i j words ≡ Some (ray, after)
    → AreNamed f i j words ray after
with_named None i j words ray after is = absurd (cc)
with_named (Some f) None j words ray after is = absurd (cc)
with_named (Some f) (Some i) None words ray after is = absurd (cc)
with_named (Some f) (Some i) (Some j) words ray after is =
    let (one, rest) = some_pair_parts (record { family = f; i = i; j = j }) ray words after is in
    record {
      family = ap (λ (r : Ray). family_in r) one;
      first = ap (λ (r : Ray). first_in r) one;
      second = ap (λ (r : Ray). second_in r) one;
      same = rest;
    }
  where
    family_in : Ray → Option Family
    family_in r = Some r.family

    first_in : Ray → Option ℕ
    first_in r = Some r.i

    second_in : Ray → Option ℕ
    second_in r = Some r.j

after_verb_is : (words : List (List ℕ)) (ray : Ray) (after : List (List ℕ)) → ray_after_verb words ≡ Some (ray, after)
    → (words ≡ family_letter ray.family ∷ decimal ray.i ∷ decimal ray.j ∷ after)
after_verb_is [] ray after is = absurd (cc)
after_verb_is (f ∷ []) ray after is = absurd (cc)
after_verb_is (f ∷ i ∷ []) ray after is = absurd (cc)
after_verb_is (f ∷ i ∷ j ∷ words) ray after is =
    let named = with_named (named_family f) (plain_number i) (plain_number j) words ray after is in
    let letter = letter_is f ray.family named.family in
    let first = (plain_is i ray.i named.first).0 in
    let second = (plain_is j ray.j named.second).0 in
    ap₂ (λ (w : List ℕ) (ws : List (List ℕ)). w ∷ ws) letter
    (ap₂ (λ (w : List ℕ) (ws : List (List ℕ)). w ∷ ws) first (ap₂ (λ (w : List ℕ) (ws : List (List ℕ)). w ∷ ws) second named.same))

line_words_are : (words : List (List ℕ)) (ray : Ray) (after : List (List ℕ)) → ray_in_line words ≡ Some (ray, after) → words ≡ ray_words ray after
line_words_are [] ray after is = absurd (cc)
line_words_are (verb ∷ words) ray after is =
    let (test, rest) = then_is (bytes_eq verb (codes "ray")) (ray_after_verb words) (ray, after) is in
    ap₂ (λ (w : List ℕ) (ws : List (List ℕ)). w ∷ ws) (same_bytes verb (codes "ray") test) (after_verb_is words ray after rest)

-- the text of a ray and counts
abbrev pub ray_text : Ray → List ℕ → List ℕ
ray_text ray bounds = codes "ray " ++ (family_letter ray.family ++ counts_spelt (ray.i ∷ ray.j ∷ bounds))

as_words : (ray : Ray) (bounds : List ℕ) → text_of_words (ray_words ray (map decimal bounds)) ≡ ray_text ray bounds
as_words ray bounds =
    ap (λ (rest : List ℕ). codes "ray " ++ (family_letter ray.family ++ rest)) (sym (counts_as_words (ray.i ∷ ray.j ∷ bounds)))

-- the piece of a ray line is its text
named_text : (piece : List ℕ) (ray : Ray) (words : List (List ℕ)) (bounds : List ℕ) → ray_named piece ≡ Some (ray, words) → bounds_in words ≡ Some bounds
    → piece ≡ line (ray_text ray bounds)
named_text piece ray words bounds named are =
    option_and_then_some (λ text. ray_in_line (spaced_words text)) (line_in piece) (ray, words) named
    (λ text here says.
    let all : spaced_words text ≡ ray_words ray words = line_words_are (spaced_words text) ray words says in
    let decimals : words ≡ map decimal bounds = (bounds_are words bounds are).0 in
    line_is piece text here
    ∙ ap (λ (front : List ℕ). line front)
    (sym (words_make text) ∙ ap text_of_words (all ∙ ap (ray_words ray) decimals) ∙ as_words ray bounds))

some_range : (ray : Ray) (points : ℕ) (bounds : List ℕ) (ranges : List (ℕ × ℕ)) → are_ranges points bounds ≡ true → range_bounds ranges ≡ bounds
    → ranges_line ray ranges ≡ line (ray_text ray bounds)
some_range ray points bounds [] are same = absurd (let none : are_ranges points [] ≡ true = subst (λ (b : List ℕ). are_ranges points b ≡ true) (sym same) are in cc)
some_range ray points bounds (range ∷ ranges) are same = ap (λ (b : List ℕ). line (ray_text ray b)) same

are_from : (points : ℕ) (bounds : List ℕ) → are_ranges points bounds ≡ true → are_ranges_from points 0 bounds ≡ true
are_from points [] are = refl
are_from points (bound ∷ bounds) are = are

-- a line that has a set is the line of its ray and of the set's ranges
pub line_of_set : (g : GridSize) (next : ℕ) (piece : List ℕ) (found : RaySet) → ray_set_in g next piece ≡ Ok found → piece ≡ ranges_line found.ray (ranges_of found.set)
line_of_set g next piece found is =
    let all = found_is g next piece found is in
    let points = points_of g found.ray.family in
    let bounds = all.judged.bounds in
    let back : range_bounds (ranges_of found.set) ≡ bounds =
    ap (λ (set : List Bool). range_bounds (ranges_of set)) (sym all.judged.set_is) ∙ bounds-flags points bounds (are_from points bounds all.judged.ranges) in
    named_text piece found.ray all.words bounds all.named all.judged.are ∙ sym (some_range found.ray points bounds (ranges_of found.set) all.judged.ranges back)

-- and the other way
few_of : (g : GridSize) (f : Family) → IsGrid g → points_of g f ≤ 400000
few_of g X is = few_places g 0 is (omega arith)
few_of g Y is = few_places g 1 is (omega arith)
few_of g Z is = few_places g 2 is (omega arith)

bounds_few : (points least : ℕ) (bounds : List ℕ) → points ≤ 400000 → are_ranges_from points least bounds ≡ true → all_few bounds
bounds_few points least [] few are = tt
bounds_few points least (lo ∷ []) few are = absurd (cc)
bounds_few points least (lo ∷ hi ∷ bounds) few are =
    let (from, most) = and_parts (nat_le least lo) (nat_lt lo hi && (nat_le hi points && are_ranges_from points (hi + 1) bounds)) are in
    let (order, more) = and_parts (nat_lt lo hi) (nat_le hi points && are_ranges_from points (hi + 1) bounds) most in
    let (end, rest) = and_parts (nat_le hi points) (are_ranges_from points (hi + 1) bounds) more in
    let up : lo < hi = ltb-true lo hi order in
    let within : hi ≤ points = leb-true hi points end in
    (omega arith, (omega arith, bounds_few points (hi + 1) bounds few rest))

text_named : (g : GridSize) (ray : Ray) (bounds : List ℕ) → IsGrid g → IsRay g ray → all_few bounds → ray_named (line (ray_text ray bounds)) ≡ Some (ray, map decimal bounds)
text_named g ray bounds is on few =
    let nodes = few_nodes g ray.family is in
    let low = on.first in let right = on.second in
    let i_few : ray.i < 10 ^ 9 = omega (arith, nodes.0, low) in
    let j_few : ray.j < 10 ^ 9 = omega (arith, nodes.1, right) in
    let numbers_few : all_few (ray.i ∷ ray.j ∷ bounds) = (i_few, (j_few, few)) in
    let plain = decimals_plain (ray.i ∷ ray.j ∷ bounds) numbers_few in
    let all : all_plain (family_letter ray.family ∷ map decimal (ray.i ∷ ray.j ∷ bounds)) ≡ true = ap₂ ◌&&◌ (letter_plain ray.family) plain in
    let words : spaced_words (ray_text ray bounds) ≡ ray_words ray (map decimal bounds) =
    ap spaced_words (sym (as_words ray bounds)) ∙ words_of-text (codes "ray") (family_letter ray.family ∷ map decimal (ray.i ∷ ray.j ∷ bounds)) refl all in
    ap (option_and_then (λ text. ray_in_line (spaced_words text))) (line_in-push (ray_text ray bounds) line_feed)
    ∙ ap ray_in_line words
    ∙ with_parts (named_family (family_letter ray.family)) (plain_number (decimal ray.i)) (plain_number (decimal ray.j)) (letter_read ray.family) (plain-decimal ray.i i_few) (plain-decimal ray.j j_few)
  where
    with_parts : (f : Option Family) (i j : Option ℕ) → f ≡ Some ray.family → i ≡ Some ray.i → j ≡ Some ray.j → ray_with f i j (map decimal bounds) ≡ Some (ray, map decimal bounds)
    with_parts f i j family first second =
        ap (λ (o : Option Family). ray_with o i j (map decimal bounds)) family
        ∙ ap (λ (o : Option ℕ). ray_with (Some ray.family) o j (map decimal bounds)) first
        ∙ ap (λ (o : Option ℕ). ray_with (Some ray.family) (Some ray.i) o (map decimal bounds)) second

-- the line of a set that has a range is read as the set
pub set_read : (g : GridSize) (next : ℕ) (ray : Ray) (set : List Bool) (range : ℕ × ℕ) (ranges : List (ℕ × ℕ)) → IsGrid g → IsRay g ray → next ≤ ray_number g ray
    → length set ≡ points_of g ray.family → ranges_of set ≡ range ∷ ranges → ray_set_in g next (ranges_line ray (range ∷ ranges)) ≡ Ok (record { ray = ray; set = set })
set_read g next ray set range ranges is on later size are =
    let points = points_of g ray.family in
    let bounds = range_bounds (range ∷ ranges) in
    let same : range_bounds (ranges_of set) ≡ bounds = ap range_bounds are in
    let order : are_ranges_from points 0 bounds ≡ true = subst (λ (b : List ℕ). are_ranges_from points 0 b ≡ true) same (ranges_ordered set points size) in
    let few = bounds_few points 0 bounds (few_of g ray.family is) order in
    let due : is_ray_due g next ray ≡ true = and_from (is_ray_on g ray) (nat_le next (ray_number g ray)) (on_ray g ray on) (le-leb next (ray_number g ray) later) in
    let back : flags_of points bounds ≡ set = ap (flags_of points) (sym same) ∙ flags-bounds set points size in
    ap (ray_judged g next) (text_named g ray bounds is on few)
    ∙ ap (λ (o : Option (List ℕ)). set_for ray (set_judged (is_ray_due g next ray) points o)) (bounds-decimal bounds few)
    ∙ ap (λ (t : Bool). set_for ray (cond t (Ok (flags_of points bounds)) (Err StockOrder))) (and_from (is_ray_due g next ray) (are_ranges points bounds) due order)
    ∙ ap (λ (s : List Bool). made s) back
  where
    made : List Bool → Result RaySet StockWhy
    made s = Ok (record { ray = ray; set = s })

-- the line of a set is one piece of the text
pub piece_of_set : (g : GridSize) (ray : Ray) (range : ℕ × ℕ) (ranges : List (ℕ × ℕ)) (rest : List ℕ) → all_few (ray.i ∷ ray.j ∷ range_bounds (range ∷ ranges))
    → pieces_of (ranges_line ray (range ∷ ranges) ++ rest) ≡ ranges_line ray (range ∷ ranges) ∷ pieces_of rest
piece_of_set g ray range ranges rest few =
    let bounds = range_bounds (range ∷ ranges) in
    pieces_of-line (ray_text ray bounds) rest
    (ap (λ (front : List ℕ). list_all (λ b. not (b == line_feed)) front) (sym (as_words ray bounds))
    ∙ text_no_end (codes "ray") (family_letter ray.family ∷ map decimal (ray.i ∷ ray.j ∷ bounds)) refl
    (ap₂ ◌&&◌ (letter_plain ray.family) (decimals_plain (ray.i ∷ ray.j ∷ bounds) few)))

pub set_few : (g : GridSize) (ray : Ray) (set : List Bool) → IsGrid g → IsRay g ray → length set ≡ points_of g ray.family → all_few (ray.i ∷ ray.j ∷ range_bounds (ranges_of set))
set_few g ray set is on size =
    let nodes = few_nodes g ray.family is in
    let low = on.first in let right = on.second in
    (omega (arith, nodes.0, low), (omega (arith, nodes.1, right), bounds_few (points_of g ray.family) 0 (range_bounds (ranges_of set)) (few_of g ray.family is) (ranges_ordered set (points_of g ray.family) size)))
