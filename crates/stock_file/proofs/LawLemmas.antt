-- Each saved stock has one text.
use Rattle.std.proofs.Common.{◌≡◌, ◌≢◌, ℕ, suc, zero, ◌+◌, ◌-◌, ◌<◌, ◌≤◌, Bool, true, false, List, [], ◌∷◌, ◌++◌, length, drop, get_or, Option, Some, None, Result, Ok, Err, cond, codes, arith, refl, sym, ap, ap₂, ◌∙◌, subst, append_assoc, get_or-set_same, get_or-set_other, ⊎_elim}
use Rattle.std.specs.Str.{bytes_eq}
use Rattle.std.proofs.lemmas.Bool.{cases_lt}
use Rattle.std.proofs.lemmas.List.{drop_all, drop_more, ext_get_or, get_or-map}
use Rattle.vf_io.specs.Pieces.{pieces_of}
use Rattle.vf_spans.specs.Members.{ranges_of}
use Rattle.ray_grid.specs.Grids.{GridSize}
use Rattle.ray_grid.specs.Lattice.{IsRay, points_of}
use Rattle.ray_grid.specs.Points.{rays_of}
use Rattle.ray_grid.specs.Ranges.{IsGrid}
use Rattle.ray_grid.specs.Strips.{ray_number}
use Rattle.ray_grid.specs.declared.ray.Ray.{Ray}
use Rattle.ray_shapes.specs.Sets.{AreSetsOver}
use Rattle.cert_lines.specs.Spelling.{end_line}
use Rattle.cert_lines.proofs.SpeltLemmas.{pieces_of-line}
use Rattle.stock_file.specs.GridTests.{grid_named, is_grid}
use Rattle.stock_file.specs.Law.{HasOneSpelling, ReadsBackStock}
use Rattle.stock_file.specs.RayLines.{ray_set_in}
use Rattle.stock_file.specs.Reading.{stock_after_opening, stock_fault, stock_from, stock_in, stock_on, stock_read_on, with_nothing_after}
use Rattle.stock_file.specs.Saved.{IsSaved, Saved, no_flags, no_sets, with_set}
use Rattle.stock_file.specs.Spelling.{range_bounds, grid_line, ranges_line, rays_text, saved_of, stock_line}
use Rattle.stock_file.specs.declared.fault.StockFault.{StockFault}
use Rattle.stock_file.specs.declared.fault.StockWhy.{StockWhy}
use Rattle.stock_file.specs.declared.fault.StockWhy.TheVariants.{StockSyntax, StockGrid}
use Rattle.stock_file.specs.declared.ray_set.RaySet.{RaySet}
use Rattle.stock_file.proofs.GridLemmas.{grid_from, grid_read, grid_shown, named_grid, piece_of_grid}
use Rattle.stock_file.proofs.LineLemmas.{found_set, line_of_set, piece_of_set, same_bytes, set_few, set_read}
use Rattle.stock_file.proofs.RangeLemmas.{no_flags_are, no_ranges}
use Rattle.stock_file.proofs.RayOrder.{number_low, numbered, ray_at}
use Rattle.stock_file.proofs.SetLemmas.{no_flags_of, no_sets_over, with_set_over}
use Rattle.stock_file.proofs.TextLemmas.{all_bytes, all_few, bytes-pieces}

-- rays without ranges have no text
next_text : (rays : List Ray) (sets : List (List Bool)) (n : ℕ) → length sets ≡ length rays → ranges_of (get_or sets n []) ≡ []
    → rays_text (drop n rays) (drop n sets) ≡ rays_text (drop (n + 1) rays) (drop (n + 1) sets)
next_text rays sets n size none = ⊎_elim inside past (cases_lt n (length rays))
  where
    past : length rays ≤ n → rays_text (drop n rays) (drop n sets) ≡ rays_text (drop (n + 1) rays) (drop (n + 1) sets)
    past far =
        ap₂ rays_text (drop_all n rays far) (drop_all n sets (omega arith))
        ∙ sym (ap₂ rays_text (drop_all (n + 1) rays (omega arith)) (drop_all (n + 1) sets (omega arith)))

    one : (ray : Ray) (ranges : List (ℕ × ℕ)) → ranges ≡ [] → ranges_line ray ranges ≡ []
    one ray ranges empty = ap (ranges_line ray) empty

    inside : n < length rays → rays_text (drop n rays) (drop n sets) ≡ rays_text (drop (n + 1) rays) (drop (n + 1) sets)
    inside low = first rays low (let q : n < length sets = omega (arith, size, low) in q)
      where
        first : (all : List Ray) → n < length all → n < length sets → rays_text (drop n all) (drop n sets) ≡ rays_text (drop (n + 1) all) (drop (n + 1) sets)
        first [] low there = absurd (omega arith)
        first (ray ∷ all) low there =
            ap₂ rays_text (drop_more (ray ∷ all) n ray low) (drop_more sets n [] there)
            ∙ ap (λ (front : List ℕ). front ++ rays_text (drop (n + 1) (ray ∷ all)) (drop (n + 1) sets))
            (one (get_or (ray ∷ all) n ray) (ranges_of (get_or sets n [])) none)

skipped : (rays : List Ray) (sets : List (List Bool)) (n count : ℕ) → length sets ≡ length rays
    → ((k : ℕ) → n ≤ k → k < n + count → ranges_of (get_or sets k []) ≡ []) → rays_text (drop n rays) (drop n sets) ≡ rays_text (drop (n + count) rays) (drop (n + count) sets)
skipped rays sets n zero size none = ap (λ (k : ℕ). rays_text (drop k rays) (drop k sets)) (let q : n ≡ n + 0 = omega arith in q)
skipped rays sets n (suc count) size none =
    next_text rays sets n size (none n (omega arith) (omega arith))
    ∙ skipped rays sets (n + 1) count size (λ k low high. none k (omega arith) (omega arith))
    ∙ ap (λ (k : ℕ). rays_text (drop k rays) (drop k sets)) (let q : n + 1 + count ≡ n + suc count = omega arith in q)

-- the text from a ray on, where those from a number up to it have none
text_to : (g : GridSize) (n : ℕ) (ray : Ray) (sets : List (List Bool)) → length sets ≡ length (rays_of g) → IsRay g ray → n ≤ ray_number g ray
    → ((k : ℕ) → n ≤ k → k < ray_number g ray → ranges_of (get_or sets k []) ≡ [])
    → rays_text (drop n (rays_of g)) (drop n sets)
    ≡ ranges_line ray (ranges_of (get_or sets (ray_number g ray) [])) ++ rays_text (drop (ray_number g ray + 1) (rays_of g)) (drop (ray_number g ray + 1) sets)
text_to g n ray sets size on low none =
    let m = ray_number g ray in
    let count : n + (m - n) ≡ m = omega arith in
    let few = number_low g ray on in
    skipped (rays_of g) sets n (m - n) size (λ k from to. none k from (omega arith))
    ∙ ap (λ (k : ℕ). rays_text (drop k (rays_of g)) (drop k sets)) count
    ∙ ap₂ rays_text (drop_more (rays_of g) m ray few) (drop_more sets m [] (omega (arith, size, few)))
    ∙ ap (λ (r : Ray). ranges_line r (ranges_of (get_or sets m [])) ++ rays_text (drop (m + 1) (rays_of g)) (drop (m + 1) sets))
    (ray_at g m ray ray (record { on = on; same = refl }))

text_end : (g : GridSize) (n : ℕ) (sets : List (List Bool)) → length sets ≡ length (rays_of g) → ((k : ℕ) → n ≤ k → ranges_of (get_or sets k []) ≡ [])
    → rays_text (drop n (rays_of g)) (drop n sets) ≡ []
text_end g n sets size none =
    let all = length (rays_of g) in
    skipped (rays_of g) sets n all size (λ k from to. none k from)
    ∙ ap (λ (rays : List Ray). rays_text rays (drop (n + all) sets)) (drop_all (n + all) (rays_of g) (omega arith))

-- what was read of lines
record IsReadFrom (g : GridSize) (next : ℕ) (pieces : List (List ℕ)) (sets : List (List Bool)) (stock : Saved) : Type 0 where
  grid : stock.grid ≡ g
  over : AreSetsOver g stock.sets
  kept : (k : ℕ) → k < next → get_or stock.sets k [] ≡ get_or sets k []
  text : all_bytes pieces ≡ rays_text (drop next (rays_of g)) (drop next stock.sets) ++ end_line

same_ok : (a b : Saved) → ◌≡◌ {A = Result Saved StockFault} (Ok a) (Ok b) → a ≡ b
same_ok a b is = cc

ended_is : (g : GridSize) (number next : ℕ) (pieces : List (List ℕ)) (sets : List (List Bool)) (stock : Saved) → AreSetsOver g sets
    → ((k : ℕ) → next ≤ k → ranges_of (get_or sets k []) ≡ []) → with_nothing_after number pieces (record { grid = g; sets = sets }) ≡ Ok stock → IsReadFrom g next (end_line ∷ pieces) sets stock
ended_is g number next [] sets stock over none is =
    let same : record { grid = g; sets = sets } ≡ stock = same_ok (record { grid = g; sets = sets }) stock is in
    subst (λ (s : Saved). IsReadFrom g next (end_line ∷ []) sets s) same
    (record {
      grid = refl;
      over = over;
      kept = λ k low. refl;
      text = sym (ap (λ (front : List ℕ). front ++ end_line) (text_end g next sets over.many none));
    })
ended_is g number next (piece ∷ pieces) sets stock over none is = absurd (cc)

read_parts : (number : ℕ) (found : Result RaySet StockWhy) (rest : RaySet → Result Saved StockFault) (stock : Saved) → stock_read_on number found rest ≡ Ok stock
    → (one : RaySet) × (found ≡ Ok one) × (rest one ≡ Ok stock)
read_parts number (Ok one) rest stock is = (one, refl, is)
read_parts number (Err why) rest stock is = absurd (cc)

-- sets after a put
set_here : (g : GridSize) (ray : Ray) (flags : List Bool) (sets : List (List Bool)) → AreSetsOver g sets → IsRay g ray → get_or (with_set g ray flags sets) (ray_number g ray) [] ≡ flags
set_here g ray flags sets over on = get_or-set_same sets (ray_number g ray) flags [] (let low = number_low g ray on in let all = over.many in omega arith)

set_there : (g : GridSize) (ray : Ray) (flags : List Bool) (sets : List (List Bool)) (k : ℕ) → k ≢ ray_number g ray → get_or (with_set g ray flags sets) k [] ≡ get_or sets k []
set_there g ray flags sets k other = get_or-set_other sets (ray_number g ray) k flags [] other

read_from : (g : GridSize) (number next : ℕ) (pieces : List (List ℕ)) (sets : List (List Bool)) (stock : Saved) → AreSetsOver g sets
    → ((k : ℕ) → next ≤ k → ranges_of (get_or sets k []) ≡ []) → stock_from g number next pieces sets ≡ Ok stock → IsReadFrom g next pieces sets stock
read_from g number next [] sets stock over none is = absurd (cc)
read_from g number next (piece ∷ pieces) sets stock over none is =
    by_end (λ n m made over' none' rest. read_from g n m pieces made stock over' none' rest) (bytes_eq piece end_line) refl is
  where
    by_end : ((n m : ℕ) (made : List (List Bool)) → AreSetsOver g made → ((k : ℕ) → m ≤ k → ranges_of (get_or made k []) ≡ []) → stock_from g n m pieces made ≡ Ok stock
        → IsReadFrom g m pieces made stock) → (t : Bool) → bytes_eq piece end_line ≡ t
        → cond t (with_nothing_after (number + 1) pieces (record { grid = g; sets = sets }))
        (stock_read_on number (ray_set_in g next piece) (λ found. stock_from g (number + 1) (ray_number g found.ray + 1) pieces (with_set g found.ray found.set sets))) ≡ Ok stock
        → IsReadFrom g next (piece ∷ pieces) sets stock
    by_end on true test here =
        subst (λ (p : List ℕ). IsReadFrom g next (p ∷ pieces) sets stock) (sym (same_bytes piece end_line test)) (ended_is g (number + 1) next pieces sets stock over none here)
    by_end on false test here =
        let parts = read_parts number (ray_set_in g next piece) (λ found. stock_from g (number + 1) (ray_number g found.ray + 1) pieces (with_set g found.ray found.set sets)) stock here in
        let found = parts.0 in
        let is_set = found_set g next piece found parts.1 in
        let m = ray_number g found.ray in
        let new = with_set g found.ray found.set sets in
        let over' = with_set_over g found.ray found.set sets over is_set.on is_set.size in
        let later = on (number + 1) (m + 1) new over'
        (λ k low. ap ranges_of (set_there g found.ray found.set sets k (λ same. omega (arith, same, low))) ∙ none k (let q = is_set.later in omega arith)) parts.2 in
        let before : (k : ℕ) → k < m → get_or stock.sets k [] ≡ get_or sets k [] =
        λ k low. later.kept k (omega arith) ∙ set_there g found.ray found.set sets k (λ same. omega (arith, same, low)) in
        let there : get_or stock.sets m [] ≡ found.set = later.kept m (omega arith) ∙ set_here g found.ray found.set sets over is_set.on in
        let text = text_to g next found.ray stock.sets later.over.many is_set.on is_set.later (λ k from to. ap ranges_of (before k to) ∙ none k from) in
        record {
          grid = later.grid;
          over = later.over;
          kept = λ k low. before k (let q = is_set.later in omega arith);
          text = ap₂ (λ (front rest : List ℕ). front ++ rest) (line_of_set g next piece found parts.1) later.text
              ∙ sym (append_assoc (ranges_line found.ray (ranges_of found.set)) (rays_text (drop (m + 1) (rays_of g)) (drop (m + 1) stock.sets)) end_line)
              ∙ ap (λ (flags : List Bool). (ranges_line found.ray (ranges_of flags) ++ rays_text (drop (m + 1) (rays_of g)) (drop (m + 1) stock.sets)) ++ end_line) (sym there)
              ∙ ap (λ (front : List ℕ). front ++ end_line) (sym text);
        }

-- bytes that stand for a stock are its text
grid_ok : (t : Bool) (o : Result Saved StockFault) (stock : Saved) → cond t o (stock_fault 2 StockGrid) ≡ Ok stock → (t ≡ true) × (o ≡ Ok stock)
grid_ok true o stock is = (refl, is)
grid_ok false o stock is = absurd (cc)

first_ok : (t : Bool) (o : Result Saved StockFault) (stock : Saved) → cond t o (stock_fault 1 StockSyntax) ≡ Ok stock → (t ≡ true) × (o ≡ Ok stock)
first_ok true o stock is = (refl, is)
first_ok false o stock is = absurd (cc)

after_grid : (piece : List ℕ) (g : GridSize) (pieces : List (List ℕ)) (stock : Saved) → grid_named piece ≡ Some g → stock_on (Some g) pieces ≡ Ok stock
    → IsSaved stock × (piece ++ all_bytes pieces ≡ grid_line stock.grid ++ (rays_text (rays_of stock.grid) stock.sets ++ end_line))
after_grid piece g pieces stock named is =
    let (test, rest) = grid_ok (is_grid g) (stock_from g 3 0 pieces (no_sets g)) stock is in
    let found = named_grid piece g named in
    let read = read_from g 3 0 pieces (no_sets g) stock (no_sets_over g) (λ k low. no_flags_are g k) rest in
    let valid : IsSaved (record { grid = g; sets = stock.sets }) = record { origin = found.origin; counts = found.counts; grid = grid_shown g test; sets = read.over } in
    let same : record { grid = g; sets = stock.sets } ≡ stock = ap (λ (h : GridSize). record { grid = h; sets = stock.sets }) (sym read.grid) in
    subst (λ (s : Saved). IsSaved s × (piece ++ all_bytes pieces ≡ grid_line s.grid ++ (rays_text (rays_of s.grid) s.sets ++ end_line))) same
    (valid, ap₂ (λ (front after : List ℕ). front ++ after) found.text read.text)

after_opening : (pieces : List (List ℕ)) (stock : Saved) → stock_after_opening pieces ≡ Ok stock
    → IsSaved stock × (all_bytes pieces ≡ grid_line stock.grid ++ (rays_text (rays_of stock.grid) stock.sets ++ end_line))
after_opening [] stock is = absurd (cc)
after_opening (piece ∷ pieces) stock is = by_grid (grid_named piece) refl is
  where
    by_grid : (o : Option GridSize) → grid_named piece ≡ o → stock_on o pieces ≡ Ok stock
        → IsSaved stock × (piece ++ all_bytes pieces ≡ grid_line stock.grid ++ (rays_text (rays_of stock.grid) stock.sets ++ end_line))
    by_grid None named here = absurd (cc)
    by_grid (Some g) named here = after_grid piece g pieces stock named here

in_pieces : (pieces : List (List ℕ)) (stock : Saved) → stock_in pieces ≡ Ok stock → IsSaved stock × (all_bytes pieces ≡ saved_of stock)
in_pieces [] stock is = absurd (cc)
in_pieces (piece ∷ pieces) stock is =
    let (test, rest) = first_ok (bytes_eq piece stock_line) (stock_after_opening pieces) stock is in
    let after = after_opening pieces stock rest in
    (after.0, ap₂ (λ (front behind : List ℕ). front ++ behind) (same_bytes piece stock_line test) after.1)

pub one_spelling : HasOneSpelling
one_spelling bytes stock is =
    let all = in_pieces (pieces_of bytes) stock is in (all.0, sym (bytes-pieces bytes) ∙ all.1)

-- and the text of a stock stands for it
end_read : (g : GridSize) (number next : ℕ) (sets : List (List Bool)) → stock_from g number next (pieces_of end_line) sets ≡ Ok (record { grid = g; sets = sets })
end_read g number next sets = refl

-- the text is no `end`
not_end : (ray : Ray) (range : ℕ × ℕ) (ranges : List (ℕ × ℕ)) → bytes_eq (ranges_line ray (range ∷ ranges)) end_line ≡ false
not_end ray range ranges = refl

read_back : (g : GridSize) (count n number next : ℕ) (sets all : List (List Bool)) → IsGrid g → AreSetsOver g sets → AreSetsOver g all → n + count ≡ length (rays_of g) → next ≤ n
    → ((k : ℕ) → k < n → get_or sets k [] ≡ get_or all k []) → ((k : ℕ) → n ≤ k → get_or sets k [] ≡ get_or (no_sets g) k [])
    → stock_from g number next (pieces_of (rays_text (drop n (rays_of g)) (drop n all) ++ end_line)) sets ≡ Ok (record { grid = g; sets = all })
read_back g zero n number next sets all is over over' size low before after =
    let same : sets ≡ all = ext_get_or [] sets all (over.many ∙ sym over'.many) (λ k lt. before k (let q = over.many in omega arith)) in
    ap (λ (rays : List Ray). stock_from g number next (pieces_of (rays_text rays (drop n all) ++ end_line)) sets) (drop_all n (rays_of g) (omega arith))
    ∙ ap (λ (made : List (List Bool)). given made) same
  where
    given : List (List Bool) → Result Saved StockFault
    given made = Ok (record { grid = g; sets = made })
read_back g (suc count) n number next sets all is over over' size low before after =
    let one = numbered g is n (omega arith) in
    let ray = one.0 in
    let on = one.1.on in
    let number_is : ray_number g ray ≡ n = one.1.same in
    let few : n < length (rays_of g) = omega arith in
    let here : List Bool = get_or all n [] in
    let points : length here ≡ points_of g ray.family =
    ap (λ (k : ℕ). length (get_or all k [])) (sym number_is) ∙ over'.bounds ray on in
    ap (λ (text : List ℕ). stock_from g number next (pieces_of (text ++ end_line)) sets)
    (ap₂ rays_text (drop_more (rays_of g) n ray few) (drop_more all n [] (let q = over'.many in omega arith))
    ∙ ap (λ (r : Ray). ranges_line r (ranges_of here) ++ rays_text (drop (n + 1) (rays_of g)) (drop (n + 1) all)) (ray_at g n ray ray one.1))
    ∙ by_ranges (λ i m made made_over low' before' after'. read_back g count (n + 1) i m made all is made_over over' (omega arith) low' before' after')
    ray on number_is points (ranges_of here) refl
  where
    rest : List ℕ
    rest = rays_text (drop (n + 1) (rays_of g)) (drop (n + 1) all)

    by_ranges : ((i m : ℕ) (made : List (List Bool)) → AreSetsOver g made → m ≤ n + 1 → ((k : ℕ) → k < n + 1 → get_or made k [] ≡ get_or all k [])
        → ((k : ℕ) → n + 1 ≤ k → get_or made k [] ≡ get_or (no_sets g) k []) → stock_from g i m (pieces_of (rest ++ end_line)) made ≡ Ok (record { grid = g; sets = all }))
        → (ray : Ray) → IsRay g ray → ray_number g ray ≡ n → length (get_or all n []) ≡ points_of g ray.family → (ranges : List (ℕ × ℕ)) → ranges_of (get_or all n []) ≡ ranges
        → stock_from g number next (pieces_of ((ranges_line ray ranges ++ rest) ++ end_line)) sets ≡ Ok (record { grid = g; sets = all })
    by_ranges later ray on number_is points [] are =
        later number next sets over (omega arith)
        (λ k lt. ⊎_elim (λ (under : k < n). before k under)
        (λ (past : n ≤ k). let same : k ≡ n = omega arith in
        ap (λ (i : ℕ). get_or sets i []) same ∙ after n (omega arith)
        ∙ ap (λ (i : ℕ). get_or (no_sets g) i []) (sym number_is)
        ∙ get_or-map (no_flags g) (rays_of g) (ray_number g ray) ray [] (number_low g ray on)
        ∙ ap (no_flags g) (ray_at g (ray_number g ray) ray ray (record { on = on; same = refl }))
        ∙ empty_set ray points are
        ∙ ap (λ (i : ℕ). get_or all i []) (sym same)) (cases_lt k n))
        (λ k from. after k (omega arith))
      where
        empty_set : (ray : Ray) → length (get_or all n []) ≡ points_of g ray.family → ranges_of (get_or all n []) ≡ [] → no_flags g ray ≡ get_or all n []
        empty_set ray points are = no_flags_of (points_of g ray.family) ∙ sym (no_ranges (get_or all n []) (points_of g ray.family) points are)
    by_ranges later ray on number_is points (range ∷ ranges) are =
        let set : List Bool = get_or all n [] in
        let new = with_set g ray set sets in
        let numbers = set_few g ray set is on points in
        let few = subst (λ (rs : List (ℕ × ℕ)). all_few (ray.i ∷ ray.j ∷ range_bounds rs)) are numbers in
        ap (λ (bytes : List ℕ). stock_from g number next (pieces_of bytes) sets) (append_assoc (ranges_line ray (range ∷ ranges)) rest end_line)
        ∙ ap (λ (pieces : List (List ℕ)). stock_from g number next pieces sets) (piece_of_set g ray range ranges (rest ++ end_line) few)
        ∙ ap (λ (t : Bool). cond t (with_nothing_after (number + 1) (pieces_of (rest ++ end_line)) (record { grid = g; sets = sets }))
        (stock_read_on number (ray_set_in g next (ranges_line ray (range ∷ ranges))) (λ found. stock_from g (number + 1) (ray_number g found.ray + 1) (pieces_of (rest ++ end_line)) (with_set g found.ray found.set sets))))
        (not_end ray range ranges)
        ∙ ap (λ (found : Result RaySet StockWhy). stock_read_on number found (λ found. stock_from g (number + 1) (ray_number g found.ray + 1) (pieces_of (rest ++ end_line)) (with_set g found.ray found.set sets)))
        (set_read g next ray set range ranges is on (omega (arith, number_is, low)) points are)
        ∙ later (number + 1) (ray_number g ray + 1) new (with_set_over g ray set sets over on points) (omega (arith, number_is))
        (λ k lt. ⊎_elim (λ (under : k < n). set_there g ray set sets k (λ same. omega (arith, same, number_is, under)) ∙ before k under)
        (λ (past : n ≤ k). let same : k ≡ ray_number g ray = omega (arith, number_is, past, lt) in
        ap (λ (i : ℕ). get_or new i []) same ∙ set_here g ray set sets over on ∙ ap (λ (i : ℕ). get_or all i []) (let q : n ≡ k = omega (arith, number_is, same) in q)) (cases_lt k n))
        (λ k from. set_there g ray set sets k (λ same. omega (arith, same, number_is, from)) ∙ after k (omega arith))

pub reads_back : ReadsBackStock
reads_back stock is =
    let g = stock.grid in
    let rays = rays_text (rays_of g) stock.sets ++ end_line in
    ap stock_in (pieces_of-line (codes "stock 1") (grid_line g ++ rays) refl)
    ∙ ap stock_after_opening (piece_of_grid g rays is.grid)
    ∙ ap (λ (o : Option GridSize). stock_on o (pieces_of rays)) (grid_read g is.grid is.origin is.counts)
    ∙ ap (λ (t : Bool). cond t (stock_from g 3 0 (pieces_of rays) (no_sets g)) (stock_fault 2 StockGrid)) (grid_from g is.grid)
    ∙ read_back g (length (rays_of g)) 0 3 0 (no_sets g) stock.sets is.grid (no_sets_over g) is.sets (omega arith) (omega arith) (λ k lt. absurd (omega arith)) (λ k from. refl)
