-- What is read of a text, from its lines.
use Rattle.std.proofs.Common.{◌≡◌, ℕ, ◌+◌, ◌==◌, List, [], ◌∷◌, Bool, true, false, length, cond, Option, Some, None, Result, Ok, Err, refl, sym, ap, ◌∙◌, subst}
use Rattle.std.specs.Prelude.{IfOk, MatchResult}
use Rattle.std.specs.Option.{option_map}
use Rattle.std.specs.Str.{bytes_eq}
use Rattle.std.proofs.lemmas.List.{nil_from_length}
use Rattle.vf_io.specs.Pieces.{lead, line_feed, pieces_of}
use Rattle.ray_grid.specs.Grids.{GridSize}
use Rattle.ray_grid.specs.Lattice.{IsRay, points_of}
use Rattle.ray_grid.specs.Strips.{ray_number}
use Rattle.ray_grid.specs.declared.ray.Ray.{Ray}
use Rattle.cert_lines.specs.Spelling.{end_line}
use Rattle.stock_file.specs.Ends.{EndsStock, EndsStockLine, GivesBack}
use Rattle.stock_file.specs.GridNumbers.{numbers_of}
use Rattle.stock_file.specs.GridTests.{grid_named, is_grid}
use Rattle.stock_file.specs.RayLines.{bounds_in, is_ray_due, ray_judged, ray_named, ray_set_in, set_for, set_judged}
use Rattle.stock_file.specs.Reading.{stock_after_opening, stock_fault, stock_from, stock_of, stock_on, stock_read_on, with_nothing_after}
use Rattle.stock_file.specs.Saved.{IsSaved, Saved, no_sets, with_set}
use Rattle.stock_file.specs.Spelling.{saved_of}
use Rattle.stock_file.specs.declared.fault.StockEnd.{StockEnd}
use Rattle.stock_file.specs.declared.fault.StockEnd.TheVariants.{Refused, NoMemory}
use Rattle.stock_file.specs.declared.fault.StockFault.{StockFault}
use Rattle.stock_file.specs.declared.fault.StockWhy.{StockWhy}
use Rattle.stock_file.specs.declared.fault.StockWhy.TheVariants.{StockGrid, StockSyntax}
use Rattle.stock_file.specs.declared.grid_line.GridNumbers.{GridNumbers}
use Rattle.stock_file.specs.declared.line.Stop.{Stop}
use Rattle.stock_file.specs.declared.ray_set.RaySet.{RaySet}
use Rattle.stock_file.proofs.LawLemmas.{one_spelling, reads_back}
use Rattle.stock_file.proofs.LineLemmas.{found_set}

-- bytes that are left after the last line are a fault
pub something_after : (number : ℕ) (bytes : List ℕ) (stock : Saved) → (length bytes ≡ 0 → ⊥) → with_nothing_after number (pieces_of bytes) stock ≡ stock_fault number StockSyntax
something_after number [] stock some = absurd (some refl)
something_after number (b ∷ bytes) stock some =
    elim (b == line_feed) as (λ t. with_nothing_after number (cond t ((b ∷ []) ∷ pieces_of bytes) (lead b (pieces_of bytes))) stock ≡ stock_fault number StockSyntax) [
      | true ↦ refl
      | false ↦ led (pieces_of bytes)
    ]
  where
    led : (pieces : List (List ℕ)) → with_nothing_after number (lead b pieces) stock ≡ stock_fault number StockSyntax
    led [] = refl
    led (piece ∷ pieces) = refl

-- an answer that is the stock of the bytes is valid, and the bytes are its text
abbrev pub Answers : List ℕ → Result Saved StockEnd → Type 0
Answers bytes answer = MatchResult answer (λ stock. stock_of bytes ≡ Ok stock) (EndsStock (stock_of bytes))

pub answer_valid : (bytes : List ℕ) (answer : Result Saved StockEnd) → Answers bytes answer → IfOk answer IsSaved
answer_valid bytes (Ok stock) made = (one_spelling bytes stock made).0
answer_valid bytes (Err end) made = tt

pub answer_spelt : (bytes : List ℕ) (answer : Result Saved StockEnd) → Answers bytes answer → IfOk answer (λ stock. bytes ≡ saved_of stock)
answer_spelt bytes (Ok stock) made = (one_spelling bytes stock made).1
answer_spelt bytes (Err end) made = tt

-- and on the text of a stock it is that stock
pub answer_back : (bytes : List ℕ) (answer : Result Saved StockEnd) → Answers bytes answer → GivesBack bytes answer
answer_back bytes (Ok read) made stock is same =
    let due : stock_of bytes ≡ Ok stock = ap stock_of same ∙ reads_back stock is in
    let both : ◌≡◌ {A = Result Saved StockFault} (Ok read) (Ok stock) = sym made ∙ due in cc
answer_back bytes (Err (Refused fault)) made stock is same =
    let due : stock_of bytes ≡ Ok stock = ap stock_of same ∙ reads_back stock is in
    let both : ◌≡◌ {A = Result Saved StockFault} (Err fault) (Ok stock) = sym made ∙ due in absurd (cc)
answer_back bytes (Err NoMemory) made stock is same = tt

-- the second line: a grid, or numbers that make none
pub named_numbers : (piece : List ℕ) (answer : Option GridNumbers) (numbers : GridNumbers) → grid_named piece ≡ option_map (λ g. numbers_of g) answer → answer ≡ Some numbers
    → grid_named piece ≡ Some (numbers_of numbers)
named_numbers piece answer numbers named is = named ∙ ap (λ (one : Option GridNumbers). option_map (λ g. numbers_of g) one) is

pub not_some : {A : Type 0} (t : Bool) (a : A) → cond t (Some a) None ≡ None → t ≡ false
not_some true a is = absurd (cc)
not_some false a is = refl

pub grid_refused : (pieces rest : List (List ℕ)) (piece : List ℕ) (g : GridSize) → pieces ≡ piece ∷ rest → grid_named piece ≡ Some g → is_grid g ≡ false
    → stock_after_opening pieces ≡ stock_fault 2 StockGrid
grid_refused pieces rest piece g cut named fails =
    ap stock_after_opening cut
    ∙ ap (λ (one : Option GridSize). stock_on one rest) named
    ∙ ap (λ (t : Bool). cond t (stock_from g 3 0 rest (no_sets g)) (stock_fault 2 StockGrid)) fails

pub grid_taken : (pieces rest : List (List ℕ)) (piece : List ℕ) (g : GridSize) → pieces ≡ piece ∷ rest → grid_named piece ≡ Some g → is_grid g ≡ true
    → stock_after_opening pieces ≡ stock_from g 3 0 rest (no_sets g)
grid_taken pieces rest piece g cut named holds =
    ap stock_after_opening cut
    ∙ ap (λ (one : Option GridSize). stock_on one rest) named
    ∙ ap (λ (t : Bool). cond t (stock_from g 3 0 rest (no_sets g)) (stock_fault 2 StockGrid)) holds

-- a ray line gives its ray the set that its bounds are judged to make
pub line_judged : (g : GridSize) (next : ℕ) (piece : List ℕ) (ray : Ray) (words : List (List ℕ)) → ray_named piece ≡ Some (ray, words)
    → ray_set_in g next piece ≡ set_for ray (set_judged (is_ray_due g next ray) (points_of g ray.family) (bounds_in words))
line_judged g next piece ray words named = ap (ray_judged g next) named

-- the set of a line that has one is of a ray of the grid, and of as many indices as that has points
abbrev pub AnswersLine : GridSize → ℕ → List ℕ → Result RaySet Stop → Type 0
AnswersLine g next piece answer = MatchResult answer (λ found. ray_set_in g next piece ≡ Ok found) (EndsStockLine (ray_set_in g next piece))

pub ray_is_on : (g : GridSize) (next : ℕ) (piece : List ℕ) (answer : Result RaySet Stop) → AnswersLine g next piece answer → IfOk answer (λ found. IsRay g found.ray)
ray_is_on g next piece (Ok found) made = (found_set g next piece found made).on
ray_is_on g next piece (Err stop) made = tt

pub set_is_of : (g : GridSize) (next : ℕ) (piece : List ℕ) (answer : Result RaySet Stop) → AnswersLine g next piece answer
    → IfOk answer (λ found. length found.set ≡ points_of g found.ray.family)
set_is_of g next piece (Ok found) made = (found_set g next piece found made).size
set_is_of g next piece (Err stop) made = tt

-- reading goes on after a ray line, or it ends there
one_line : (g : GridSize) (number next : ℕ) (rest piece after : List ℕ) (sets : List (List Bool)) → pieces_of rest ≡ piece ∷ pieces_of after → bytes_eq piece end_line ≡ false
    → stock_from g number next (pieces_of rest) sets ≡ stock_read_on number (ray_set_in g next piece) (λ found. stock_from g (number + 1) (ray_number g found.ray + 1) (pieces_of after) (with_set g found.ray found.set sets))
one_line g number next rest piece after sets cut other =
    ap (λ (pieces : List (List ℕ)). stock_from g number next pieces sets) cut
    ∙ ap (λ (t : Bool). cond t (with_nothing_after (number + 1) (pieces_of after) (record { grid = g; sets = sets }))
    (stock_read_on number (ray_set_in g next piece) (λ found. stock_from g (number + 1) (ray_number g found.ray + 1) (pieces_of after) (with_set g found.ray found.set sets)))) other

pub ray_read : (g : GridSize) (number next : ℕ) (rest piece after : List ℕ) (sets : List (List Bool)) (found : RaySet) → pieces_of rest ≡ piece ∷ pieces_of after
    → bytes_eq piece end_line ≡ false → ray_set_in g next piece ≡ Ok found
    → stock_from g number next (pieces_of rest) sets ≡ stock_from g (number + 1) (ray_number g found.ray + 1) (pieces_of after) (with_set g found.ray found.set sets)
ray_read g number next rest piece after sets found cut other made =
    one_line g number next rest piece after sets cut other
    ∙ ap (λ (answer : Result RaySet StockWhy). stock_read_on number answer (λ found. stock_from g (number + 1) (ray_number g found.ray + 1) (pieces_of after) (with_set g found.ray found.set sets))) made

pub ray_refused : (g : GridSize) (number next : ℕ) (rest piece after : List ℕ) (sets : List (List Bool)) (why : StockWhy) → pieces_of rest ≡ piece ∷ pieces_of after
    → bytes_eq piece end_line ≡ false → ray_set_in g next piece ≡ Err why → stock_from g number next (pieces_of rest) sets ≡ stock_fault number why
ray_refused g number next rest piece after sets why cut other made =
    one_line g number next rest piece after sets cut other
    ∙ ap (λ (answer : Result RaySet StockWhy). stock_read_on number answer (λ found. stock_from g (number + 1) (ray_number g found.ray + 1) (pieces_of after) (with_set g found.ray found.set sets))) made

-- the last line, after which nothing may follow
pub end_read : (g : GridSize) (number next : ℕ) (rest piece after : List ℕ) (stock : Saved) → stock.grid ≡ g → pieces_of rest ≡ piece ∷ pieces_of after
    → bytes_eq piece end_line ≡ true → stock_from g number next (pieces_of rest) stock.sets ≡ with_nothing_after (number + 1) (pieces_of after) stock
end_read g number next rest piece after stock same cut last =
    ap (λ (pieces : List (List ℕ)). stock_from g number next pieces stock.sets) cut
    ∙ ap (λ (t : Bool). cond t (with_nothing_after (number + 1) (pieces_of after) (record { grid = g; sets = stock.sets }))
    (stock_read_on number (ray_set_in g next piece) (λ found. stock_from g (number + 1) (ray_number g found.ray + 1) (pieces_of after) (with_set g found.ray found.set stock.sets)))) last
    ∙ ap (λ (h : GridSize). with_nothing_after (number + 1) (pieces_of after) (record { grid = h; sets = stock.sets })) (sym same)

-- the last line is missing
pub no_end : (g : GridSize) (number next : ℕ) (rest : List ℕ) (sets : List (List Bool)) → length rest ≡ 0
    → stock_from g number next (pieces_of rest) sets ≡ stock_fault number StockSyntax
no_end g number next rest sets none = ap (λ (left : List ℕ). stock_from g number next (pieces_of left) sets) (nil_from_length rest none)

-- one answer for equal due stocks
pub answers_as : (due other : Result Saved StockFault) (answer : Result Saved StockEnd) → due ≡ other
    → MatchResult answer (λ stock. due ≡ Ok stock) (EndsStock due) → MatchResult answer (λ stock. other ≡ Ok stock) (EndsStock other)
answers_as due other answer same made = subst (λ (d : Result Saved StockFault). MatchResult answer (λ stock. d ≡ Ok stock) (EndsStock d)) same made
