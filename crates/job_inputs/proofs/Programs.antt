-- A program has no more moves than one may have.
use Rattle.std.proofs.Common.{◌≡◌, ℕ, ◌+◌, ◌≤◌, Bool, true, false, List, [], ◌∷◌, ◌++◌, length, ℤ, Option, Some, None, Result, Ok, Err, unwrap_or, nat_lt, if◌then◌else◌, refl, arith, subst, sym}
use Rattle.std.specs.List.{list_all}
use Rattle.std.proofs.lemmas.Bool.{ltb-true}
use Rattle.std.proofs.lemmas.List.{length-append}
use Rattle.space.specs.Ranges.{is_coordinate}
use Rattle.space.specs.Vectors.{are_opposite}
use Rattle.cl_lines.specs.Texts.{Numbered, texts_of}
use Rattle.cl_lines.specs.declared.fault.ClWhy.TheVariants.{NumberRange, AxisFlip, TooManyMoves}
use Rattle.cl_lines.specs.declared.number.Unit.TheVariants.{Mm}
use Rattle.cl_records.specs.Records.{records_of}
use Rattle.cl_records.specs.declared.statement.Record.{Record}
use Rattle.cl_records.specs.declared.statement.Record.TheVariants.{Goto, From, Delta, Cutter, Multax, Units, Rapid, Fini, Passed}
use Rattle.cl_moves.specs.Program.{arrived, continued, displaced, finished, folded, gone_by, gone_to, most_moves, move_to, moved, multaxed, placed, program_of, start, step}
use Rattle.cl_moves.specs.declared.moves.Move.{Move}
use Rattle.cl_moves.specs.declared.program.Program.{Program}

-- no more than the most moves
abbrev IsFew : List Move → Type 0
IsFew moves = length moves ≤ most_moves

-- what was made is what is given
same_few : {F E : Type 0} (moves : F → List Move) (made next : F) → ◌≡◌ {A = Result F E} (Ok made) (Ok next) → IsFew (moves made) → IsFew (moves next)
same_few moves made next e few = let same : made ≡ next = cc in subst (λ f. IsFew (moves f)) same few

-- one more is few where there is room
room_for_one : (moves : List Move) (move : Move) → nat_lt (length moves) most_moves ≡ true → IsFew (moves ++ move ∷ [])
room_for_one moves move room = omega (arith, ltb-true (length moves) most_moves room, length-append moves (move ∷ []))

made_few : {F : Type 0} (moves : F → List Move) (opposite room : Bool) (made next : F)
    → (if opposite then Err AxisFlip else (if room then Ok made else Err TooManyMoves)) ≡ Ok next → (room ≡ true → IsFew (moves made)) → IsFew (moves next)
made_few moves true room made next e few = cc
made_few moves false true made next e few = same_few moves made next e (few refl)
made_few moves false false made next e few = cc

moved_few : (line : ℕ) (from tip axis : List ℤ) (fold next : _) → moved line from tip axis fold ≡ Ok next → IsFew next.moves
moved_few line from tip axis fold next e =
    made_few (λ f. f.moves) (are_opposite fold.axis axis) (nat_lt (length fold.moves) most_moves)
    (record (arrived tip axis fold) { moves = fold.moves ++ move_to line from tip axis fold ∷ [] }) next e
    (room_for_one fold.moves (move_to line from tip axis fold))

gone_to_few : (line : ℕ) (tip axis : List ℤ) (position : Option (List ℤ)) (fold next : _) → gone_to line tip axis position fold ≡ Ok next
    → IsFew fold.moves → IsFew next.moves
gone_to_few line tip axis None fold next e few = same_few (λ f. f.moves) (arrived tip axis fold) next e few
gone_to_few line tip axis (Some from) fold next e few = moved_few line from tip axis fold next e

summed_few : (inside : Bool) (line : ℕ) (by from : List ℤ) (fold next : _)
    → (if inside then moved line from (displaced from by) fold.axis fold else Err NumberRange) ≡ Ok next → IsFew next.moves
summed_few true line by from fold next e = moved_few line from (displaced from by) fold.axis fold next e
summed_few false line by from fold next e = cc

gone_by_few : (line : ℕ) (by : List ℤ) (position : Option (List ℤ)) (fold next : _) → gone_by line by position fold ≡ Ok next → IsFew next.moves
gone_by_few line by None fold next e = cc
gone_by_few line by (Some from) fold next e = summed_few (list_all is_coordinate (displaced from by)) line by from fold next e

multaxed_moves : (on : Bool) (fold : _) → (multaxed on fold).moves ≡ fold.moves
multaxed_moves true fold = refl
multaxed_moves false fold = refl

-- one record leaves them few
step_few : (line : ℕ) (statement : Record) (fold next : _) → step line statement fold ≡ Ok next → IsFew fold.moves → IsFew next.moves
step_few line (Goto tip axis) fold next e few = gone_to_few line tip (unwrap_or axis fold.axis) fold.position fold next e few
step_few line (From tip axis) fold next e few = same_few (λ f. f.moves) (placed tip (unwrap_or axis fold.axis) fold) next e few
step_few line (Delta by) fold next e few = gone_by_few line by fold.position fold next e
step_few line (Cutter cutter) fold next e few = same_few (λ f. f.moves) (record fold { cutter = Some cutter }) next e few
step_few line (Multax on) fold next e few =
    same_few (λ f. f.moves) (multaxed on fold) next e (subst IsFew (sym (multaxed_moves on fold)) few)
step_few line (Units unit) fold next e few = same_few (λ f. f.moves) fold next e few
step_few line Rapid fold next e few = same_few (λ f. f.moves) (record fold { rapid = true }) next e few
step_few line Fini fold next e few = same_few (λ f. f.moves) fold next e few
step_few line Passed fold next e few = same_few (λ f. f.moves) (record fold { passed = fold.passed + 1 }) next e few

continued_few : (line : ℕ) (stepped : _) (rest : _) (program : Program) → continued line stepped rest ≡ Ok program
    → ((next : _) → stepped ≡ Ok next → rest next ≡ Ok program → IsFew program.moves) → IsFew program.moves
continued_few line (Ok next) rest program e few = few next refl e
continued_few line (Err why) rest program e few = cc

folded_few : (records : List (Numbered Record)) (fold : _) (program : Program) → folded records fold ≡ Ok program → IsFew fold.moves → IsFew program.moves
folded_few [] fold program e few = same_few (λ p. p.moves) (finished fold) program e few
folded_few ((line, Err why) ∷ records) fold program e few = cc
folded_few ((line, Ok statement) ∷ records) fold program e few =
    continued_few line (step line statement fold) (folded records) program e
    (λ next made rest. folded_few records next program rest (step_few line statement fold next made few))

-- a program that bytes stand for has no more than the most moves
pub program_few : (bytes : List ℕ) (program : Program) → program_of bytes ≡ Ok program → length program.moves ≤ most_moves
program_few bytes program e = folded_few (records_of Mm (texts_of bytes)) start program e (omega arith)
