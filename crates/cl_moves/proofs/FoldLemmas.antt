-- What one record does keeps the tool's state sound.
use Rattle.std.specs.Prelude.{◌≡◌, ℕ, ℤ, ◌≤◌, ◌+ℤ◌, ◌+◌, ◌&&◌, Bool, true, false, List, [], ◌∷◌, ◌++◌, length, unsigned_abs, Option, Some, None, Result, Ok, Err, unwrap_or, IfSome, All, nat_lt, if◌then◌else◌, refl}
use Rattle.std.specs.List.{list_all}
use Rattle.std.proofs.Common.{arith, subst, sym}
use Rattle.std.proofs.lemmas.Bool.{leb-true}
use Rattle.std.proofs.lemmas.List.Elements.{All-append, All-cons}
use Rattle.space.specs.Ranges.{IsPoint, is_coordinate, metre}
use Rattle.space.specs.Vectors.{are_opposite, at}
use Rattle.cl_lines.specs.declared.fault.ClWhy.{ClWhy}
use Rattle.cl_lines.specs.declared.fault.ClWhy.TheVariants.{NumberRange, AxisFlip, TooManyMoves}
use Rattle.cl_records.specs.Ranges.{IsRecord, IsToolAxis}
use Rattle.cl_records.specs.declared.statement.Record.{Record}
use Rattle.cl_records.specs.declared.statement.Record.TheVariants.{Goto, From, Delta, Cutter, Multax, Units, Rapid, Fini, Passed}
use Rattle.cl_moves.specs.Fold.{IsFold}
use Rattle.cl_moves.specs.Moves.{IsMove}
use Rattle.cl_moves.specs.Program.{arrived, gone_by, displaced, gone_to, most_moves, move_to, moved, multaxed, placed, step}
use Rattle.cl_moves.specs.declared.fold.Fold.{Fold}
use Rattle.cl_moves.proofs.AxisLemmas.{upright_axis}

three_true : (a b c : Bool) → (a && (b && (c && true))) ≡ true → (a ≡ true) × (b ≡ true) × (c ≡ true)
three_true true true true e = (refl, refl, refl)
three_true true true false e = cc
three_true true false c e = cc
three_true false b c e = cc

given_or_kept : (axis : Option (List ℤ)) (kept : List ℤ) → IfSome axis IsToolAxis → IsToolAxis kept → IsToolAxis (unwrap_or axis kept)
given_or_kept None kept given h = h
given_or_kept (Some axis) kept given h = given

coordinate_within : (z : ℤ) → is_coordinate z ≡ true → unsigned_abs z ≤ metre
coordinate_within z h = leb-true (unsigned_abs z) metre h

displaced_within : (from by : List ℤ) → list_all is_coordinate (displaced from by) ≡ true → IsPoint (displaced from by)
displaced_within from by h =
    let x = at from 0 +ℤ at by 0 in
    let y = at from 1 +ℤ at by 1 in
    let z = at from 2 +ℤ at by 2 in
    let all = three_true (is_coordinate x) (is_coordinate y) (is_coordinate z) h in
    (coordinate_within x all.0, coordinate_within y all.1, coordinate_within z all.2)

-- the state after a record that was done is the one that it gives
abbrev done : Fold → Result Fold ClWhy
done fold = Ok fold

given : (made next : Fold) → done made ≡ done next → IsFold made → IsFold next
given made next e h = let same : made ≡ next = cc in subst IsFold same h

-- the move of a sound state to a sound position is a valid sweep
move_sound : (line : ℕ) (from tip axis : List ℤ) (fold : Fold) → IsFold fold → IsPoint from → IsPoint tip → IsToolAxis axis
    → are_opposite fold.axis axis ≡ false → IsMove (move_to line from tip axis fold)
move_sound line from tip axis fold h f t a o = record {
  sweep = record { from = f; to = t; axis_from = h.axis.within; axis_to = a.within; first_axis = h.axis.some; last_axis = a.some; apart = o };
  cutter = h.cutter;
}

no_moves : All IsMove []
no_moves = λ k d l. absurd (omega (arith, l))

-- a move is made only where its axes aren't opposite
made_is : (opposite room : Bool) (made next : Fold)
    → (if opposite then Err AxisFlip else (if room then Ok made else Err TooManyMoves)) ≡ Ok next → (opposite ≡ false) × (made ≡ next)
made_is true room made next e = cc
made_is false true made next e = (refl, cc)
made_is false false made next e = cc

moved_sound : (line : ℕ) (from tip axis : List ℤ) (fold next : Fold) → IsFold fold → IsPoint from → IsPoint tip → IsToolAxis axis
    → moved line from tip axis fold ≡ Ok next → IsFold next
moved_sound line from tip axis fold next h f t a e =
    let move = move_to line from tip axis fold in
    let made = made_is (are_opposite fold.axis axis) (nat_lt (length fold.moves) most_moves)
    (record (arrived tip axis fold) { moves = fold.moves ++ move ∷ [] }) next e in
    subst IsFold made.1 record {
      position = t;
      axis = a;
      cutter = h.cutter;
      moves = All-append IsMove fold.moves (move ∷ []) h.moves (All-cons IsMove move [] (move_sound line from tip axis fold h f t a made.0) no_moves);
    }

gone_to_sound : (line : ℕ) (tip axis : List ℤ) (position : Option (List ℤ)) (fold next : Fold) → IsFold fold → IfSome position IsPoint
    → IsPoint tip → IsToolAxis axis → gone_to line tip axis position fold ≡ Ok next → IsFold next
gone_to_sound line tip axis None fold next h p t a e =
    given (arrived tip axis fold) next e record { position = t; axis = a; cutter = h.cutter; moves = h.moves }
gone_to_sound line tip axis (Some from) fold next h p t a e = moved_sound line from tip axis fold next h p t a e

summed_sound : (inside : Bool) (line : ℕ) (by from : List ℤ) (fold next : Fold) → IsFold fold → IsPoint from
    → inside ≡ list_all is_coordinate (displaced from by)
    → (if inside then moved line from (displaced from by) fold.axis fold else Err NumberRange) ≡ Ok next → IsFold next
summed_sound true line by from fold next h f i e = moved_sound line from (displaced from by) fold.axis fold next h f (displaced_within from by (sym i)) h.axis e
summed_sound false line by from fold next h f i e = cc

gone_by_sound : (line : ℕ) (by : List ℤ) (position : Option (List ℤ)) (fold next : Fold) → IsFold fold → IfSome position IsPoint
    → gone_by line by position fold ≡ Ok next → IsFold next
gone_by_sound line by None fold next h p e = cc
gone_by_sound line by (Some from) fold next h p e = summed_sound (list_all is_coordinate (displaced from by)) line by from fold next h p refl e

multaxed_sound : (on : Bool) (fold : Fold) → IsFold fold → IsFold (multaxed on fold)
multaxed_sound true fold h = h
multaxed_sound false fold h = record { position = h.position; axis = upright_axis; cutter = h.cutter; moves = h.moves }

-- what one record does keeps the state sound
pub step_sound : (line : ℕ) (statement : Record) (fold next : Fold) → IsFold fold → IsRecord statement → step line statement fold ≡ Ok next → IsFold next
step_sound line (Goto tip axis) fold next h r e =
    gone_to_sound line tip (unwrap_or axis fold.axis) fold.position fold next h h.position r.tip (given_or_kept axis fold.axis r.axis h.axis) e
step_sound line (From tip axis) fold next h r e =
    given (placed tip (unwrap_or axis fold.axis) fold) next e
    record { position = r.tip; axis = given_or_kept axis fold.axis r.axis h.axis; cutter = h.cutter; moves = h.moves }
step_sound line (Delta by) fold next h r e = gone_by_sound line by fold.position fold next h h.position e
step_sound line (Cutter cutter) fold next h r e =
    given (record fold { cutter = Some cutter }) next e record { position = h.position; axis = h.axis; cutter = r; moves = h.moves }
step_sound line (Multax on) fold next h r e = given (multaxed on fold) next e (multaxed_sound on fold h)
step_sound line (Units unit) fold next h r e = given fold next e h
step_sound line Rapid fold next h r e =
    given (record fold { rapid = true }) next e record { position = h.position; axis = h.axis; cutter = h.cutter; moves = h.moves }
step_sound line Fini fold next h r e = given fold next e h
step_sound line Passed fold next h r e =
    given (record fold { passed = fold.passed + 1 }) next e record { position = h.position; axis = h.axis; cutter = h.cutter; moves = h.moves }
