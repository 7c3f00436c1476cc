-- One record counts for at most one that is passed over, and is one of those that are left.
use Rattle.std.specs.Prelude.{◌≡◌, ℕ, ◌≤◌, ◌+◌, Bool, true, false, List, [], ◌∷◌, ◌++◌, length, ℤ, Option, Some, None, Result, Ok, Err, unwrap_or, nat_lt, if◌then◌else◌, refl}
use Rattle.std.specs.List.{list_all}
use Rattle.std.proofs.Common.{arith, ap, subst, sym, ◌∙◌}
use Rattle.space.specs.Ranges.{is_coordinate}
use Rattle.space.specs.Vectors.{are_opposite}
use Rattle.cl_lines.specs.Next.{next_of}
use Rattle.cl_lines.specs.Texts.{Numbered}
use Rattle.cl_lines.specs.declared.fault.ClFault.{ClFault}
use Rattle.cl_lines.specs.declared.fault.ClWhy.{ClWhy}
use Rattle.cl_lines.specs.declared.fault.ClWhy.TheVariants.{NumberRange, AxisFlip, TooManyMoves}
use Rattle.cl_records.specs.declared.statement.Record.{Record}
use Rattle.cl_records.specs.declared.statement.Record.TheVariants.{Goto, From, Delta, Cutter, Multax, Units, Rapid, Fini, Passed}
use Rattle.cl_moves.specs.Program.{arrived, continued, displaced, finished, folded, gone_by, gone_to, most_moves, move_to, moved, multaxed, placed, start, step}
use Rattle.cl_moves.specs.declared.fold.Fold.{Fold}

-- the state after a record that was done is the one that it gives
abbrev done : Fold → Result Fold ClWhy
done fold = Ok fold

same_passed : (made next : Fold) → done made ≡ done next → made.passed ≡ next.passed
same_passed made next e = let same : made ≡ next = cc in ap (λ (f : Fold). f.passed) same

made_passed : (opposite room : Bool) (made next : Fold)
    → (if opposite then Err AxisFlip else (if room then Ok made else Err TooManyMoves)) ≡ Ok next → made.passed ≡ next.passed
made_passed true room made next e = cc
made_passed false true made next e = same_passed made next e
made_passed false false made next e = cc

moved_passed : (line : ℕ) (from tip axis : List ℤ) (fold next : Fold) → moved line from tip axis fold ≡ Ok next → fold.passed ≡ next.passed
moved_passed line from tip axis fold next e =
    made_passed (are_opposite fold.axis axis) (nat_lt (length fold.moves) most_moves)
    (record (arrived tip axis fold) { moves = fold.moves ++ move_to line from tip axis fold ∷ [] }) next e

gone_to_passed : (line : ℕ) (tip axis : List ℤ) (position : Option (List ℤ)) (fold next : Fold)
    → gone_to line tip axis position fold ≡ Ok next → fold.passed ≡ next.passed
gone_to_passed line tip axis None fold next e = same_passed (arrived tip axis fold) next e
gone_to_passed line tip axis (Some from) fold next e = moved_passed line from tip axis fold next e

summed_passed : (inside : Bool) (line : ℕ) (by from : List ℤ) (fold next : Fold)
    → (if inside then moved line from (displaced from by) fold.axis fold else Err NumberRange) ≡ Ok next → fold.passed ≡ next.passed
summed_passed true line by from fold next e = moved_passed line from (displaced from by) fold.axis fold next e
summed_passed false line by from fold next e = cc

gone_by_passed : (line : ℕ) (by : List ℤ) (position : Option (List ℤ)) (fold next : Fold)
    → gone_by line by position fold ≡ Ok next → fold.passed ≡ next.passed
gone_by_passed line by None fold next e = cc
gone_by_passed line by (Some from) fold next e = summed_passed (list_all is_coordinate (displaced from by)) line by from fold next e

multaxed_passed : (on : Bool) (fold : Fold) → fold.passed ≡ (multaxed on fold).passed
multaxed_passed true fold = refl
multaxed_passed false fold = refl

-- one record counts for at most one that is passed over
pub passed_grows : (line : ℕ) (statement : Record) (fold next : Fold) → step line statement fold ≡ Ok next → next.passed ≤ fold.passed + 1
passed_grows line (Goto tip axis) fold next e =
    let same = gone_to_passed line tip (unwrap_or axis fold.axis) fold.position fold next e in omega arith
passed_grows line (From tip axis) fold next e = let same = same_passed (placed tip (unwrap_or axis fold.axis) fold) next e in omega arith
passed_grows line (Delta by) fold next e = let same = gone_by_passed line by fold.position fold next e in omega arith
passed_grows line (Cutter cutter) fold next e = let same = same_passed (record fold { cutter = Some cutter }) next e in omega arith
passed_grows line (Multax on) fold next e =
    let same = same_passed (multaxed on fold) next e in let kept = multaxed_passed on fold in omega arith
passed_grows line (Units unit) fold next e = let same = same_passed fold next e in omega arith
passed_grows line Rapid fold next e = let same = same_passed (record fold { rapid = true }) next e in omega arith
passed_grows line Fini fold next e = let same = same_passed fold next e in omega arith
passed_grows line Passed fold next e = let same = same_passed (record fold { passed = fold.passed + 1 }) next e in omega arith

-- whether an item comes
abbrev gives : {A : Type 0} → Result (Option (ℕ × A) × List (Numbered A)) ClFault → Bool
gives (Ok (None, items)) = false
gives (Ok (Some item, items)) = true
gives (Err fault) = false

-- the items that are left
abbrev left : {A : Type 0} → Result (Option (ℕ × A) × List (Numbered A)) ClFault → List (Numbered A)
left (Ok (item, items)) = items
left (Err fault) = []

-- at the start nothing was passed over
pub none_passed : (fold : Fold) → fold ≡ start → fold.passed ≡ 0
none_passed fold e = ap (λ (f : Fold). f.passed) e

-- a record that comes was the first of those left
pub next_shorter : {A : Type 0} (old new : List (Numbered A)) (first : ℕ × A) → next_of old ≡ Ok (Some first, new) → length old ≡ length new + 1
next_shorter [] new first e = let none : false ≡ true = ap gives e in cc
next_shorter ((number, Ok item) ∷ items) new first e = let same : items ≡ new = ap left e in omega (arith, ap length same)
next_shorter ((number, Err why) ∷ items) new first e = cc

-- a record came where an item was given
pub came : {A : Type 0} (old new : List (Numbered A)) (given : Option (ℕ × A)) (first : ℕ × A) → next_of old ≡ Ok (given, new) → given ≡ Some first
    → next_of old ≡ Ok (Some first, new)
came {A} old new given first next is = next ∙ ap (λ (item : Option (ℕ × A)). Ok (item, new)) is

-- the item that comes
abbrev item_of : {A : Type 0} → ℕ × A → Result (Option (ℕ × A) × List (Numbered A)) ClFault → ℕ × A
item_of none (Ok (Some item, items)) = item
item_of none _ = none

-- what is left after a record that was done folds as all did that was left before it
pub folded_on : (old new : List (Numbered Record)) (first : ℕ × Record) (fold next : Fold)
    → next_of old ≡ Ok (Some first, new) → step first.0 first.1 fold ≡ Ok next → folded new next ≡ folded old fold
folded_on [] new first fold next e done = let none : false ≡ true = ap gives e in cc
folded_on ((number, Ok item) ∷ items) new first fold next e done =
    let same : items ≡ new = ap left e in
    let here : (number, item) ≡ first = ap (item_of first) e in
    let went : step number item fold ≡ Ok next = subst (λ (x : ℕ × Record). step x.0 x.1 fold ≡ Ok next) (sym here) done in
    sym (ap (λ r. continued number r (folded items)) went ∙ ap (λ rest. folded rest next) same)
folded_on ((number, Err why) ∷ items) new first fold next e done = cc

-- where none comes, all that was left is folded
pub all_folded : (old new : List (Numbered Record)) (given : Option (ℕ × Record)) (fold : Fold) → next_of old ≡ Ok (given, new) → given ≡ None
    → folded old fold ≡ Ok (finished fold)
all_folded [] new given fold e none = refl
all_folded ((number, Ok item) ∷ items) new given fold e none =
    let ended : true ≡ false = ap gives (e ∙ ap (λ (item : Option (ℕ × Record)). Ok (item, new)) none) in cc
all_folded ((number, Err why) ∷ items) new given fold e none = cc
