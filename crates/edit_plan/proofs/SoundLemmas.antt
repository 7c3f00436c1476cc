-- What one line adds keeps a script sound.
use Rattle.std.proofs.Common.{◌≡◌, ℕ, zero, suc, ◌+◌, ◌-◌, ◌<◌, ◌≤◌, ◌&&◌, ◌==◌, nat_le, nat_lt, List, [], ◌∷◌, ◌++◌, Bool, true, false, length, get_or, replicate, length-append, Option, Some, None, Result, Ok, Err, arith, refl, subst, All, if◌then◌else◌}
use Rattle.std.proofs.lemmas.Bool.{ltb-true, ltb-false, leb-true}
use Rattle.std.proofs.lemmas.List.{get_or_append_left}
use Rattle.std.proofs.Math.Seq.{get_or-append_seam}
use Rattle.std.proofs.lemmas.List.Elements.{All-append, All-cons}
use Rattle.std.specs.List.Sorted.{IsNonDecreasingBy}
use Rattle.ray_grid.specs.Lattice.{is_point_on}
use Rattle.ray_grid.proofs.Tested.{has-is_point_on}
use Rattle.ray_grid.specs.Grids.{GridSize}
use Rattle.ray_grid.specs.declared.ray.Ray.{Ray}
use Rattle.edit_plan.specs.Edits.{AppliesBelow, all_find, applied_moves, dropped_of, left_of, lists_after, no_lists}
use Rattle.edit_plan.specs.Limits.{most_edits, most_queries}
use Rattle.edit_plan.specs.Queries.{AsksOn, IsQuery}
use Rattle.edit_plan.specs.Script.{are_too_many, no_script, read_on, script_from, whole_of_moves, with_edits, with_line, with_query, with_statement}
use Rattle.edit_plan.specs.Sound.{IsScript}
use Rattle.edit_plan.specs.Statements.{statement_of}
use Rattle.edit_plan.specs.Words.{WordedLine}
use Rattle.edit_plan.specs.declared.edit.Edit.{Edit}
use Rattle.edit_plan.specs.declared.edit.Edit.TheVariants.{Apply, Undo, Redo}
use Rattle.edit_plan.specs.declared.fault.ScriptFault.{ScriptFault}
use Rattle.edit_plan.specs.declared.fault.ScriptWhy.{ScriptWhy}
use Rattle.edit_plan.specs.declared.fault.ScriptWhy.TheVariants.{ScriptRange, RedoDepth, TooManyEdits, TooManyQueries, UndoDepth}
use Rattle.edit_plan.specs.declared.query.Ask.{Ask}
use Rattle.edit_plan.specs.declared.query.Ask.TheVariants.{Probe, Count}
use Rattle.edit_plan.specs.declared.query.Query.{Query}
use Rattle.edit_plan.specs.declared.script.Script.{Script}
use Rattle.edit_plan.specs.declared.statement.Edition.{Edition}
use Rattle.edit_plan.specs.declared.statement.Statement.{Statement}
use Rattle.edit_plan.specs.declared.statement.Statement.TheVariants.{Run, UndoTimes, RedoTimes, ProbePoint, CountPoints}
use Rattle.edit_plan.proofs.ListLemmas.{all_find-applied, are_sound-append, both_true, length-applied, redone, undone}

applied_below : (moves first count : ℕ) → first + count ≤ moves → All (AppliesBelow moves) (applied_moves first count)
applied_below moves first zero below = λ k d within. absurd (omega (arith, within))
applied_below moves first (suc count) below =
    All-cons (AppliesBelow moves) (Apply first) (applied_moves (first + 1) count) (omega (arith, below)) (applied_below moves (first + 1) count (omega (arith, below)))

undos_below : (moves times : ℕ) → All (AppliesBelow moves) (replicate times Undo)
undos_below moves zero = λ k d within. absurd (omega (arith, within))
undos_below moves (suc times) = All-cons (AppliesBelow moves) Undo (replicate times Undo) tt (undos_below moves times)

redos_below : (moves times : ℕ) → All (AppliesBelow moves) (replicate times Redo)
redos_below moves zero = λ k d within. absurd (omega (arith, within))
redos_below moves (suc times) = All-cons (AppliesBelow moves) Redo (replicate times Redo) tt (redos_below moves times)

-- the edits that come after leave a query in range
query_later : (grid : GridSize) (fewer more : ℕ) (query : Query) → fewer ≤ more → IsQuery grid fewer query → IsQuery grid more query
query_later grid fewer more query grown is = record { version = omega (arith, is.version, grown); point = is.point }

-- edits that find what they take, after those of a script
edits_added : (moves : ℕ) (grid : GridSize) (script : Script) (more : List Edit) → IsScript moves grid script → all_find (lists_after script.edits) more ≡ true
    → All (AppliesBelow moves) more → length script.edits + length more ≤ most_edits → IsScript moves grid (record { edits = script.edits ++ more; queries = script.queries })
edits_added moves grid script more is find below room = record {
  sound = are_sound-append script.edits more is.sound find;
  named = All-append (AppliesBelow moves) script.edits more is.named below;
  few_edits = omega (arith, length-append script.edits more, room);
  queries = λ k d within. query_later grid (length script.edits) (length (script.edits ++ more)) (get_or script.queries k d) (omega (arith, length-append script.edits more)) (is.queries k d within);
  few_queries = is.few_queries;
  ordered = is.ordered;
}

-- the script after a line that was read
abbrev done : Script → Result Script ScriptWhy
done script = Ok script

-- the script after a line is what comes next
came : (moves : ℕ) (grid : GridSize) (made next : Script) → done made ≡ done next → IsScript moves grid made → IsScript moves grid next
came moves grid made next e is = let same : made ≡ next = cc in subst (IsScript moves grid) same is

with_edits-by : (moves : ℕ) (grid : GridSize) (script next : Script) (more : List Edit) (full : Bool) → are_too_many (length more) script ≡ full → IsScript moves grid script
    → all_find (lists_after script.edits) more ≡ true → All (AppliesBelow moves) more
    → (if full then Err TooManyEdits else Ok (record { edits = script.edits ++ more; queries = script.queries })) ≡ done next → IsScript moves grid next
with_edits-by moves grid script next more true full is find below e = absurd (cc)
with_edits-by moves grid script next more false room is find below e =
    came moves grid (record { edits = script.edits ++ more; queries = script.queries }) next e
    (edits_added moves grid script more is find below (ltb-false most_edits (length script.edits + length more) room))

with_edits-sound : (moves : ℕ) (grid : GridSize) (script next : Script) (more : List Edit) → IsScript moves grid script
    → all_find (lists_after script.edits) more ≡ true → All (AppliesBelow moves) more → with_edits more script ≡ done next → IsScript moves grid next
with_edits-sound moves grid script next more is find below e = with_edits-by moves grid script next more (are_too_many (length more) script) refl is find below e

abbrev version_of : Query → ℕ
version_of query = query.version

-- where a place among queries and one more lies
version_at : (queries : List Query) (last d : Query) (i : ℕ) (early : Bool) → nat_lt i (length queries) ≡ early → i < length (queries ++ last ∷ [])
    → ((k : ℕ) (q : Query) → k < length queries → version_of (get_or queries k q) ≤ version_of last)
    → version_of (get_or (queries ++ last ∷ []) i d) ≤ version_of last
version_at queries last d i true early within most =
    let below = ltb-true i (length queries) early in rw (get_or_append_left queries (last ∷ []) d i below) (most i d below)
version_at queries last d i false late within most =
    let same : i ≡ length queries = omega (arith, ltb-false i (length queries) late, length-append queries (last ∷ [])) in
    rw (same, get_or-append_seam queries last [] d) (omega arith)

pushed_at : (queries : List Query) (last d : Query) (i j : ℕ) (early : Bool) → nat_lt j (length queries) ≡ early → i ≤ j → j < length (queries ++ last ∷ [])
    → IsNonDecreasingBy version_of queries → ((k : ℕ) (q : Query) → k < length queries → version_of (get_or queries k q) ≤ version_of last)
    → version_of (get_or (queries ++ last ∷ []) i d) ≤ version_of (get_or (queries ++ last ∷ []) j d)
pushed_at queries last d i j true early order within rises most =
    let below = ltb-true j (length queries) early in
    rw (get_or_append_left queries (last ∷ []) d j below, get_or_append_left queries (last ∷ []) d i (omega arith)) (rises i j d order below)
pushed_at queries last d i j false late order within rises most =
    let same : j ≡ length queries = omega (arith, ltb-false j (length queries) late, length-append queries (last ∷ [])) in
    let seam : get_or (queries ++ last ∷ []) j d ≡ last = rw same (get_or-append_seam queries last [] d) in
    rw seam (version_at queries last d i (nat_lt i (length queries)) refl (omega arith) most)

-- one more query at the last version
query_added : (moves : ℕ) (grid : GridSize) (script : Script) (ask : Ask) → IsScript moves grid script → AsksOn grid ask → length script.queries < most_queries
    → IsScript moves grid (record { edits = script.edits; queries = script.queries ++ record { version = length script.edits; ask = ask } ∷ [] })
query_added moves grid script ask is on room =
    let last : Query = record { version = length script.edits; ask = ask } in
    record {
      sound = is.sound;
      named = is.named;
      few_edits = is.few_edits;
      queries = All-append (IsQuery grid (length script.edits)) script.queries (last ∷ []) is.queries
          (All-cons (IsQuery grid (length script.edits)) last [] (record { version = omega arith; point = on }) (λ k d within. absurd (omega (arith, within))));
      few_queries = omega (arith, length-append script.queries (last ∷ []), room);
      ordered = λ i j d order within. pushed_at script.queries last d i j (nat_lt j (length script.queries)) refl order within is.ordered (λ k q below. (is.queries k q below).version);
    }

with_query-by : (moves : ℕ) (grid : GridSize) (script next : Script) (ask : Ask) (room : Bool) → nat_lt (length script.queries) most_queries ≡ room → IsScript moves grid script → AsksOn grid ask
    → (if room then Ok (record { edits = script.edits; queries = script.queries ++ record { version = length script.edits; ask = ask } ∷ [] }) else Err TooManyQueries) ≡ done next → IsScript moves grid next
with_query-by moves grid script next ask true room is on e =
    came moves grid (record { edits = script.edits; queries = script.queries ++ record { version = length script.edits; ask = ask } ∷ [] }) next e
    (query_added moves grid script ask is on (ltb-true (length script.queries) most_queries room))
with_query-by moves grid script next ask false full is on e = absurd (cc)

with_query-sound : (moves : ℕ) (grid : GridSize) (script next : Script) (ask : Ask) → IsScript moves grid script → AsksOn grid ask → with_query ask script ≡ done next → IsScript moves grid next
with_query-sound moves grid script next ask is on e = with_query-by moves grid script next ask (nat_lt (length script.queries) most_queries) refl is on e

with_run-by : (moves first last : ℕ) (grid : GridSize) (script next : Script) (there : Bool) → (nat_le 1 first && (nat_le first last && nat_le last moves)) ≡ there → IsScript moves grid script
    → (if there then with_edits (applied_moves (first - 1) (last + 1 - first)) script else Err ScriptRange) ≡ done next → IsScript moves grid next
with_run-by moves first last grid script next true there is e =
    let some = both_true (nat_le 1 first) (nat_le first last && nat_le last moves) there in
    let order = both_true (nat_le first last) (nat_le last moves) some.1 in
    let low = leb-true 1 first some.0 in
    let high = leb-true last moves order.1 in
    with_edits-sound moves grid script next (applied_moves (first - 1) (last + 1 - first)) is
    (all_find-applied (lists_after script.edits) (first - 1) (last + 1 - first))
    (applied_below moves (first - 1) (last + 1 - first) (omega (arith, leb-true first last order.0))) e
with_run-by moves first last grid script next false out is e = absurd (cc)

with_undos-by : (moves times : ℕ) (grid : GridSize) (script next : Script) (none deep : Bool) → nat_lt (length (left_of script.edits)) times ≡ deep → IsScript moves grid script
    → (if none then Err ScriptRange else (if deep then Err (UndoDepth times (length (left_of script.edits))) else with_edits (replicate times Undo) script)) ≡ done next → IsScript moves grid next
with_undos-by moves times grid script next true deep test is e = absurd (cc)
with_undos-by moves times grid script next false true test is e = absurd (cc)
with_undos-by moves times grid script next false false test is e =
    let found = undone (lists_after script.edits) times (ltb-false (length (left_of script.edits)) times test) in
    with_edits-sound moves grid script next (replicate times Undo) is found.found_all (undos_below moves times) e

with_redos-by : (moves times : ℕ) (grid : GridSize) (script next : Script) (none full deep : Bool) → nat_lt (length (dropped_of script.edits)) times ≡ deep → IsScript moves grid script
    → (if none then Err ScriptRange else (if full then Err TooManyEdits else (if deep then Err (RedoDepth times (length (dropped_of script.edits))) else with_edits (replicate times Redo) script))) ≡ done next
    → IsScript moves grid next
with_redos-by moves times grid script next true full deep test is e = absurd (cc)
with_redos-by moves times grid script next false true deep test is e = absurd (cc)
with_redos-by moves times grid script next false false true test is e = absurd (cc)
with_redos-by moves times grid script next false false false test is e =
    let found = redone (lists_after script.edits) times (ltb-false (length (dropped_of script.edits)) times test) in
    with_edits-sound moves grid script next (replicate times Redo) is found.found_all (redos_below moves times) e

probe-by : (moves l : ℕ) (grid : GridSize) (ray : Ray) (script next : Script) (on : Bool) → is_point_on grid ray l ≡ on → IsScript moves grid script
    → (if on then with_query (Probe ray l) script else Err ScriptRange) ≡ done next → IsScript moves grid next
probe-by moves l grid ray script next true on is e = with_query-sound moves grid script next (Probe ray l) is (has-is_point_on grid ray l on) e
probe-by moves l grid ray script next false off is e = absurd (cc)

with_statement-sound : (moves : ℕ) (grid : GridSize) (statement : Statement) (script next : Script) → IsScript moves grid script → with_statement moves grid statement script ≡ done next → IsScript moves grid next
with_statement-sound moves grid (Run first last) script next is e = with_run-by moves first last grid script next (nat_le 1 first && (nat_le first last && nat_le last moves)) refl is e
with_statement-sound moves grid (UndoTimes times) script next is e =
    with_undos-by moves times grid script next (times == 0) (nat_lt (length (left_of script.edits)) times) refl is e
with_statement-sound moves grid (RedoTimes times) script next is e =
    with_redos-by moves times grid script next (times == 0) (are_too_many times script) (nat_lt (length (dropped_of script.edits)) times) refl is e
with_statement-sound moves grid (ProbePoint ray l) script next is e = probe-by moves l grid ray script next (is_point_on grid ray l) refl is e
with_statement-sound moves grid CountPoints script next is e = with_query-sound moves grid script next Count is tt e

with_line-sound : (moves : ℕ) (grid : GridSize) (statement : Option Statement) (script next : Script) → IsScript moves grid script → with_line moves grid statement script ≡ done next → IsScript moves grid next
with_line-sound moves grid None script next is e = absurd (cc)
with_line-sound moves grid (Some statement) script next is e = with_statement-sound moves grid statement script next is e

read_on-sound : (moves number : ℕ) (grid : GridSize) (made : Result Script ScriptWhy) (rest : Script → Result Script ScriptFault) (next : Script)
    → ((script : Script) → made ≡ done script → IsScript moves grid script) → ((script : Script) → IsScript moves grid script → rest script ≡ Ok next → IsScript moves grid next)
    → read_on number made rest ≡ Ok next → IsScript moves grid next
read_on-sound moves number grid (Ok script) rest next first later e = later script (first script refl) e
read_on-sound moves number grid (Err why) rest next first later e = absurd (cc)

-- lines keep a script sound
pub script_from-sound : (moves : ℕ) (grid : GridSize) (edition : Edition) (lines : List WordedLine) (script next : Script) → IsScript moves grid script
    → script_from moves grid edition lines script ≡ Ok next → IsScript moves grid next
script_from-sound moves grid edition [] script next is e = let same : script ≡ next = cc in subst (IsScript moves grid) same is
script_from-sound moves grid edition (line ∷ lines) script next is e =
    read_on-sound moves line.number grid (with_line moves grid (statement_of edition line.words) script) (script_from moves grid edition lines) next
    (λ made m. with_line-sound moves grid (statement_of edition line.words) script made is m)
    (λ made sound later. script_from-sound moves grid edition lines made next sound later) e

-- at the start there is nothing to find, to name or to ask for
pub no_script-sound : (moves : ℕ) (grid : GridSize) → IsScript moves grid no_script
no_script-sound moves grid = record {
  sound = refl;
  named = λ k d within. absurd (omega (arith, within));
  few_edits = omega arith;
  queries = λ k d within. absurd (omega (arith, within));
  few_queries = omega arith;
  ordered = λ i j d order within. absurd (omega (arith, within));
}

-- each move once in order is a script
pub whole-sound : (moves : ℕ) (grid : GridSize) → moves ≤ most_edits → IsScript moves grid (whole_of_moves moves)
whole-sound moves grid few =
    edits_added moves grid no_script (applied_moves 0 moves) (no_script-sound moves grid) (all_find-applied no_lists 0 moves) (applied_below moves 0 moves (omega arith)) (omega (arith, length-applied 0 moves, few))
