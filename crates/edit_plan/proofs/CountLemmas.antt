-- The counts of moves, as a line adds its edits.
use Rattle.std.proofs.Common.{◌≡◌, ℕ, ◌+◌, ◌-◌, ◌<◌, ◌≤◌, List, [], ◌++◌, true, false, length, replicate, length-append, Result, Ok, Err, arith, refl, ap, ◌∙◌}
use Rattle.std.proofs.lemmas.Bool.{le-leb, ltb-false}
use Rattle.std.proofs.lemmas.List.{length-replicate}
use Rattle.std.proofs.lemmas.List.FromFn.{length-range_with_len}
use Rattle.std.specs.List.{range_with_len}
use Rattle.edit_plan.specs.Counted.{IsCounted}
use Rattle.edit_plan.specs.Edits.{MoveLists, applied_moves, dropped_of, left_of, lists_after}
use Rattle.edit_plan.specs.Limits.{most_edits}
use Rattle.edit_plan.specs.Script.{are_too_many, with_edits, with_run}
use Rattle.edit_plan.specs.declared.edit.Edit.{Edit}
use Rattle.edit_plan.specs.declared.edit.Edit.TheVariants.{Undo, Redo}
use Rattle.edit_plan.specs.declared.fault.ScriptWhy.{ScriptWhy}
use Rattle.edit_plan.specs.declared.fault.ScriptWhy.TheVariants.{TooManyEdits}
use Rattle.edit_plan.specs.declared.query.Query.{Query}
use Rattle.edit_plan.specs.declared.script.Script.{Script}
use Rattle.edit_plan.proofs.ListLemmas.{dropped-applied, left-applied, length-applied, lists_after-append, lists_few, redone, undone}

-- the counts are no more than the edits
pub counted_few : (left dropped : ℕ) (edits : List Edit) → IsCounted left dropped edits → left + dropped ≤ most_edits
counted_few left dropped edits counted = omega (arith, lists_few edits, counted.left_count, counted.dropped_count, counted.few)

pub counted_applied : (left dropped first count : ℕ) (edits : List Edit) → 0 < count → length edits + count ≤ most_edits → IsCounted left dropped edits
    → IsCounted (left + count) 0 (edits ++ applied_moves first count)
counted_applied left dropped first count edits some room counted =
    let after = lists_after-append edits (applied_moves first count) in
    let gone = dropped-applied (lists_after edits) first count some in
    let kept = left-applied (lists_after edits) first count in
    let lefts : left_of (edits ++ applied_moves first count) ≡ left_of edits ++ range_with_len first count = ap (λ (lists : MoveLists). lists.left) after ∙ kept in
    let drops : dropped_of (edits ++ applied_moves first count) ≡ [] = ap (λ (lists : MoveLists). lists.dropped) after ∙ gone in
    record {
      left_count = rw lefts (omega (arith, length-append (left_of edits) (range_with_len first count), length-range_with_len first count, counted.left_count));
      dropped_count = rw drops refl;
      few = omega (arith, length-append edits (applied_moves first count), length-applied first count);
    }

pub counted_undone : (left dropped times : ℕ) (edits : List Edit) → times ≤ left → length edits + times ≤ most_edits → IsCounted left dropped edits
    → IsCounted (left - times) (dropped + times) (edits ++ replicate times Undo)
counted_undone left dropped times edits few room counted =
    let after = lists_after-append edits (replicate times Undo) in
    let done = undone (lists_after edits) times (omega (arith, counted.left_count)) in
    let lefts = ap (λ (lists : MoveLists). length lists.left) after in
    let drops = ap (λ (lists : MoveLists). length lists.dropped) after in
    record {
      left_count = omega (arith, lefts, done.left_count, counted.left_count);
      dropped_count = omega (arith, drops, done.dropped_count, counted.dropped_count);
      few = omega (arith, length-append edits (replicate times Undo), length-replicate times Undo);
    }

pub counted_redone : (left dropped times : ℕ) (edits : List Edit) → times ≤ dropped → length edits + times ≤ most_edits → IsCounted left dropped edits
    → IsCounted (left + times) (dropped - times) (edits ++ replicate times Redo)
counted_redone left dropped times edits few room counted =
    let after = lists_after-append edits (replicate times Redo) in
    let done = redone (lists_after edits) times (omega (arith, counted.dropped_count)) in
    let lefts = ap (λ (lists : MoveLists). length lists.left) after in
    let drops = ap (λ (lists : MoveLists). length lists.dropped) after in
    record {
      left_count = omega (arith, lefts, done.left_count, counted.left_count);
      dropped_count = omega (arith, drops, done.dropped_count, counted.dropped_count);
      few = omega (arith, length-append edits (replicate times Redo), length-replicate times Redo);
    }

-- the script after a line that was read
abbrev done : Script → Result Script ScriptWhy
done script = Ok script

-- there is room where `count` more are not too many
pub has_room : (count : ℕ) (edits : List Edit) (script : Script) → script.edits ≡ edits → are_too_many count script ≡ false → length edits + count ≤ most_edits
has_room count edits script same room = omega (arith, ltb-false most_edits (length script.edits + count) room, ap length same)

-- more edits after those that a script has, where they are not too many
pub record Grows (edits pushed more : List Edit) (times : ℕ) (script : Script) : Type 0 where
  pub same : script.edits ≡ edits
  pub room : are_too_many times script ≡ false
  pub made : pushed ≡ edits ++ more

pub undone_counts : (left dropped times : ℕ) (edits pushed : List Edit) (script : Script) → Grows edits pushed (replicate times Undo) times script
    → times ≤ left → IsCounted left dropped edits → IsCounted (left - times) (dropped + times) pushed
undone_counts left dropped times edits pushed script grows few counted =
    rw grows.made (counted_undone left dropped times edits few (has_room times edits script grows.same grows.room) counted)

pub redone_counts : (left dropped times : ℕ) (edits pushed : List Edit) (script : Script) → Grows edits pushed (replicate times Redo) times script
    → times ≤ dropped → IsCounted left dropped edits → IsCounted (left + times) (dropped - times) pushed
redone_counts left dropped times edits pushed script grows few counted =
    rw grows.made (counted_redone left dropped times edits few (has_room times edits script grows.same grows.room) counted)

-- a run of moves that are there is judged by the room for them
run_of_moves : (moves first last : ℕ) (script : Script) → 1 ≤ first → first ≤ last → last ≤ moves
    → with_run moves first last script ≡ with_edits (applied_moves (first - 1) (last + 1 - first)) script
run_of_moves moves first last script some order most = rw (le-leb 1 first some, le-leb first last order, le-leb last moves most) refl

pub with_run-full : (moves first last count : ℕ) (script : Script) → 1 ≤ first → first ≤ last → last ≤ moves → count ≡ last + 1 - first → are_too_many count script ≡ true
    → with_run moves first last script ≡ Err TooManyEdits
with_run-full moves first last count script some order most is full =
    run_of_moves moves first last script some order most
    ∙ rw (length-applied (first - 1) (last + 1 - first), ← is, full) refl

pub with_run-room : (moves first last count : ℕ) (script : Script) (edits : List Edit) (queries : List Query) → script ≡ record { edits = edits; queries = queries }
    → 1 ≤ first → first ≤ last → last ≤ moves → count ≡ last + 1 - first → are_too_many count script ≡ false
    → with_run moves first last script ≡ Ok (record { edits = edits ++ applied_moves (first - 1) (last - (first - 1)); queries = queries })
with_run-room moves first last count script edits queries view some order most is room =
    let same : last - (first - 1) ≡ count = omega (arith, is) in
    run_of_moves moves first last script some order most
    ∙ rw (length-applied (first - 1) (last + 1 - first), ← is, room, same) (ap (λ (s : Script). done (record { edits = s.edits ++ applied_moves (first - 1) count; queries = s.queries })) view)
