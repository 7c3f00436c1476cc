-- Which moves are left, and which are dropped, after edits. A move is named by its number, from 0.
use Rattle.std.specs.Prelude.{ℕ, ◌-◌, ◌<◌, nat_lt, ◌&&◌, Bool, true, List, [], ◌∷◌, ◌++◌, length, take, drop, map}
use Rattle.std.specs.List.{fold, range_with_len}
use Rattle.edit_plan.specs.declared.edit.Edit.{Edit}
use Rattle.edit_plan.specs.declared.edit.Edit.TheVariants.{Apply, Undo, Redo}

-- the moves that are left and those that undos dropped, each in the order in which they came there
pub record MoveLists : Type 0 where
  pub left : List ℕ
  pub dropped : List ℕ

-- at the start there are none
abbrev pub no_lists : MoveLists
no_lists = record { left = []; dropped = [] }

-- a list without its last item, and only that item
abbrev pub all_but_last : List ℕ → List ℕ
all_but_last xs = take (length xs - 1) xs

abbrev pub last_alone : List ℕ → List ℕ
last_alone xs = drop (length xs - 1) xs

-- Apply adds its move at the end of those left, and then none is dropped any more; Undo moves the last that is left to the end
-- of those dropped; Redo moves the last that was dropped to the end of those left
abbrev pub after_edit : MoveLists → Edit → MoveLists
after_edit lists (Apply number) = record { left = lists.left ++ number ∷ []; dropped = [] }
after_edit lists Undo = record { left = all_but_last lists.left; dropped = lists.dropped ++ last_alone lists.left }
after_edit lists Redo = record { left = lists.left ++ last_alone lists.dropped; dropped = all_but_last lists.dropped }

-- both lists after edits
abbrev pub lists_after : List Edit → MoveLists
lists_after edits = fold after_edit no_lists edits

-- the moves that are left after edits
abbrev pub left_of : List Edit → List ℕ
left_of edits = (lists_after edits).left

-- the moves that are dropped after edits
abbrev pub dropped_of : List Edit → List ℕ
dropped_of edits = (lists_after edits).dropped

-- the moves that are left at a version: after the first `version` edits
abbrev pub left_at : List Edit → ℕ → List ℕ
left_at edits version = left_of (take version edits)

-- an edit finds what it takes: Undo a move that is left, Redo one that was dropped
abbrev pub finds : MoveLists → Edit → Bool
finds lists (Apply number) = true
finds lists Undo = nat_lt 0 (length lists.left)
finds lists Redo = nat_lt 0 (length lists.dropped)

-- each of the edits finds what it takes, in turn
abbrev pub all_find : MoveLists → List Edit → Bool
all_find lists [] = true
all_find lists (edit ∷ edits) = finds lists edit && all_find (after_edit lists edit) edits

-- each edit finds what it takes, from the start on
abbrev pub are_sound : List Edit → Bool
are_sound edits = all_find no_lists edits

-- `count` moves from a number on, each applied once in order
abbrev pub applied_moves : ℕ → ℕ → List Edit
applied_moves first count = map (λ number. Apply number) (range_with_len first count)

-- an edit's move is below this number
abbrev pub AppliesBelow : ℕ → Edit → Type 0
AppliesBelow moves (Apply number) = number < moves
AppliesBelow moves Undo = Unit {0}
AppliesBelow moves Redo = Unit {0}
