-- The table `turn`: the turn that it stands for, or its first fault. Lengths are micrometres.
use Rattle.std.specs.Prelude.{ℕ, ◌+◌, ◌-◌, ◌*◌, ◌==◌, ◌&&◌, nat_le, ℤ, pos, neg_ℤ, Bool, true, false, if◌then◌else◌}
use Rattle.std.specs.Prelude.{List, [], ◌∷◌, length, map, slice_index, Option, Some, None, option_and_then, Result, Ok}
use Rattle.toml.specs.Data.{Data, Members, as_str, as_table}
use Rattle.space.specs.Vectors.{at}
use Rattle.ray_grid.specs.Turns.{is_turn, most_shift}
use Rattle.ray_grid.specs.declared.turn.Turn.{Turn}
use Rattle.setup_keys.specs.declared.fault.SetupFault.{SetupFault}
use Rattle.setup_keys.specs.declared.key.KeyName.TheVariants as keys
use Rattle.setup_file.specs.Grids.{axes}
use Rattle.setup_file.specs.Reads.{◌>>=◌, each, entry_at, numbers_at, of_kind, ranged}

-- whether a sign negates, where it is `+` or `-`
abbrev pub sign_of : ℕ → Option Bool
sign_of code = if code == 43 then Some false else (if code == 45 then Some true else None)

-- the number of an old axis, where it is `x`, `y` or `z`
abbrev pub axis_of : ℕ → Option ℕ
axis_of code = if nat_le 120 code && nat_le code 122 then Some (code - 120) else None

-- a sign and the old axis after it
abbrev pub signed_axis : Option Bool → Option ℕ → Option (Bool × ℕ)
signed_axis (Some negated) (Some axis) = Some (negated, axis)
signed_axis _ _ = None

-- what the text says of new axis n
abbrev pub signed_axis_at : List ℕ → ℕ → Option (Bool × ℕ)
signed_axis_at text n = signed_axis (sign_of (slice_index text (2 * n))) (axis_of (slice_index text (2 * n + 1)))

-- a turn by what is said of each new axis, not moved yet
abbrev pub unmoved : Bool × ℕ → Bool × ℕ → Bool × ℕ → Turn
unmoved x y z = record {
  axis = x.1 ∷ y.1 ∷ z.1 ∷ [];
  neg = x.0 ∷ y.0 ∷ z.0 ∷ [];
  shift = pos 0 ∷ pos 0 ∷ pos 0 ∷ [];
}

abbrev pub unmoved_by : Option (Bool × ℕ) → Option (Bool × ℕ) → Option (Bool × ℕ) → Option Turn
unmoved_by (Some x) (Some y) (Some z) = if is_turn (unmoved x y z) then Some (unmoved x y z) else None
unmoved_by _ _ _ = None

-- the turn of a text of six characters, for each new axis a sign and an old axis: one of the 24, so no mirror
abbrev pub turn_named : List ℕ → Option Turn
turn_named text = if length text == 6 then unmoved_by (signed_axis_at text 0) (signed_axis_at text 1) (signed_axis_at text 2) else None

abbrev pub axes_in : Option Data → Option Turn
axes_in value = option_and_then turn_named (option_and_then as_str value)

-- the turn, moved along each axis
abbrev pub moved_by : Turn → List ℤ → Turn
moved_by turn shift = record turn { shift = map (λ axis. at shift axis) axes }

-- a turn of its table
unfoldable pub turn_of : Members → Result Turn SetupFault
turn_of table = do
  turn ← of_kind keys.TurnAxes (axes_in (entry_at keys.TurnAxes table))
  numbers ← numbers_at 3 keys.TurnShift table
  shift ← each (ranged keys.TurnShift (neg_ℤ (pos most_shift)) (pos most_shift)) numbers
  Ok (moved_by turn shift)

-- how the part is turned, where the table is there
abbrev pub turn_in : Option Data → Result (Option Turn) SetupFault
turn_in None = Ok None
turn_in (Some value) = do
  table ← of_kind keys.Turn (as_table value)
  turn ← turn_of table
  Ok (Some turn)

abbrev pub turn_at : Members → Result (Option Turn) SetupFault
turn_at setup = turn_in (entry_at keys.Turn setup)
