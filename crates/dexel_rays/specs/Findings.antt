-- What a move finds at a point: eight rules on what is known there, and how many points meet each.
use Rattle.std.specs.Prelude.{Bool, false, not, ◌&&◌, ◌||◌, List, count_by}
use Rattle.job_counts.specs.declared.counts.Counts.{Counts}

-- what is known of a point at a move: which bodies hold it, of which and at which points some earlier move was sure or possible,
-- whether this move is, and whether it is rapid
pub record Seen : Type 0 where
  pub stock : Bool
  pub part : Bool
  pub fixture : Bool
  pub sure_before : Bool
  pub possible_before : Bool
  pub sure : Bool
  pub possible : Bool
  pub rapid : Bool

-- stock that this move is sure of and no earlier move was
abbrev pub is_removed : Seen → Bool
is_removed p = p.stock && (p.sure && not p.sure_before)

-- stock at which this move is possible and no earlier move was; a point that is removed now may have been possible before
abbrev pub is_new_possible : Seen → Bool
is_new_possible p = p.stock && (p.possible && not p.possible_before)

-- part that this move is sure of, or at which it is possible, whatever was before
abbrev pub is_part_sure : Seen → Bool
is_part_sure p = p.part && p.sure

abbrev pub is_part_possible : Seen → Bool
is_part_possible p = p.part && p.possible

-- fixture that this move is sure of, or at which it is possible, whatever was before
abbrev pub is_fixture_sure : Seen → Bool
is_fixture_sure p = p.fixture && p.sure

abbrev pub is_fixture_possible : Seen → Bool
is_fixture_possible p = p.fixture && p.possible

-- stock that a rapid move is sure of and at which no earlier move was possible
abbrev pub is_rapid_sure : Seen → Bool
is_rapid_sure p = p.rapid && (p.stock && (p.sure && not p.possible_before))

-- stock at which a rapid move is possible and of which no earlier move was sure
abbrev pub is_rapid_possible : Seen → Bool
is_rapid_possible p = p.rapid && (p.stock && (p.possible && not p.sure_before))

-- which of the rules a point meets
pub record Rules : Type 0 where
  pub removed : Bool
  pub possible : Bool
  pub part_sure : Bool
  pub part_possible : Bool
  pub fix_sure : Bool
  pub fix_possible : Bool
  pub rapid_sure : Bool
  pub rapid_possible : Bool

abbrev pub met : Seen → Rules
met p = record {
  removed = is_removed p;
  possible = is_new_possible p;
  part_sure = is_part_sure p;
  part_possible = is_part_possible p;
  fix_sure = is_fixture_sure p;
  fix_possible = is_fixture_possible p;
  rapid_sure = is_rapid_sure p;
  rapid_possible = is_rapid_possible p;
}

abbrev pub none_met : Rules
none_met = record {
  removed = false;
  possible = false;
  part_sure = false;
  part_possible = false;
  fix_sure = false;
  fix_possible = false;
  rapid_sure = false;
  rapid_possible = false;
}

-- how many of the points meet each rule
abbrev pub findings : {P : Type 0} → (P → Seen) → List P → Counts
findings see points = record {
  removed = count_by (λ p. is_removed (see p)) points;
  possible = count_by (λ p. is_new_possible (see p)) points;
  part_sure = count_by (λ p. is_part_sure (see p)) points;
  part_possible = count_by (λ p. is_part_possible (see p)) points;
  fix_sure = count_by (λ p. is_fixture_sure (see p)) points;
  fix_possible = count_by (λ p. is_fixture_possible (see p)) points;
  rapid_sure = count_by (λ p. is_rapid_sure (see p)) points;
  rapid_possible = count_by (λ p. is_rapid_possible (see p)) points;
}

-- the point is neither part nor fixture, and some earlier move was sure of it, so that one was possible there too
abbrev pub is_settled : Seen → Bool
is_settled p = (p.sure_before && p.possible_before) && not (p.part || p.fixture)

-- the point is neither stock nor part nor fixture
abbrev pub is_outside : Seen → Bool
is_outside p = not (p.stock || (p.part || p.fixture))
