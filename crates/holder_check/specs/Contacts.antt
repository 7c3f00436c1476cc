-- What a holder touches of stock, part and fixtures: six counts, each of the points that pass one test.
use Rattle.std.specs.Prelude.{◌≡◌, ℕ, Bool, true, false, not, ◌&&◌, IsTrue, List, count_by}
use Rattle.vf_spans.specs.Members.{has}
use Rattle.job_counts.specs.declared.holder.HolderCounts.{HolderCounts}
use Rattle.holder_check.specs.declared.marks.HolderMarks.{HolderMarks}

-- what is known of a point under the holder of a move: which bodies hold it, whether some earlier move was sure of it, whether this move
-- or an earlier one was possible there, and whether the holder is sure to meet it or may meet it
pub record HolderSeen : Type 0 where
  pub stock : Bool
  pub part : Bool
  pub fixture : Bool
  pub sure_before : Bool
  pub possible_after : Bool
  pub sure : Bool
  pub possible : Bool

-- part that the holder is sure to meet, or may meet
abbrev pub strikes_part : HolderSeen → Bool
strikes_part p = p.part && p.sure

abbrev pub may_strike_part : HolderSeen → Bool
may_strike_part p = p.part && p.possible

-- fixture that the holder is sure to meet, or may meet
abbrev pub strikes_fixture : HolderSeen → Bool
strikes_fixture p = p.fixture && p.sure

abbrev pub may_strike_fixture : HolderSeen → Bool
may_strike_fixture p = p.fixture && p.possible

-- stock that the holder is sure to meet, and at which neither this move nor an earlier one was possible
abbrev pub strikes_stock : HolderSeen → Bool
strikes_stock p = p.stock && (p.sure && not p.possible_after)

-- stock that the holder may meet, and of which no earlier move was sure; what this move itself cuts is there still
abbrev pub may_strike_stock : HolderSeen → Bool
may_strike_stock p = p.stock && (p.possible && not p.sure_before)

-- how many of the points pass each test
abbrev pub holder_findings : {P : Type 0} → (P → HolderSeen) → List P → HolderCounts
holder_findings see points = record {
  part_sure = count_by (λ p. strikes_part (see p)) points;
  part_possible = count_by (λ p. may_strike_part (see p)) points;
  fix_sure = count_by (λ p. strikes_fixture (see p)) points;
  fix_possible = count_by (λ p. may_strike_fixture (see p)) points;
  stock_sure = count_by (λ p. strikes_stock (see p)) points;
  stock_possible = count_by (λ p. may_strike_stock (see p)) points;
}

-- what is known of the point of a ray with an index, by the holder's marks and the sets of the ray
abbrev pub holder_seen_at : HolderMarks → List Bool → List Bool → List Bool → List Bool → List Bool → ℕ → HolderSeen
holder_seen_at marks stock part fixture sure_before possible_after i = record {
  stock = has stock i;
  part = has part i;
  fixture = has fixture i;
  sure_before = has sure_before i;
  possible_after = has possible_after i;
  sure = has marks.sure i;
  possible = has marks.possible i;
}

-- wherever the holder may be, there is neither part nor fixture, and no stock but what some earlier move was sure of
pub record IsKeptOff (p : HolderSeen) : Type 0 where
  pub part : IsTrue p.possible → p.part ≡ false
  pub fixture : IsTrue p.possible → p.fixture ≡ false
  pub stock : IsTrue p.possible → IsTrue p.stock → p.sure_before ≡ true
