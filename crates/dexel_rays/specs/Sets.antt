-- The five sets of a ray, and what is known of one of its points at a move.
use Rattle.std.specs.Prelude.{◌≡◌, ℕ, Bool, List, length}
use Rattle.vf_spans.specs.Members.{has}
use Rattle.dexel_rays.specs.Findings.{Seen}

-- the indices that are stock, part and fixture, those of which some move was sure, and those at which some move was possible
pub record Sets : Type 0 where
  pub stock : List Bool
  pub part : List Bool
  pub fixture : List Bool
  pub sure : List Bool
  pub possible : List Bool

-- the five sets have this bound
pub record HaveBound (bound : ℕ) (d : Sets) : Type 0 where
  pub stock : length d.stock ≡ bound
  pub part : length d.part ≡ bound
  pub fixture : length d.fixture ≡ bound
  pub sure : length d.sure ≡ bound
  pub possible : length d.possible ≡ bound

-- what is known of a point of the ray at a move that marks these indices as sure and these as possible
abbrev pub seen_at : Sets → List Bool → List Bool → Bool → ℕ → Seen
seen_at d sure possible rapid i = record {
  stock = has d.stock i;
  part = has d.part i;
  fixture = has d.fixture i;
  sure_before = has d.sure i;
  possible_before = has d.possible i;
  sure = has sure i;
  possible = has possible i;
  rapid = rapid;
}
