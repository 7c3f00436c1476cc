-- At which points a move has to be tested, and for what.
use Rattle.std.specs.Prelude.{◌≡◌, Bool, false, IsTrue, not, ◌&&◌, ◌||◌}
use Rattle.dexel_rays.specs.Findings.{Seen}

-- the point is part or fixture, or stock of which no earlier move was sure
abbrev pub is_wanted : Seen → Bool
is_wanted p = p.part || (p.fixture || (p.stock && not p.sure_before))

-- only whether the move is sure of the point still matters: it is neither part nor fixture, some earlier move was possible there,
-- and this one isn't rapid
abbrev pub is_sure_only : Seen → Bool
is_sure_only p = not (p.part || p.fixture) && (p.possible_before && not p.rapid)

-- marks agree with those of a move where it is tested: on whether it is sure, of a wanted point; and on whether it is
-- possible, of one that is wanted for more than 'sure'
pub record Agree (p : Seen) (sure possible : Bool) : Type 0 where
  pub same_sure : IsTrue (is_wanted p) → sure ≡ p.sure
  pub same_possible : IsTrue (is_wanted p) → is_sure_only p ≡ false → possible ≡ p.possible
