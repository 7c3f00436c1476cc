use Rattle.std.proofs.Common.{◌≡◌, ℕ, true, subst}
use Rattle.vf_spans.specs.Words.{has_bit}
use Rattle.vf_spans.proofs.WordBits.{has_bit-zero}
use Rattle.near_points.proofs.strip.CylinderStrip.held_points.Goals as goal

not_set : (b : ℕ) → has_bit 0 b ≡ true → ⊥
not_set b set = let none = has_bit-zero b in cc

pub returns-then-wanted-eq0-clause-kept : goal.returns-then-wanted-eq0-clause-kept
returns-then-wanted-eq0-clause-kept c = λ b below kept. absurd (not_set b (subst (λ (z : ℕ). has_bit z b ≡ true) c.if-wanted-eq0.true kept.0))

pub returns-then-wanted-eq0-clause-held : goal.returns-then-wanted-eq0-clause-held
returns-then-wanted-eq0-clause-held c = λ b below set. absurd (not_set b set)
