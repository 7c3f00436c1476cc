-- Each index has the value of the first one.
use Rattle.std.proofs.Common.{◌≡◌, ℕ, ℤ, pos, ◌+ℤ◌, ◌*ℤ◌, ◌≤ℤ◌, int_le, FitsSigned, arith, rules, ap, ap₂, subst, sym, ◌∙◌}
use Rattle.std.proofs.lemmas.Bool.{true≢false}
use Rattle.std.proofs.lemmas.Int.{ints, to_z-of_z}
use mir.Syntax.{w64}
use Rattle.space.proofs.Tests.{decides_le}
use Rattle.ray_shapes.proofs.half_line.Ramp.all_or_none.Goals as goal

level_value : (start slope : ℤ) (l : ℕ) → slope ≡ pos 0 → start +ℤ (slope *ℤ pos l) ≡ start
level_value start slope l level = ap (λ s. start +ℤ (s *ℤ pos l)) level ∙ omega (arith, ints)

pub returns-then-self : goal.returns-then-self
returns-then-self c =
    let ramp = c.args.self.now in
    let fs : FitsSigned w64 ramp.start = search rules in let fl : FitsSigned w64 ramp.limit = search rules in
    let told = ap₂ int_le (to_z-of_z w64 ramp.start fs) (to_z-of_z w64 ramp.limit fl) in
    let under = (decides_le ramp.start ramp.limit).0 (sym told ∙ c.if-self.true) in
    record {
      order = omega arith;
      within = omega arith;
      exact = λ l.
          (λ p. (p.0, p.1, subst (λ (z : ℤ). z ≤ℤ ramp.limit) (sym (level_value ramp.start ramp.slope l c.requires.level)) under), λ p. (p.0, p.1));
    }

pub returns : goal.returns
returns c =
    let ramp = c.args.self.now in
    let fs : FitsSigned w64 ramp.start = search rules in let fl : FitsSigned w64 ramp.limit = search rules in
    let told = ap₂ int_le (to_z-of_z w64 ramp.start fs) (to_z-of_z w64 ramp.limit fl) in
    let over = sym told ∙ c.if-self.false in
    record {
      order = omega arith;
      within = omega arith;
      exact = λ l. (
        λ p. absurd (let low = p.0 in let high = p.1 in omega (arith, low, high)),
        λ p. absurd (true≢false (sym ((decides_le ramp.start ramp.limit).1
            (subst (λ (z : ℤ). z ≤ℤ ramp.limit) (level_value ramp.start ramp.slope l c.requires.level) p.2)) ∙ over)),
      );
    }
