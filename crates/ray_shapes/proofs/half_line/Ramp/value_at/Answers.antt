-- What the value rises by and the value itself are far below 64 bits, so both are what is computed.
use Rattle.std.proofs.Common.{◌≡◌, ℕ, ℤ, pos, to_z, of_z, ◌+ℤ◌, ◌*ℤ◌, ◌∙◌, arith, rules, ap, ap₂, subst, sym, w64, FitsSigned}
use Rattle.std.proofs.lemmas.Int.{ints, to_z-of_z}
use Rattle.ray_shapes.specs.Sizes.{IsTerm}
use Rattle.ray_shapes.proofs.Rising.{term_fits}
use Rattle.ray_shapes.proofs.half_line.Ramp.value_at.Goals as goal

sum_fits : (start rise : ℤ) → IsTerm start → IsTerm rise → FitsSigned w64 (start +ℤ rise)
sum_fits start rise s r = let a = s.from_least in let b = s.to_most in let c = r.from_least in let d = r.to_most in omega (arith, ints)

rise_read : (slope x : ℤ) (l : ℕ) → FitsSigned w64 slope → FitsSigned w64 x → x ≡ pos l → (to_z w64 (of_z w64 slope) *ℤ to_z w64 (of_z w64 x)) ≡ slope *ℤ pos l
rise_read slope x l slope_fits fits is = ap₂ (λ a b. a *ℤ b) (to_z-of_z w64 slope slope_fits) (to_z-of_z w64 x fits ∙ is)

value_read : (start slope x : ℤ) (l : ℕ) → FitsSigned w64 start → FitsSigned w64 slope → FitsSigned w64 x → x ≡ pos l → IsTerm (slope *ℤ pos l)
    → (to_z w64 (of_z w64 start) +ℤ to_z w64 (of_z w64 (to_z w64 (of_z w64 slope) *ℤ to_z w64 (of_z w64 x)))) ≡ start +ℤ (slope *ℤ pos l)
value_read start slope x l start_fits slope_fits fits is rise =
    ap₂ (λ a b. a +ℤ b) (to_z-of_z w64 start start_fits)
    (ap (λ z. to_z w64 (of_z w64 z)) (rise_read slope x l slope_fits fits is) ∙ to_z-of_z w64 (slope *ℤ pos l) (term_fits (slope *ℤ pos l) rise))

pub overflow_mul-result : goal.overflow_mul-result
overflow_mul-result c =
    let slope = c.args.self.now.slope in
    subst (FitsSigned w64) (sym (rise_read slope c.from.result c.args.l (search rules) (search rules) c.from.ensures)) (term_fits (slope *ℤ pos c.args.l) c.requires.rise)

pub overflow_add-result : goal.overflow_add-result
overflow_add-result c =
    let ramp = c.args.self.now in let l = c.args.l in
    subst (FitsSigned w64) (sym (value_read ramp.start ramp.slope c.from.result l (search rules) (search rules) (search rules) c.from.ensures c.requires.rise))
    (sum_fits ramp.start (ramp.slope *ℤ pos l) c.requires.start c.requires.rise)

pub returns : goal.returns
returns c =
    let ramp = c.args.self.now in let l = c.args.l in
    ap (λ z. to_z w64 (of_z w64 z)) (value_read ramp.start ramp.slope c.from.result l (search rules) (search rules) (search rules) c.from.ensures c.requires.rise)
    ∙ to_z-of_z w64 (ramp.start +ℤ (ramp.slope *ℤ pos l)) (sum_fits ramp.start (ramp.slope *ℤ pos l) c.requires.start c.requires.rise)
