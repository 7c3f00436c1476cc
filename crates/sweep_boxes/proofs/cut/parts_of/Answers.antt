use Rattle.std.proofs.Common.{ℕ, ◌^◌, ◌*◌, ◌%◌, ◌≤◌, ◌≡◌, arith, subst, sym}
use Rattle.std.proofs.Math.Pow.{pow_mono}
use Rattle.sweep_boxes.proofs.cut.parts_of.Goals as goal

pub returns-clause-few : goal.returns-clause-few
returns-clause-few c =
    let few : 2 ^ c.args.level ≤ 2 ^ 6 = pow_mono c.requires in
    let same : (1 * 2 ^ c.args.level) % 4294967296 ≡ 2 ^ c.args.level = omega arith in
    subst (λ (n : ℕ). n ≤ 64) (sym same) few
