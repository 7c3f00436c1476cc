use Rattle.std.proofs.Common.{◌*◌, ◌+◌, ◌/◌, ◌%◌, ◌≤◌, ◌<◌, ◌^◌, ℕ, suc, arith}
use Rattle.std.proofs.Math.Nat.{mod-le, pow-le-pow_right}
use Rattle.std.proofs.Math.Pow.{shr_lt}
use mir.Syntax.{w64}
use borrow.Author.Rules.{Fits-under}
use Rattle.space.proofs.root.first_guess.Goals as goal

-- a number that is shifted by half its length has about half its length
shifted : (n e h : ℕ) → n < 2 * 2 ^ e → e ≤ h + 32 → n / 2 ^ h < 2 ^ 33
shifted n e h below near =
    let up : 2 ^ suc e ≤ 2 ^ (33 + h) = pow-le-pow_right (omega arith) (omega (arith, near)) in
    shr_lt 33 h (omega (arith, below, up))

power_small : (h : ℕ) → h ≤ 31 → 2 * 2 ^ h % 2 ^ 64 ≤ 2 ^ 32
power_small h few =
    let up : 2 ^ h ≤ 2 ^ 31 = pow-le-pow_right (omega arith) few in
    omega (arith, up, mod-le (2 * 2 ^ h) (2 ^ 64))

guess_small : (n e : ℕ) → n < 2 * 2 ^ e → e < 64 → 2 * 2 ^ (e / 2) % 2 ^ 64 + n / 2 ^ (e / 2) < 2 ^ 34
guess_small n e below few =
    omega (arith, power_small (e / 2) (omega (arith, few)), shifted n e (e / 2) below (omega (arith, few)))

pub overflow_add-result : goal.overflow_add-result
overflow_add-result c =
    let log = c.ilog2-half in
    Fits-under w64 _ (2 ^ 34) (guess_small c.args.n log.result log.ensures.next_power_gt log.ensures.bound) tt

pub overflow_mul-result : goal.overflow_mul-result
overflow_mul-result c =
    let log = c.ilog2-half in
    Fits-under w64 _ (2 ^ 38) (eleven _ (guess_small c.args.n log.result log.ensures.next_power_gt log.ensures.bound)) tt where
      eleven : (n : ℕ) → n < 2 ^ 34 → n * 11 < 2 ^ 38
      eleven n h = omega (arith, h)
