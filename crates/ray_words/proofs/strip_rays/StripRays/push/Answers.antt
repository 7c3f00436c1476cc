use Rattle.std.proofs.Common.{ℕ, ◌≡◌, List, [], ◌∷◌, ◌++◌, Bool, Result, arith, ap, ◌∙◌}
use Rattle.std.specs.Prelude.{if◌then◌else◌}
use Rattle.std.specs.Result.{IsOk, is_ok}
use Rattle.ray_words.proofs.SettledRays.{settled_more}
use Rattle.ray_words.proofs.strip_rays.StripRays.push.Goals as goal

-- what a push that succeeds leaves
pushed : {T E : Type 0} (r : Result T E) (after before : List (ℕ × ℕ)) → IsOk r → (if is_ok r then after else before) ≡ after
pushed r after before ok = ap (λ (b : Bool). if b then after else before) ok

pub invariant_of-self-2 : goal.invariant_of-self-2
invariant_of-self-2 c =
    let i = c.self.inside in
    let room = c.in_ok-reserve.ensures.ok in
    let noted = c.push-noted.ensures.items ∙ pushed c.push-noted.result _ _ (c.push-noted.ensures.succeeds (omega (arith, room))) in
    settled_more i.rays.items c.push.new.self.items i.settled.items c.push-noted.new.self.items c.args.ray c.bare_end-settled.result c.self.invariant
    c.bare_end-settled.ensures c.in_ok-push.ensures.items
    (noted ∙ ap (λ (l : List (ℕ × ℕ)). l ++ c.bare_end-settled.result ∷ []) c.in_ok-reserve.ensures.items)
