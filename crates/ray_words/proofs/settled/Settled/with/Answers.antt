-- Two ranges that touch or overlap have between them every index from the lower start to the higher end.
use Rattle.std.proofs.Common.{◌≡◌, ℕ, ◌≤◌, ◌⊎◌, true, max, min, arith, subst}
use Rattle.std.proofs.lemmas.Bool.Decides.{nat_tests}
use Rattle.vf_spans.specs.Members.{in_range}
use Rattle.ray_words.proofs.settled.Settled.with.Goals as goal

joined : (a b c d low high l : ℕ) → c ≤ b → a ≤ d → low ≡ min a c → high ≡ max b d → in_range l (low, high) ≡ true
    → (in_range l (a, b) ≡ true) ⊎ (in_range l (c, d) ≡ true)
joined a b c d low high l first second low_is high_is there = grind (arith, nat_tests)

pub returns-then-self-to : goal.returns-then-self-to
returns-then-self-to c = λ l there.
    let i = c.self.inside in
    subst (λ (s : ℕ × ℕ). (in_range l s ≡ true) ⊎ (in_range l c.args.run ≡ true)) c.self.view_is
    (joined i.from i.to c.args.run.0 c.args.run.1 c.min.result c.max.result l c.if-from-self.true c.if-self-to.true c.min.ensures c.max.ensures there)
