-- Of a rapid move the bits of the three words are counted, of a cut none.
use Rattle.std.proofs.Common.{◌≡◌, Bool, ◌&&◌, not, refl, subst, sym}
use Rattle.vf_spans.specs.Members.{count_below}
use Rattle.vf_spans.specs.Words.{has_bit}
use Rattle.dexel_rays.proofs.ones.rapid_ones.Goals as goal

pub returns-then-rapid : goal.returns-then-rapid
returns-then-rapid c =
    let a = c.args in
    subst (λ (r : Bool). c.ones_meet_minus.result ≡ count_below 64 (λ k. r && (has_bit a.a k && (has_bit a.b k && not (has_bit a.c k))))) (sym c.if-rapid.true) c.ones_meet_minus.ensures

pub returns-else-rapid : goal.returns-else-rapid
returns-else-rapid c =
    let a = c.args in
    subst (λ (r : Bool). 0 ≡ count_below 64 (λ k. r && (has_bit a.a k && (has_bit a.b k && not (has_bit a.c k))))) (sym c.if-rapid.false) refl
