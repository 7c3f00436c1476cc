use Rattle.std.proofs.Common.{◌≡◌, ◌<◌, ◌≤◌, MatchOption, subst, sym}
use Rattle.cl_lines.proofs.PowerLemmas.{scaled-power}
use Rattle.cl_lines.proofs.number.rounded_size.Goals as goal

pub returns : goal.returns
returns c =
    let number = c.args.number in
    subst (λ s. MatchOption c.rounded.result (2147483648 < s) (λ r. (r ≡ s) × (r ≤ 2147483648))) (sym (scaled-power number.digits c.args.base c.args.power number.up number.down)) c.rounded.ensures
