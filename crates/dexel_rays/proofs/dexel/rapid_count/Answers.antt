use Rattle.std.proofs.Common.{◌≡◌, sym, ap, rules, false, ◌&&◌, not, length}
use Rattle.std.specs.List.{range_with_len}
use Rattle.vf_spans.specs.Members.{has}
use Rattle.dexel_rays.proofs.Laws.{none_counted}
use Rattle.dexel_rays.proofs.dexel.rapid_count.Goals as goal

pub returns-else-rapid : goal.returns-else-rapid
returns-else-rapid c =
    let slow : c.args.rapid ≡ false = search rules in
    sym (none_counted (λ i. c.args.rapid && (has c.args.stock.now i && (has c.args.marked.now i && not (has c.args.before.now i))))
    (λ i. ap (λ b. b && (has c.args.stock.now i && (has c.args.marked.now i && not (has c.args.before.now i)))) slow)
    (range_with_len 0 (length c.args.stock.now)))
