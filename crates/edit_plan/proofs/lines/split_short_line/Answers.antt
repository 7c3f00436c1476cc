use Rattle.std.proofs.Common.{◌≡◌, ◌<◌, ◌≤◌, ◌==◌, not, length, arith, rules}
use Rattle.std.specs.List.{prefix_len}
use Rattle.vf_io.specs.Pieces.{line_feed}
use Rattle.edit_plan.proofs.LineLemmas.{pieces_of-all, pieces_of-cut}
use Rattle.edit_plan.proofs.lines.split_short_line.Goals as goal

pub returns-then-ahead-text-clause-first : goal.returns-then-ahead-text-clause-first
returns-then-ahead-text-clause-first c =
    let text = c.args.text.now in
    let all : c.line_len-ahead.result ≡ length text = search rules in
    let none : length text ≤ prefix_len (λ b. not (b == line_feed)) text = omega (arith, all, c.line_len-ahead.ensures.count) in
    rw (c.split_at.ensures.front, c.split_at.ensures.back, all) (pieces_of-all text c.requires none)

pub returns-clause-first : goal.returns-clause-first
returns-clause-first c =
    let text = c.args.text.now in
    let count = c.line_len-ahead.ensures.count in
    let some : c.line_len-ahead.result < length text = search rules in
    let within : prefix_len (λ b. not (b == line_feed)) text < length text = omega (arith, some, count) in
    rw (c.split_at-2.ensures.front, c.split_at-2.ensures.back, count) (pieces_of-cut text within)
