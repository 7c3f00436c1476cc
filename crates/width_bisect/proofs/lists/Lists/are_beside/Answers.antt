use Rattle.std.proofs.Common.{◌-◌, arith, sym, ◌∙◌}
use Rattle.width_bisect.proofs.Beside.{none_at_all, none_beside}
use Rattle.width_bisect.proofs.lists.Lists.are_beside.Goals as goal

pub returns-then-high-eq0 : goal.returns-then-high-eq0
returns-then-high-eq0 c = λ yes rising above turns.
    let l = c.args.self.now in none_at_all l.scale l.raised l.height c.args.width.now c.args.slabs.now c.args.high c.if-high-eq0.true rising above turns

pub returns : goal.returns
returns c = λ yes rising above turns.
    let l = c.args.self.now in let h = c.args.high - 1 in
    none_beside l.scale l.raised l.height c.args.width.now c.args.slabs.now c.args.high h c.index-slabs-high.result (omega (arith, c.if-high-eq0.false)) c.index-slabs-high.is rising above (sym c.is_beside.ensures ∙ yes) turns
