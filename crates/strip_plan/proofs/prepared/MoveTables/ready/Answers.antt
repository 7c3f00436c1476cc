use Rattle.std.proofs.Common.{◌≡◌, ◌∙◌, ℕ, ◌-◌, get_or, length, ap, rules}
use Rattle.strip_plan.proofs.Tables.{early_read, late_read}
use Rattle.strip_plan.proofs.prepared.MoveTables.ready.Goals as goal

pub returns-then-number-early : goal.returns-then-number-early
returns-then-number-early c =
    let s = c.args.self.now in
    early_read s.early.items s.late.items c.args.number c.index.result.now (search rules) c.index.ensures

pub returns : goal.returns
returns c =
    let s = c.args.self.now in
    let own = c.index-2.result.now in
    let many : c.len-early.result ≡ length s.early.items = search rules in
    late_read s.early.items s.late.items c.args.number own (search rules) c.requires (c.index-2.ensures ∙ ap (λ (k : ℕ). get_or s.late.items (c.args.number - k) own) many)
