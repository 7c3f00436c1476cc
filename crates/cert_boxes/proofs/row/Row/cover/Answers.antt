use Rattle.std.proofs.Common.{◌∙◌}
use Rattle.cert_boxes.proofs.Covers.{throughout_by}
use Rattle.cert_boxes.proofs.row.Row.cover.Goals as goal

pub returns-clause-exact : goal.returns-clause-exact
returns-clause-exact c = throughout_by c.in_ok-set.set _ c.args.self.now c.args.bound (c.as_mut_slice.ensures.value ∙ c.self.view_is) c.in_ok-set.ensures.exact
