use Rattle.std.proofs.Common.{◌≡◌, ◌-◌, ◌<◌, length, arith}
use Rattle.strip_journal.proofs.Looked.{entry_of_journal, look_begins, look_cost, look_cost_on, look_ends, look_goes_on}
use Rattle.strip_journal.proofs.journal.Journal.state_at.Goals.{then-loop-place-test+else-edit_at-version, else-loop-place-test}
use Rattle.strip_journal.proofs.journal.Journal.state_at.Goals as goal

pub loop-place-init : goal.loop-place-init
loop-place-init g c =
    let past : c.len-place.result ≡ length c.args.self.now.entries.items = omega arith in (
      look_begins c.args.self.now c.args.version c.args.n c.args.l c.len-place.result c.ray-ray.result.now c.has_sure.result
          c.has_possible.result c.requires.journal c.requires.version c.requires.ray c.requires.point c.ray-ray.ensures past
          c.has_sure.ensures c.has_possible.ensures,
      omega arith,
    )

pub look_back-marks-requires-clause-order : goal.look_back-marks-requires-clause-order
look_back-marks-requires-clause-order g c =
    let within = c.loop-place.invariant.0.within in
    let low : c.loop-place.place - 1 < length c.args.self.now.entries.items = omega arith in
    (entry_of_journal c.args.self.now (c.loop-place.place - 1) c.get.result c.requires.journal low
    c.get.ensures).order

pub look_back-marks-requires-clause-within : goal.look_back-marks-requires-clause-within
look_back-marks-requires-clause-within g c =
    let within = c.loop-place.invariant.0.within in
    let low : c.loop-place.place - 1 < length c.args.self.now.entries.items = omega arith in
    (entry_of_journal c.args.self.now (c.loop-place.place - 1) c.get.result c.requires.journal low
    c.get.ensures).within

pub look_back-marks-requires-clause-sorted : goal.look_back-marks-requires-clause-sorted
look_back-marks-requires-clause-sorted g c =
    let within = c.loop-place.invariant.0.within in
    let low : c.loop-place.place - 1 < length c.args.self.now.entries.items = omega arith in
    (entry_of_journal c.args.self.now (c.loop-place.place - 1) c.get.result c.requires.journal low
    c.get.ensures).sorted

pub loop-place-preserved : goal.loop-place-preserved
loop-place-preserved g c =
    let within = c.loop-place.invariant.0.within in
    let some : 0 < c.loop-place.place = omega arith in
    let cost =
    look_cost_on c.args.steps.now c.loop-place.steps (length c.args.self.now.entries.items) c.loop-place.place some within
    c.loop-place.invariant.1 in (
      look_goes_on c.args.self.now c.args.version c.args.n c.args.l c.loop-place.place
          c.edit_at.result c.get.result c.loop-place.marks c.look_back-marks.result c.requires.journal c.requires.ray c.requires.point some
          c.get.ensures c.edit_at.ensures c.if-edit_at-version.true c.look_back-marks.ensures.sure
          c.look_back-marks.ensures.possible c.loop-place.invariant.0,
      omega (arith, cost),
    )

pub returns-clause-state : goal.returns-clause-state
returns-clause-state g c =
    let within = c.loop-place.invariant.0.within in
    look_ends c.args.self.now c.args.version c.args.n c.args.l c.loop-place.place c.ray-ray.result.now c.has_stock.result
    c.loop-place.marks c.state_of.result c.requires.journal c.requires.ray c.requires.point c.ray-ray.ensures
    c.has_stock.ensures c.state_of.ensures
    (λ some. elim c.loop-place-test.branch [
      | then-loop-place-test+else-edit_at-version w ↦
          omega (arith, w.edit_at.ensures, w.if-edit_at-version.false)
      | else-loop-place-test w ↦ absurd (omega (arith, some))
    ])
    c.loop-place.invariant.0

pub returns-clause-cost : goal.returns-clause-cost
returns-clause-cost g c =
    look_cost c.args.self.now c.args.version c.args.n c.args.l c.loop-place.place c.args.steps.now c.loop-place.steps
    c.loop-place.marks c.requires.journal c.loop-place.invariant.0 c.loop-place.invariant.1
