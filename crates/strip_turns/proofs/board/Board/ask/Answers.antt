use Rattle.strip_turns.specs.Passes.{card}
use Rattle.strip_turns.proofs.Asked.{count_told, probe_told}
use Rattle.strip_turns.proofs.board.Board.ask.Goals as goal

pub probed-requires-clause-idle : goal.probed-requires-clause-idle
probed-requires-clause-idle g c = c.requires.pass

pub probed-requires-clause-version : goal.probed-requires-clause-version
probed-requires-clause-version g c = c.requires.query.version

pub counted-requires-clause-idle : goal.counted-requires-clause-idle
counted-requires-clause-idle g c = c.requires.pass

pub counted-requires-clause-version : goal.counted-requires-clause-version
counted-requires-clause-version g c = c.requires.query.version

pub returns-in_ok-state-in-Probe-clause-told : goal.returns-in_ok-state-in-Probe-clause-told
returns-in_ok-state-in-Probe-clause-told g c =
    let b = c.args.self.now in
    let q = c.args.query.now in
    probe_told (card b) b.plan q.version q.ask c.args.pass.now.seat.me.0 c.probed.new.seat.me.0 b.card c.in-Probe.ray c.in-Probe.l
    c.in_ok-state-in-Probe.state c.in-Probe.is c.in_ok-state-in-Probe.ensures.raised c.in_ok-state-in-Probe.ensures.state

pub returns-in_ok-totals-in-Count-clause-told : goal.returns-in_ok-totals-in-Count-clause-told
returns-in_ok-totals-in-Count-clause-told g c =
    let b = c.args.self.now in
    let q = c.args.query.now in
    count_told (card b) b.plan q.version q.ask c.args.pass.now.seat.me.0 c.counted.new.seat.me.0 b.card c.in_ok-totals-in-Count.totals c.in-Count.is
    c.in_ok-totals-in-Count.ensures.raised c.in_ok-totals-in-Count.ensures.totals
