use Rattle.std.proofs.Common.{◌-◌, ◌%◌, ◌<◌, ◌∙◌, arith, ap}
use Rattle.worker_gate.proofs.Rounds.{place_in, round_of}
use Rattle.worker_gate.proofs.round.Round.strip_of.Goals as goal

pub returns-then-ticket-self-clause-strip : goal.returns-then-ticket-self-clause-strip
returns-then-ticket-self-clause-strip c =
    let s = c.args.self.now in
    let within : c.args.ticket - s.first < s.strips = omega (arith, c.if-ticket-self.true, c.from-strips.ensures) in
    place_in c.args.ticket s.first s.strips s.whole c.if-self-ticket.true within

pub invariant_of-self : goal.invariant_of-self
invariant_of-self c =
    let s = c.args.self.now in
    let strips = c.from-strips.ensures in record {
      whole = ap (λ n. (c.args.ticket - c.args.ticket % n) % s.strips) strips ∙ round_of c.args.ticket s.strips c.requires;
    }
