-- A turn takes the strip, works on it in its slot, and gives it back.
use Rattle.std.proofs.Common.{ap}
use Rattle.strip_turns.proofs.Turning.{ended_done, ended_stopped, lies_done, lies_stopped, lies_there, missed_idle}
use Rattle.strip_turns.proofs.board.Board.turn.Goals as goal

pub hold-requires : goal.hold-requires
hold-requires c = record { idle = c.requires.pass; strip = c.requires.strip; few = c.requires.few }

pub turn_held-requires : goal.turn_held-requires
turn_held-requires c =
    let took = c.in-Some.ensures.told in
    record {
      own = took.1.own;
      held = lies_there c.args.self.now c.args.strip c.in-Some.from 0 c.args.pass.now.seat c.hold.new.seat c.hold.new.seat took.0 took.1 took.2;
    }

pub give_back-requires : goal.give_back-requires
give_back-requires c =
    let e = c.in-Ok.ensures in
    record {
      strip = c.requires.strip;
      held = lies_done c.args.self.now c.args.strip c.in-Ok.from c.in-Ok.to c.args.pass.now.seat c.hold.new.seat c.turn_held.new.seat (c.in-Some.ensures.told.0, c.in-Some.ensures.told.1)
          c.requires.pass e.own e.view e.worked;
    }

pub returns-in-Ok-clause-pass : goal.returns-in-Ok-clause-pass
returns-in-Ok-clause-pass c =
    let e = c.in-Ok.ensures in
    (ended_done c.args.self.now c.args.strip c.in-Ok.from c.in-Ok.to c.args.pass.now.seat c.hold.new.seat c.turn_held.new.seat (c.in-Some.ensures.told.0, c.in-Some.ensures.told.1)
    c.requires.pass e.own e.view e.worked c.give_back.new.seat c.give_back.ensures).1

pub returns-in-Ok-clause-told : goal.returns-in-Ok-clause-told
returns-in-Ok-clause-told c =
    let e = c.in-Ok.ensures in
    (ended_done c.args.self.now c.args.strip c.in-Ok.from c.in-Ok.to c.args.pass.now.seat c.hold.new.seat c.turn_held.new.seat (c.in-Some.ensures.told.0, c.in-Some.ensures.told.1)
    c.requires.pass e.own e.view e.worked c.give_back.new.seat c.give_back.ensures).0

pub returns-in-Err-clause-pass : goal.returns-in-Err-clause-pass
returns-in-Err-clause-pass c =
    let e = c.in-Err.ensures in
    (ended_stopped c.args.self.now c.args.strip c.in-Err.from c.in-Err.to c.args.pass.now.seat c.hold.new.seat c.turn_held.new.seat (c.in-Some.ensures.told.0, c.in-Some.ensures.told.1)
    c.requires.pass e.own e.view e.worked c.give_back-in-Err.new.seat c.give_back-in-Err.ensures).1

pub returns-in-Err-clause-told : goal.returns-in-Err-clause-told
returns-in-Err-clause-told c =
    let e = c.in-Err.ensures in
    (ended_stopped c.args.self.now c.args.strip c.in-Err.from c.in-Err.to c.args.pass.now.seat c.hold.new.seat c.turn_held.new.seat (c.in-Some.ensures.told.0, c.in-Some.ensures.told.1)
    c.requires.pass e.own e.view e.worked c.give_back-in-Err.new.seat c.give_back-in-Err.ensures).0

pub returns-in_default-clause-told : goal.returns-in_default-clause-told
returns-in_default-clause-told c =
    let miss = c.in_default.ensures.told in
    (ap (λ m. m.0) miss.me, miss.beside)

pub returns-in_default-clause-pass : goal.returns-in_default-clause-pass
returns-in_default-clause-pass c =
    let miss = c.in_default.ensures.told in
    missed_idle c.args.self.now c.args.strip c.args.pass.now.seat c.hold.new.seat c.requires.pass c.in_default.ensures.own miss

pub give_back-requires-in-Err : goal.give_back-requires-in-Err
give_back-requires-in-Err c =
    let e = c.in-Err.ensures in
    record {
      strip = c.requires.strip;
      held = lies_stopped c.args.self.now c.args.strip c.in-Err.from c.in-Err.to c.args.pass.now.seat c.hold.new.seat c.turn_held.new.seat (c.in-Some.ensures.told.0, c.in-Some.ensures.told.1)
          c.requires.pass e.own e.view e.worked;
    }
