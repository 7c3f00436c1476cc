use Rattle.std.proofs.Common.{arith}
use Rattle.strip_turns.specs.Passes.{card}
use Rattle.strip_turns.proofs.Looking.{looks}
use Rattle.strip_turns.proofs.OutAndBack.{still_idle}
use Rattle.strip_turns.proofs.moves.look.Goals as goal

pub load-requires : goal.load-requires
load-requires c = let b = c.args.board.now in (c.requires.idle.own, omega (arith, b.words), looks (card b) _ _ 0 c.args.seat.now.me (omega arith))

pub returns : goal.returns
returns c = let e = c.load.ensures in record { idle = still_idle c.args.board.now c.args.seat.now c.load.new.seat c.requires.idle e.0 e.2.me; looked = e.2 }
