-- A strip that works ahead may go to another thread.
use denote.Param.Send.{IsSend, sendable}
use Rattle.strip_journal.proofs.Sent.{strip_send}
use Rattle.turn_core.specs.contracts.ahead.AheadStrip.{the_row}

pub ahead_send : IsSend the_row
ahead_send = search (sendable, strip_send) depth 20
