-- A strip may go to another thread. What it keeps only for contracts has no byte, and says the same to every thread.
use denote.Param.Send.{IsSend, sendable}
use Rattle.std.proofs.Crossing.{crosses}
use Rattle.ray_words.proofs.word_ray.WordRay.TheSendSync as ray
use Rattle.strip_marks.proofs.change.WordChange.TheSendSync as change
use Rattle.strip_journal.proofs.entries.KeptEntry.TheSendSync as kept
use Rattle.strip_journal.proofs.entry.Hits.TheSendSync as hits
use Rattle.strip_journal.specs.contracts.strip.Strip.{the_row}

pub strip_send : IsSend the_row
strip_send = search (sendable, crosses, ray.the_send, change.the_send, kept.the_send, hits.the_send) depth 30
