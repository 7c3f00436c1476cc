use Rattle.std.proofs.Common.{◌≡◌, ℕ, length, arith, subst}
use Rattle.strip_journal.specs.Found.{AddsAhead}
use Rattle.strip_journal.proofs.AddedFound.{all_added, more_added, room_still}
use Rattle.strip_journal.proofs.journal.Journal.add_found.Goals as goal

pub add_entry-requires-clause-room : goal.add_entry-requires-clause-room
add_entry-requires-clause-room c =
    room_still c.args.self.now c.loop-place.place c.args.counts.now c.loop-place.counts c.requires.journal (omega arith) c.requires.room
    c.loop-place.invariant

pub loop-place-preserved : goal.loop-place-preserved
loop-place-preserved c =
    more_added c.args.self.now c.loop-place.place c.args.counts.now c.loop-place.counts c.add_entry.new.counts c.requires.journal
    (omega arith) c.loop-place.invariant c.add_entry.ensures

pub returns : goal.returns
returns c =
    let last : c.loop-place.place ≡ length c.args.self.now.entries.items = omega arith in
    all_added c.args.self.now c.args.counts.now c.loop-place.counts c.requires.journal c.requires.many
    (subst (λ (n : ℕ). AddsAhead c.args.self.now n c.args.counts.now c.loop-place.counts) last c.loop-place.invariant)
