use Rattle.strip_journal.proofs.AddedFound.{left_added, left_rise, left_room, of_left}
use Rattle.strip_journal.proofs.journal.Journal.add_entry.Goals as goal

pub counts_at-found-requires-clause-removed : goal.counts_at-found-requires-clause-removed
counts_at-found-requires-clause-removed c =
    let found = c.in-Some.ensures in
    let is = of_left c.args.self.now c.args.place c.in-Some.k c.edit_at-edit.result c.requires.place c.edit_at-edit.ensures found.0 found.1 in
    (left_rise c.args.self.now c.args.place c.in-Some.k c.requires.journal is).removed

pub counts_at-found-requires-clause-possible : goal.counts_at-found-requires-clause-possible
counts_at-found-requires-clause-possible c =
    let found = c.in-Some.ensures in
    let is = of_left c.args.self.now c.args.place c.in-Some.k c.edit_at-edit.result c.requires.place c.edit_at-edit.ensures found.0 found.1 in
    (left_rise c.args.self.now c.args.place c.in-Some.k c.requires.journal is).possible

pub plus-requires : goal.plus-requires
plus-requires c =
    let found = c.in-Some.ensures in
    let is = of_left c.args.self.now c.args.place c.in-Some.k c.edit_at-edit.result c.requires.place c.edit_at-edit.ensures found.0 found.1 in
    left_room c.args.self.now c.args.place c.in-Some.k c.args.counts.now c.counts_at-found.result c.requires.journal is c.requires.many
    c.requires.room c.counts_at-found.ensures

pub returns-in-Some : goal.returns-in-Some
returns-in-Some c =
    let found = c.in-Some.ensures in
    let is = of_left c.args.self.now c.args.place c.in-Some.k c.edit_at-edit.result c.requires.place c.edit_at-edit.ensures found.0 found.1 in
    left_added c.args.self.now c.args.place c.in-Some.k c.args.counts.now c.counts_at-found.result c.plus.result c.requires.journal is
    c.requires.many c.counts_at-found.ensures c.plus.ensures
