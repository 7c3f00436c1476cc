use Rattle.std.proofs.Common.{◌≡◌, List, true, false, rules, subst, sym}
use Rattle.std.specs.List.Sorted.{IsPartitionPoint}
use Rattle.std.proofs.lemmas.List.Sorted.{IsPartitionPoint-from_clause}
use Rattle.strip_marks.specs.declared.change.WordChange.{WordChange}
use Rattle.strip_marks.specs.Marks.{AreInOrder, is_ahead}
use Rattle.strip_journal.specs.declared.packed.PackedChange.{PackedChange}
use Rattle.strip_journal.specs.Looking.{at_word}
use Rattle.strip_journal.specs.Packed.{unpacked}
use Rattle.strip_journal.proofs.PartSearch.{parted_under, point_over}
use Rattle.strip_journal.proofs.Searching.{changes_parted}
use Rattle.strip_journal.proofs.changes.ChangesPart.place_of.Goals as goal

pub returns-clause-parted : goal.returns-clause-parted
returns-clause-parted c =
    let part = c.self.inside in
    let ahead = λ (change : WordChange). is_ahead change (at_word c.args.n c.args.word) in
    let order = subst (λ (l : List WordChange). AreInOrder l) (sym c.self.view_is) c.requires in
    subst (λ (l : List WordChange). IsPartitionPoint (λ change. ahead change ≡ true) (λ change. ahead change ≡ false) l c.partition_point.result)
    c.self.view_is
    (point_over (unpacked part.whole.now) ahead part.packed.now c.partition_point.result
    (record { ray = 0; first = 0; sure = 0; possible = 0 }) c.partition_point.ensures.bound
    (IsPartitionPoint-from_clause (λ (packed : PackedChange). ahead (unpacked part.whole.now packed)) _ _
    c.partition_point.ensures.partitioned
    (parted_under (unpacked part.whole.now) ahead part.packed.now
    (changes_parted _ c.args.n c.args.word order)) (λ a r q k. search rules)))
