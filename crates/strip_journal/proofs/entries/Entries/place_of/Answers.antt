use Rattle.std.proofs.Common.{◌∙◌, List, rules, ltb, sym, ap, subst}
use Rattle.std.proofs.lemmas.List.Sorted.{IsPartitionPoint-from_clause}
use Rattle.strip_journal.specs.declared.entries.KeptEntry.{KeptEntry}
use Rattle.strip_journal.specs.declared.entry.Entry.{Entry}
use Rattle.strip_journal.specs.Entries.{AreAscending, EntryList, IsFirstEntryFrom}
use Rattle.strip_journal.specs.Kept.{whole_entries}
use Rattle.strip_journal.proofs.KeptHits.{kept_parted, kept_place}
use Rattle.strip_journal.proofs.entries.Entries.place_of.Goals as goal

pub returns : goal.returns
returns c =
    let hits = c.self.inside.hits.items in
    let seen =
    ap (λ (l : List KeptEntry). whole_entries hits l) c.as_slice.ensures.value ∙ ap (λ (e : EntryList). e.items) c.self.view_is in
    let ascend = subst (λ (l : List Entry). AreAscending l) (sym seen) c.requires in
    subst (λ (l : List Entry). IsFirstEntryFrom l c.args.version c.partition_point.result) seen
    (kept_place hits c.as_slice.result.now c.args.version c.partition_point.result c.partition_point.ensures.bound
    (IsPartitionPoint-from_clause (λ entry. ltb entry.edit c.args.version) _ _ c.partition_point.ensures.partitioned
    (kept_parted hits c.as_slice.result.now c.args.version ascend) (λ a r q k. search rules)))
