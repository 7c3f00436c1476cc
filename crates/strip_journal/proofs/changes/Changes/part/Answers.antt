use Rattle.std.proofs.Common.{sym, ap, ◌∙◌, map, slice_range}
use Rattle.strip_journal.specs.Packed.{KeptChanges, unpacked}
use Rattle.strip_journal.proofs.Packs.{part_of}
use Rattle.strip_journal.proofs.changes.Changes.part.Goals as goal

pub returns : goal.returns
returns c =
    (λ i. map (unpacked (c.as_slice-2.ensures.value i)) (slice_range (c.as_slice.ensures.value i) c.args.from c.args.to))
    ∙ sym (part_of c.self.inside.whole.items c.self.inside.packed.items c.args.from c.args.to)
    ∙ ap (λ (v : KeptChanges). slice_range v.items c.args.from c.args.to) c.self.view_is
