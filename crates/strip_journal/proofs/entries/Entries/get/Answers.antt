use Rattle.std.proofs.Common.{List, ap, arith, length}
use Rattle.strip_journal.specs.Entries.{EntryList}
use Rattle.strip_journal.proofs.KeptHits.{seen_within}
use Rattle.strip_journal.proofs.entries.Entries.get.Goals as goal

pub hits_at-requires : goal.hits_at-requires
hits_at-requires c =
    let own = c.self.inside in
    let seen = ap (λ (e : EntryList). e.items) c.self.view_is in
    let within =
    seen_within own.hits.items own.kept.items c.args.self.now.items seen c.args.place c.index-kept.result.now c.self.invariant c.requires
    c.index-kept.ensures in
    let list = ap (λ (l : List _). length l) c.as_slice.ensures.value in omega (arith, within, list)
