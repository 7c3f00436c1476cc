use Rattle.std.proofs.Common.{◌≡◌, ℕ, ◌+◌, ◌-◌, ◌≤◌, ◌↔◌, List, vec_len, true}
use Rattle.vf_io.proofs.WholeLemmas.{HasRead}
use Rattle.vf_io.proofs.whole_file.read_open.Given as goal

abbrev pub invariant-loop-count : goal.invariant-loop-count
invariant-loop-count g l =
    let shelf = g.S.Shelf in
    record {
      opened : shelf.is_open l.shelf ≡ true;
      read : HasRead (shelf.rest l.fn.shelf) l.bytes.items (shelf.rest l.shelf);
      within : vec_len l.bytes ≤ l.limit;
      later : shelf.faults l.fn.shelf ≤ shelf.faults l.shelf;
      calm : shelf.failures l.shelf ≡ shelf.failures l.fn.shelf;
      files : shelf.files l.shelf ≡ shelf.files l.fn.shelf;
      reads : shelf.reads l.shelf ≤ shelf.reads l.fn.shelf + vec_len l.bytes;
      allows : (n : List ℕ) → shelf.allows l.fn.shelf n ↔ shelf.allows l.shelf n;
    }

abbrev pub decreases-loop-count : goal.decreases-loop-count
decreases-loop-count g l = l.limit - vec_len l.bytes
