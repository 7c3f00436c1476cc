use Rattle.vf_io.proofs.PieceLemmas.{pieces_of-at, pieces_of-whole}
use Rattle.vf_io.proofs.pieces.split_line.Goals as goal
use Rattle.vf_io.proofs.pieces.split_line.Goals.{in-Some, in-None}

pub returns-clause-first : goal.returns-clause-first
returns-clause-first c =
    rw (c.split_at.ensures.front, c.split_at.ensures.back) (elim c.match-memchr.branch [
      | in-Some w ↦ let found = w.in-Some.ensures in rw w.len-is (pieces_of-at c.args.text.now w.in-Some.place found.0.before found.0.high found.1)
      | in-None w ↦ rw w.len-is (pieces_of-whole c.args.text.now c.requires w.in-None.ensures)
    ])
