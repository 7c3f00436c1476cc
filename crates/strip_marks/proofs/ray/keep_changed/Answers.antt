use Rattle.std.proofs.Common.{length, refl}
use Rattle.vf_spans.specs.Words.{words_below}
use Rattle.ray_words.specs.Rows.{kept_at}
use Rattle.strip_marks.specs.Marks.{sets_of}
use Rattle.strip_marks.proofs.Lists.{kept_between}
use Rattle.strip_marks.proofs.ray.keep_changed.Goals as goal

pub returns-in_ok-keep_words-clause-kept : goal.returns-in_ok-keep_words-clause-kept
returns-in_ok-keep_words-clause-kept c =
    kept_between (kept_at c.keep_words.new.self c.args.n) c.args.changes.now (words_below (length (sets_of c.args.rays.now c.args.n).stock))
    (length c.args.changes.now) record { ray = 0; word = 0; sure = 0; possible = 0 }
    c.requires.words refl c.in_ok-keep_words.ensures.kept
