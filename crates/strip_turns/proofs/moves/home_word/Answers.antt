use Rattle.std.proofs.Common.{◌+◌, ◌*◌, ◌^◌, ap}
use Rattle.strip_turns.proofs.moves.home_word.Goals as goal

pub returns : goal.returns
returns c = ap (λ n. (n + 1) * 2 ^ 40) c.from.ensures
