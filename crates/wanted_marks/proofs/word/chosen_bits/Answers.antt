use Rattle.std.proofs.Common.{◌<◌, ◌^◌, arith}
use Rattle.wanted_marks.proofs.BitLemmas.{bits_chosen}
use Rattle.wanted_marks.proofs.word.chosen_bits.Goals as goal

pub returns : goal.returns
returns c = λ k below. let fits : c.args.places < 2 ^ 64 = omega arith in bits_chosen c.args.elsewhere c.args.there c.args.places k fits below
