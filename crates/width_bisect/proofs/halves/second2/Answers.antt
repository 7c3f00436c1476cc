use mir.Syntax.{w64}
use Rattle.width_bisect.proofs.Shifted.{HalvesInWord, halves_in_word}
use Rattle.width_bisect.proofs.Shifting.{second2_fits}
use Rattle.width_bisect.proofs.halves.second2.Goals as goal

in_word : (c : goal.Start) → HalvesInWord w64 2 c.args.a c.args.b
in_word c =
    let f = second2_fits c.args.a c.args.b c.requires.a c.requires.b in
    halves_in_word w64 2 c.args.a c.args.b c.ranges.a c.ranges.b f.first f.whole f.second

pub overflow_mul-result : goal.overflow_mul-result
overflow_mul-result c = (in_word c).multiple

pub overflow_add-result : goal.overflow_add-result
overflow_add-result c = (in_word c).sum

pub returns : goal.returns
returns c = (in_word c).half
