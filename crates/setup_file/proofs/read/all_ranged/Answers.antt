use Rattle.std.proofs.Common.{◌+◌, All, get_or, pos, take, arith, rules, w64, FitsSigned}
use Rattle.std.proofs.lemmas.Grind.{common_steps}
use Rattle.std.proofs.lemmas.Int.{to_z-of_z}
use Rattle.std.proofs.lemmas.List.{take_more}
use Rattle.std.proofs.lemmas.List.Elements.{All-push}
use Rattle.space.specs.Ranges.{IsBetween}
use Rattle.setup_file.proofs.read.all_ranged.Goals as goal

pub loop-number-preserved : goal.loop-number-preserved
loop-number-preserved c =
    let numbers = c.args.numbers.now in
    let i = c.loop-number.number-index in
    let least : FitsSigned w64 c.args.least = c.ranges.least in
    let most : FitsSigned w64 c.args.most = c.ranges.most in
    let fits : FitsSigned w64 (get_or numbers i (pos 0)) = search rules in
    let before : All (IsBetween c.args.least c.args.most) (take i numbers) = simp to_z-of_z at c.loop-number.invariant.in_range in
    let within : IsBetween c.args.least c.args.most (get_or numbers i (pos 0)) = simp to_z-of_z at c.in_ok-ranged.ensures.within in
    let more : All (IsBetween c.args.least c.args.most) (take (i + 1) numbers) =
    rw (take_more numbers i (pos 0) c.loop-number-test.true) (All-push (IsBetween c.args.least c.args.most) (take i numbers) (get_or numbers i (pos 0)) before within) in
    record {
      so_far = first_of (search rules, grind (arith, common_steps));
      in_range = simp to_z-of_z more;
    }
