use Rattle.std.proofs.Common.{◌*◌, ◌+◌, ◌∙◌, arith, sym}
use Rattle.std.proofs.lemmas.Bool.{le-leb}
use Rattle.vf_spans.proofs.WordBits.{has_bit-all}
use Rattle.vf_spans.proofs.WordSearch.{first_here, none_here}
use Rattle.vf_spans.proofs.word_list.find_flag.Goals as goal

pub returns-then-bits-ne0 : goal.returns-then-bits-ne0
returns-then-bits-ne0 c =
    first_here c.args.words.now c.args.sought c.args.i c.loop-n.n c.bits_sought.result c.loop-n.mask c.lowest_bit.result
    (record { bits_are = c.bits_sought.ensures; mask_is = c.loop-n.invariant.mask_is; none = c.loop-n.invariant.none })
    c.loop-n-test.true c.lowest_bit.ensures.within c.lowest_bit.ensures.set c.lowest_bit.ensures.lowest

pub loop-n-preserved : goal.loop-n-preserved
loop-n-preserved c =
    let low = c.loop-n.invariant.from in
    record {
      from = omega arith;
      mask_is = λ k lt. has_bit-all k lt ∙ sym (le-leb c.args.i (64 * (c.loop-n.n + 1) + k) (omega arith));
      none =
          none_here c.args.words.now c.args.sought c.args.i c.loop-n.n c.bits_sought.result c.loop-n.mask
          (record { bits_are = c.bits_sought.ensures; mask_is = c.loop-n.invariant.mask_is; none = c.loop-n.invariant.none }) c.if-bits-ne0.false;
    }
