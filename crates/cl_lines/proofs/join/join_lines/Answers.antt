-- Each line goes after those that were joined.
use Rattle.std.proofs.Common.{◌≡◌, ◌+◌, length, length-append, ◌++◌, ◌∙◌, ap, sym, arith, refl, inl, inr, rules}
use Rattle.std.proofs.lemmas.Bool.{eqb-true}
use Rattle.std.proofs.lemmas.Grind.{common_steps}
use Rattle.vf_text.specs.Lines.{lines_of}
use Rattle.cl_lines.specs.Texts.{joined_from, lead_text, most_bytes}
use Rattle.cl_lines.proofs.JoinLemmas.{joined_from-start, left_dangling, one_line, shorter, still_small, too_long}
use Rattle.cl_lines.proofs.join.join_lines.Goals as goal

pub loop-rest-init : goal.loop-rest-init
loop-rest-init c =
    let line = c.args.line in
    let bytes = c.args.bytes.now in
    record {
      same = joined_from-start line bytes c.requires.some ∙ ap (λ b. lead_text line b (joined_from line (lines_of bytes))) (sym c.clear.ensures.items);
      short = omega (arith, c.clear.ensures.len);
      small = c.requires.small;
      less = inl refl;
    }

pub returns-then-not-continued-clause-joined : goal.returns-then-not-continued-clause-joined
returns-then-not-continued-clause-joined c =
    let items : c.extend_from_slice.new.self.items ≡ c.loop-rest.room.items ++ c.split_line_part-continued.result.0.now = search rules in
    let step =
    one_line c.args.line c.loop-rest.number c.loop-rest.room.items c.extend_from_slice.new.self.items c.loop-rest.rest.now c.split_line.result.0.now
    c.split_line.result.1.now c.trim_line_end.result.now c.split_line_part-continued.result.0.now c.split_line_part-continued.result.1
    (joined_from c.args.line (lines_of c.args.bytes.now)) c.loop-rest.invariant.same c.split_line.ensures.first c.trim_line_end.ensures.line
    c.split_line_part-continued.ensures.part c.split_line_part-continued.ensures.continued items in
    rw c.if-not-continued.true at step

pub returns-then-not-continued-clause-less : goal.returns-then-not-continued-clause-less
returns-then-not-continued-clause-less c =
    shorter c.args.bytes.now c.loop-rest.rest.now c.split_line.result.0.now c.split_line.result.1.now c.split_line.ensures.whole c.split_line.ensures.some
    c.loop-rest.invariant.less

pub returns-then-not-continued-clause-small : goal.returns-then-not-continued-clause-small
returns-then-not-continued-clause-small c =
    still_small c.loop-rest.number (most_bytes + 1) c.loop-rest.rest.now c.split_line.result.0.now c.split_line.result.1.now c.split_line.ensures.whole
    c.split_line.ensures.some c.loop-rest.invariant.small

pub loop-rest-preserved : goal.loop-rest-preserved
loop-rest-preserved c =
    let items : c.extend_from_slice.new.self.items ≡ c.loop-rest.room.items ++ c.split_line_part-continued.result.0.now = search rules in
    let step =
    one_line c.args.line c.loop-rest.number c.loop-rest.room.items c.extend_from_slice.new.self.items c.loop-rest.rest.now c.split_line.result.0.now
    c.split_line.result.1.now c.trim_line_end.result.now c.split_line_part-continued.result.0.now c.split_line_part-continued.result.1
    (joined_from c.args.line (lines_of c.args.bytes.now)) c.loop-rest.invariant.same c.split_line.ensures.first c.trim_line_end.ensures.line
    c.split_line_part-continued.ensures.part c.split_line_part-continued.ensures.continued items in
    record {
      same = rw c.if-not-continued.false at step;
      short = grind (arith, common_steps);
      small = still_small c.loop-rest.number (most_bytes + 1) c.loop-rest.rest.now c.split_line.result.0.now c.split_line.result.1.now c.split_line.ensures.whole
          c.split_line.ensures.some c.loop-rest.invariant.small;
      less = inr
          (shorter c.args.bytes.now c.loop-rest.rest.now c.split_line.result.0.now c.split_line.result.1.now c.split_line.ensures.whole c.split_line.ensures.some
          c.loop-rest.invariant.less);
    }

pub returns-then-part-len-clause-joined : goal.returns-then-part-len-clause-joined
returns-then-part-len-clause-joined c =
    let room = c.loop-rest.room.items in
    let part = c.split_line_part-continued.result.0.now in
    let more = c.split_line_part-continued.result.1 in
    let whole = joined_from c.args.line (lines_of c.args.bytes.now) in
    let step =
    one_line c.args.line c.loop-rest.number room (room ++ part) c.loop-rest.rest.now c.split_line.result.0.now
    c.split_line.result.1.now c.trim_line_end.result.now part more whole c.loop-rest.invariant.same c.split_line.ensures.first c.trim_line_end.ensures.line
    c.split_line_part-continued.ensures.part c.split_line_part-continued.ensures.continued refl in
    too_long c.args.line (room ++ part) more (joined_from (c.loop-rest.number + 1) (lines_of c.split_line.result.1.now)) whole step
    (let both = length-append room part in let held = c.len.ensures in let h = c.if-part-len.true in omega (arith, both, held, h))

pub returns-clause-joined : goal.returns-clause-joined
returns-clause-joined c =
    left_dangling c.args.line c.loop-rest.number c.loop-rest.room.items c.loop-rest.rest.now (joined_from c.args.line (lines_of c.args.bytes.now))
    c.loop-rest.invariant.same (eqb-true (length c.loop-rest.rest.now) 0 (sym c.loop-rest-test.ensures))

pub returns-clause-less : goal.returns-clause-less
returns-clause-less c = omega (arith, eqb-true (length c.loop-rest.rest.now) 0 (sym c.loop-rest-test.ensures), c.requires.some)

pub loop-rest-smaller : goal.loop-rest-smaller
loop-rest-smaller c =
    omega (arith, c.split_line.ensures.some, ap length c.split_line.ensures.whole, length-append c.split_line.result.0.now c.split_line.result.1.now)
