use Rattle.std.proofs.Common.{◌∙◌, ap, sym, arith}
use Rattle.vf_text.specs.Blanks.{without_last_blanks}
use Rattle.vf_text.proofs.BlankLemmas.{without_last_blanks-blank, without_last_blanks-other}
use Rattle.vf_text.proofs.blank.trim_end.Goals as goal

pub returns-then-not-is_blank_byte-clause-text : goal.returns-then-not-is_blank_byte-clause-text
returns-then-not-is_blank_byte-clause-text c =
    let cut = c.in-Some.ensures.cases.0 in
    let whole = ap without_last_blanks cut ∙ without_last_blanks-other c.in-Some.front.now c.in-Some.last.now (sym c.if-not-is_blank_byte.ensures) ∙ sym cut in
    sym whole ∙ c.loop-last.invariant.same

pub loop-last-preserved : goal.loop-last-preserved
loop-last-preserved c =
    let cut = c.in-Some.ensures.cases.0 in
    record {
      same = sym (ap without_last_blanks cut ∙ without_last_blanks-blank c.in-Some.front.now c.in-Some.last.now (sym c.if-not-is_blank_byte.ensures)) ∙ c.loop-last.invariant.same;
      short = omega (arith, c.in-Some.ensures.cases.1, c.loop-last.invariant.short);
    }
