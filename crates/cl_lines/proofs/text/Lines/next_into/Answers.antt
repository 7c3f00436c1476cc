use Rattle.std.proofs.Common.{◌∙◌, ap, sym, subst}
use Rattle.vf_text.specs.Lines.{lines_of}
use Rattle.cl_lines.specs.Next.{next_of}
use Rattle.cl_lines.specs.Texts.{IsTooLong, JoinEnds, joined_from}
use Rattle.cl_lines.proofs.JoinLemmas.{next-too_long}
use Rattle.cl_lines.proofs.text.Lines.next_into.Goals as goal

pub returns-in-Err-TooLong : goal.returns-in-Err-TooLong
returns-in-Err-TooLong c =
    let number = c.loop-self.self-inside.line in
    let lines = lines_of c.loop-self.self-inside.rest.now in
    let long : IsTooLong (joined_from number lines) = subst (JoinEnds (joined_from number lines)) c.in-Err-TooLong.field-0-is c.in-Err-TooLong.ensures.joined in
    let due = next-too_long number lines long in
    rw c.refused.ensures ((ap next_of (sym c.loop-self.invariant.same) ∙ due, c.loop-self.invariant.same))
