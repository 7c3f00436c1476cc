use Rattle.std.proofs.Common.{◌∙◌, ◌%◌, sym, ap, arith}
use Rattle.vf_spans.specs.Words.{has_bit}
use Rattle.strip_marks.specs.declared.change.WordChange.{WordChange}
use Rattle.strip_marks.specs.Marks.{possible_of, sure_of}
use Rattle.strip_journal.proofs.Searching.{among_at, among_none}
use Rattle.strip_journal.proofs.finding.changed_at.Goals.{then-change-n-via-then-change-n, then-change-n-via-else-change-n+then-change-word}
use Rattle.strip_journal.proofs.finding.changed_at.Goals as goal

pub returns-then-place-len-clause-sure : goal.returns-then-place-len-clause-sure
returns-then-place-len-clause-sure c =
    sym (among_none sure_of c.args.changes.now c.args.n c.args.l c.place_of-place.result c.requires c.place_of-place.ensures.parted
    (λ low. absurd (omega (arith, low))))

pub returns-then-change-n-clause-sure : goal.returns-then-change-n-clause-sure
returns-then-change-n-clause-sure c =
    sym (among_none sure_of c.args.changes.now c.args.n c.args.l c.place_of-place.result c.requires c.place_of-place.ensures.parted
    (λ low ray word. elim c.then-change-n.branch [
      | then-change-n-via-then-change-n w ↦
          let is = ap (λ (change : WordChange). change.ray) c.get-change.ensures in omega (arith, ray, is)
      | then-change-n-via-else-change-n+then-change-word w ↦
          let is = ap (λ (change : WordChange). change.word) c.get-change.ensures in omega (arith, word, is)
    ]))

pub returns-clause-sure : goal.returns-clause-sure
returns-clause-sure c =
    c.has_bit.ensures
    ∙ ap (λ (change : WordChange). has_bit change.sure (c.args.l % 64)) c.get-change.ensures
    ∙ sym (among_at sure_of c.args.changes.now c.args.n c.args.l c.place_of-place.result c.requires (omega arith)
    (ap (λ (change : WordChange). change.ray) (sym c.get-change.ensures) ∙ c.if-change-n.false)
    (ap (λ (change : WordChange). change.word) (sym c.get-change.ensures) ∙ c.if-change-word.false))

pub returns-then-place-len-clause-possible : goal.returns-then-place-len-clause-possible
returns-then-place-len-clause-possible c =
    sym (among_none possible_of c.args.changes.now c.args.n c.args.l c.place_of-place.result c.requires c.place_of-place.ensures.parted
    (λ low. absurd (omega (arith, low))))

pub returns-then-change-n-clause-possible : goal.returns-then-change-n-clause-possible
returns-then-change-n-clause-possible c =
    sym (among_none possible_of c.args.changes.now c.args.n c.args.l c.place_of-place.result c.requires c.place_of-place.ensures.parted
    (λ low ray word. elim c.then-change-n.branch [
      | then-change-n-via-then-change-n w ↦
          let is = ap (λ (change : WordChange). change.ray) c.get-change.ensures in omega (arith, ray, is)
      | then-change-n-via-else-change-n+then-change-word w ↦
          let is = ap (λ (change : WordChange). change.word) c.get-change.ensures in omega (arith, word, is)
    ]))

pub returns-clause-possible : goal.returns-clause-possible
returns-clause-possible c =
    c.has_bit-2.ensures
    ∙ ap (λ (change : WordChange). has_bit change.possible (c.args.l % 64)) c.get-change.ensures
    ∙ sym (among_at possible_of c.args.changes.now c.args.n c.args.l c.place_of-place.result c.requires (omega arith)
    (ap (λ (change : WordChange). change.ray) (sym c.get-change.ensures) ∙ c.if-change-n.false)
    (ap (λ (change : WordChange). change.word) (sym c.get-change.ensures) ∙ c.if-change-word.false))
