-- A change is noted exactly where one of the two words isn't 0.
use Rattle.std.proofs.Common.{◌≡◌, ℕ, ◌==◌, ◌&&◌, false, [], ◌∷◌, ◌++◌, refl, sym, ap, ap₂, ◌∙◌, append-nil, eq-eqb, ne_eqb}
use Rattle.dexel_rays.specs.declared.word_sets.WordDelta.{WordDelta}
use Rattle.strip_marks.specs.Words.{noted}
use Rattle.strip_marks.proofs.word.note.Goals as goal
use Rattle.strip_marks.proofs.word.note.Goals.{else-delta-eq0-via-then-delta-eq0+else-delta-eq0-2, else-delta-eq0-via-else-delta-eq0}

some_noted : (n k : ℕ) (d : WordDelta) → (d.sure == 0 && d.possible == 0) ≡ false
    → noted n k d ≡ record { ray = n; word = k; sure = d.sure; possible = d.possible } ∷ []
some_noted n k d some = rw some refl

pub returns-then-delta-eq0-2 : goal.returns-then-delta-eq0-2
returns-then-delta-eq0-2 c = rw (c.if-delta-eq0.true, c.if-delta-eq0-2.true) (sym (append-nil c.args.changes.now.items))

pub returns : goal.returns
returns c =
    let d = c.args.delta.now in
    let some : (d.sure == 0 && d.possible == 0) ≡ false =
    elim c.else-delta-eq0.branch [
      | else-delta-eq0-via-then-delta-eq0+else-delta-eq0-2 w ↦
          ap₂ (λ x y. x && y) (eq-eqb d.sure 0 w.if-delta-eq0.true) (ne_eqb d.possible 0 w.if-delta-eq0-2.false)
      | else-delta-eq0-via-else-delta-eq0 w ↦ ap (λ x. x && d.possible == 0) (ne_eqb d.sure 0 w.if-delta-eq0.false)
    ] in
    c.in_ok-push.ensures.items ∙ ap (λ more. c.args.changes.now.items ++ more) (sym (some_noted c.args.ray c.args.word d some))
