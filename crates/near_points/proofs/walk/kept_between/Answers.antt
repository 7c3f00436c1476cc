use Rattle.std.proofs.Common.{◌≤◌, ◌<◌, ◌+◌, inl, pos, arith, sym, ⊎_elim, ◌∙◌}
use Rattle.std.proofs.lemmas.Bool.{cases_lt, true≢false}
use Rattle.near_points.proofs.Between.{held_amid}
use Rattle.near_points.proofs.Passing.{unheld_or_out}
use Rattle.near_points.proofs.Told.{unheld_beyond, unheld_wide}
use Rattle.near_points.proofs.Trimming.{in_none, in_range_by, in_range_ends}
use Rattle.near_points.proofs.walk.kept_between.Goals as goal

pub are_all_beyond-requires-clause-from : goal.are_all_beyond-requires-clause-from
are_all_beyond-requires-clause-from c = c.requires.fits c.args.l (omega arith) c.requires.order

pub are_all_beyond-requires-clause-to : goal.are_all_beyond-requires-clause-to
are_all_beyond-requires-clause-to c = c.requires.fits c.args.m c.requires.order (omega arith)

pub are_all_wide-requires-clause-from : goal.are_all_wide-requires-clause-from
are_all_wide-requires-clause-from c = c.requires.fits c.args.l (omega arith) c.requires.order

pub are_all_wide-requires-clause-to : goal.are_all_wide-requires-clause-to
are_all_wide-requires-clause-to c = c.requires.fits c.args.m c.requires.order (omega arith)

-- of no points none is held
pub returns-then-are_all_beyond-clause-held : goal.returns-then-are_all_beyond-clause-held
returns-then-are_all_beyond-clause-held c = λ x first last yes. absurd (true≢false (sym yes ∙ in_none x c.args.l))

pub returns-then-are_all_wide-clause-held : goal.returns-then-are_all_wide-clause-held
returns-then-are_all_wide-clause-held c = λ x first last yes. absurd (true≢false (sym yes ∙ in_none x c.args.l))

pub returns-then-m-bottom-clause-held : goal.returns-then-m-bottom-clause-held
returns-then-m-bottom-clause-held c = λ x first last yes. absurd (true≢false (sym yes ∙ in_none x c.args.l))

pub returns-then-top-from-clause-held : goal.returns-then-top-from-clause-held
returns-then-top-from-clause-held c = λ x first last yes. absurd (true≢false (sym yes ∙ in_none x c.args.l))

pub returns-then-are_all_beyond-clause-out : goal.returns-then-are_all_beyond-clause-out
returns-then-are_all_beyond-clause-out c = λ x first last no. inl (c.are_all_beyond.ensures c.if-are_all_beyond.true x first last)

pub returns-then-are_all_wide-clause-out : goal.returns-then-are_all_wide-clause-out
returns-then-are_all_wide-clause-out c = λ x first last no.
    inl (unheld_wide c.args.test.now c.args.first.now c.args.step.now (pos x) (c.are_all_wide.ensures.wide c.if-are_all_wide.true x first last))

pub returns-then-m-bottom-clause-out : goal.returns-then-m-bottom-clause-out
returns-then-m-bottom-clause-out c = λ x first last no.
    let none = c.if-m-bottom.true in
    inl (unheld_beyond c.args.test.now c.args.first.now c.args.step.now (pos x) (c.first_amid-bottom.ensures.ahead x first (omega (arith, last, none))))

pub first_amid-bottom-requires-clause-fits : goal.first_amid-bottom-requires-clause-fits
first_amid-bottom-requires-clause-fits c = c.requires.fits

pub last_amid-top-requires-clause-amid : goal.last_amid-top-requires-clause-amid
last_amid-top-requires-clause-amid c = let some = c.if-m-bottom.false in c.first_amid-bottom.ensures.there (omega (arith, some))

pub last_kept-to-requires-clause-narrow : goal.last_kept-to-requires-clause-narrow
last_kept-to-requires-clause-narrow c = let some = c.if-top-from.false in c.first_kept-from.ensures.there (omega (arith, some))

pub returns-then-top-from-clause-out : goal.returns-then-top-from-clause-out
returns-then-top-from-clause-out c = λ x first last no.
    let test = c.args.test.now in let bands = c.args.bands.now in let s = c.args.first.now in let t = c.args.step.now in
    let bottom = c.first_amid-bottom in let top = c.last_amid-top in let from = c.first_kept-from in
    ⊎_elim (λ (low : x < bottom.result). inl (unheld_beyond test s t (pos x) (bottom.ensures.ahead x first low)))
    (λ (on : bottom.result ≤ x).
    ⊎_elim (λ (high : top.result < x). inl (unheld_beyond test s t (pos x) (top.ensures.behind x high last)))
    (λ (within : x ≤ top.result).
    unheld_or_out test bands s t (pos x) (from.ensures.ahead x on within (omega (arith, within, c.if-top-from.true))))
    (cases_lt top.result x)) (cases_lt x bottom.result)

pub returns-clause-held : goal.returns-clause-held
returns-clause-held c = λ x first last yes.
    let bottom = c.first_amid-bottom in let top = c.last_amid-top in let from = c.first_kept-from in let to = c.last_kept-to in
    let ends = in_range_ends x from.result (to.result + 1) yes in
    held_amid c.args.test.now c.args.first.now c.args.step.now bottom.result from.result x to.result top.result from.ensures.from ends.0
    (omega (arith, ends.1)) to.ensures.to (bottom.ensures.there (omega (arith, c.if-m-bottom.false))) top.ensures.there
    (from.ensures.there (omega (arith, c.if-top-from.false))) to.ensures.there

pub returns-clause-out : goal.returns-clause-out
returns-clause-out c = λ x first last no.
    let test = c.args.test.now in let bands = c.args.bands.now in let s = c.args.first.now in let t = c.args.step.now in
    let bottom = c.first_amid-bottom in let top = c.last_amid-top in let from = c.first_kept-from in let to = c.last_kept-to in
    ⊎_elim (λ (low : x < bottom.result). inl (unheld_beyond test s t (pos x) (bottom.ensures.ahead x first low)))
    (λ (on : bottom.result ≤ x).
    ⊎_elim (λ (high : top.result < x). inl (unheld_beyond test s t (pos x) (top.ensures.behind x high last)))
    (λ (within : x ≤ top.result).
    ⊎_elim (λ (before : x < from.result). unheld_or_out test bands s t (pos x) (from.ensures.ahead x on within before))
    (λ (after : from.result ≤ x).
    ⊎_elim (λ (behind : to.result < x). unheld_or_out test bands s t (pos x) (to.ensures.behind x behind within))
    (λ (inside : x ≤ to.result). let yes = in_range_by x from.result (to.result + 1) after (omega (arith, inside)) in absurd (cc))
    (cases_lt to.result x)) (cases_lt x from.result)) (cases_lt top.result x)) (cases_lt x bottom.result)
