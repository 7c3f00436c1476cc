use Rattle.std.proofs.Common.{Bool, arith, sym, subst, ◌∙◌}
use Rattle.vf_spans.specs.Members.{has}
use Rattle.cert_boxes.specs.Drafts.{AddsCells}
use Rattle.cert_boxes.specs.Holding.{are_slabs_excluded}
use Rattle.cert_boxes.specs.Making.{cells_of_box}
use Rattle.cert_boxes.proofs.Adding.{adds_cell, adds_first, adds_halves, adds_none, adds_nothing, cut_in_range, cut_of, halves_of_cut, if_ok}
use Rattle.cert_boxes.proofs.tree.+add_box.Goals as goal

pub returns-in_default : goal.returns-in_default
returns-in_default t c =
    let a = c.args in let holds = are_slabs_excluded a.sweep.now a.grid.now a.slabs.now in
    λ n few. adds_none (has a.wanted.now) holds a.depth n a.cell a.draft.now (sym c.cut_down.ensures ∙ c.in_default.is) few

pub excludes_all-requires : goal.excludes_all-requires
excludes_all-requires t c =
    let a = c.args in
    record { rising = c.requires.rising; cell = cut_in_range a.grid.now a.depth (has a.wanted.now) a.cell c.in-Some.cut c.requires.depth c.requires.cell (sym c.cut_down.ensures ∙ c.in-Some.is) }

pub returns-then-excludes_all : goal.returns-then-excludes_all
returns-then-excludes_all t c =
    let a = c.args in let holds = are_slabs_excluded a.sweep.now a.grid.now a.slabs.now in
    λ n few. adds_cell (has a.wanted.now) holds a.depth n a.cell c.in-Some.cut a.draft.now c.push.new.self (sym c.cut_down.ensures ∙ c.in-Some.is) (sym c.excludes_all.ensures ∙ c.if-excludes_all.true) c.in_ok-push.ensures few

pub halves_of-requires-clause-some : goal.halves_of-requires-clause-some
halves_of-requires-clause-some t c = let a = c.args in (cut_of (has a.wanted.now) a.cell c.in-Some.cut (sym c.cut_down.ensures ∙ c.in-Some.is)).some

pub halves_of-requires-clause-part : goal.halves_of-requires-clause-part
halves_of-requires-clause-part t c =
    let a = c.args in
    (cut_in_range a.grid.now a.depth (has a.wanted.now) a.cell c.in-Some.cut c.requires.depth c.requires.cell (sym c.cut_down.ensures ∙ c.in-Some.is)).part

pub returns-in_default-halves_of : goal.returns-in_default-halves_of
returns-in_default-halves_of t c =
    let a = c.args in let holds = are_slabs_excluded a.sweep.now a.grid.now a.slabs.now in
    λ n few. adds_nothing (has a.wanted.now) holds a.depth n a.cell c.in-Some.cut a.draft.now a.draft.now (sym c.cut_down.ensures ∙ c.in-Some.is) (sym c.excludes_all.ensures ∙ c.if-excludes_all.false)
    (sym c.halves_of.ensures ∙ c.in_default-halves_of.is) few

pub add_box-requires : goal.add_box-requires
add_box-requires t c =
    let a = c.args in let halves = c.in-Some-halves_of.halves in
    let are = halves_of_cut a.grid.now a.depth (has a.wanted.now) a.cell c.in-Some.cut halves.0 halves.1 c.requires.cell (sym c.cut_down.ensures ∙ c.in-Some.is) (sym c.halves_of.ensures ∙ c.in-Some-halves_of.is) in
    let less = are.first_less in
    (omega (arith, less, c.decreases), (c.requires.rising, (c.requires.depth, are.first)))

pub returns-then-not-is_whole : goal.returns-then-not-is_whole
returns-then-not-is_whole t c =
    let a = c.args in let holds = are_slabs_excluded a.sweep.now a.grid.now a.slabs.now in let halves = c.in-Some-halves_of.halves in
    λ n few. adds_first a.grid.now (has a.wanted.now) holds a.depth n a.cell c.in-Some.cut halves.0 halves.1 a.draft.now c.add_box.new.draft c.requires.cell (sym c.cut_down.ensures ∙ c.in-Some.is)
    (sym c.excludes_all.ensures ∙ c.if-excludes_all.false) (sym c.halves_of.ensures ∙ c.in-Some-halves_of.is)
    (λ k less. subst (λ (b : Bool). AddsCells (cells_of_box (has a.wanted.now) holds a.depth k halves.0) a.draft.now c.add_box.new.draft b) c.if-not-is_whole.true (c.in_ok-is_whole.ensures k less)) few

pub add_box-requires-2 : goal.add_box-requires-2
add_box-requires-2 t c =
    let a = c.args in let halves = c.in-Some-halves_of.halves in
    let are = halves_of_cut a.grid.now a.depth (has a.wanted.now) a.cell c.in-Some.cut halves.0 halves.1 c.requires.cell (sym c.cut_down.ensures ∙ c.in-Some.is) (sym c.halves_of.ensures ∙ c.in-Some-halves_of.is) in
    let less = are.last_less in
    (omega (arith, less, c.decreases), (c.requires.rising, (c.requires.depth, are.last)))

pub returns : goal.returns
returns t c =
    let a = c.args in let holds = are_slabs_excluded a.sweep.now a.grid.now a.slabs.now in let halves = c.in-Some-halves_of.halves in
    if_ok c.add_box-2.result _ _
    (λ whole other n few. adds_halves a.grid.now (has a.wanted.now) holds a.depth n a.cell c.in-Some.cut halves.0 halves.1 a.draft.now c.add_box.new.draft c.add_box-2.new.draft whole c.requires.cell (sym c.cut_down.ensures ∙ c.in-Some.is)
    (sym c.excludes_all.ensures ∙ c.if-excludes_all.false) (sym c.halves_of.ensures ∙ c.in-Some-halves_of.is)
    (λ k less. subst (λ (b : Bool). AddsCells (cells_of_box (has a.wanted.now) holds a.depth k halves.0) a.draft.now c.add_box.new.draft b) c.if-not-is_whole.false (c.in_ok-is_whole.ensures k less))
    other few)
    c.add_box-2.ensures
