-- With fresh rays and nothing of edits it is a journal of its job.
use Rattle.std.proofs.Common.{◌≤◌, length, arith, refl, subst, sym}
use Rattle.ray_grid.specs.Grids.{GridSize}
use Rattle.ray_grid.specs.Ranges.{IsGrid}
use Rattle.edit_plan.specs.Limits.{most_edits}
use Rattle.ray_shapes.proofs.Kept.{gives_on}
use Rattle.strip_journal.proofs.FreshJournal.{first_journal, first_on}
use Rattle.strip_journal.proofs.strip.Strip.of_draft.Goals as goal

pub invariant_of-result : goal.invariant_of-result
invariant_of-result g c =
    let few : length c.args.draft.now.edits ≤ most_edits = omega (arith, c.edits-edits.ensures.count, c.edits-edits.ensures.few) in
    first_journal _ c.args.draft.now c.args.stock.now.solid.value c.args.part.now.solid.value c.args.fixture.now.solid.value c.of.ensures
    (λ i. (c.of-2.ensures i).value) (λ i. (c.of-3.ensures i).value) (λ i. (c.of-4.ensures i).value) c.moves-moves.ensures.valid
    (subst (λ (grid : GridSize). IsGrid grid) c.grid.ensures c.hold_grid.ensures)
    c.requires.number few c.edits-edits.ensures.named
    (first_on c.args.draft.now.grid c.grid-2.result.now c.args.number c.args.stock.now.solid.value c.args.part.now.solid.value
    c.args.fixture.now.solid.value c.in_ok-rays.rays c.grid-2.ensures c.in_ok-rays.ensures.rays)
    (record {
      of = c.in_ok-rays.ensures.stock;
      changes = c.new-2.ensures;
      entries = c.new-3.ensures;
      line = c.new.ensures;
      at = refl;
      done = refl;
    })

pub fresh_rays-requires-clause-stock : goal.fresh_rays-requires-clause-stock
fresh_rays-requires-clause-stock g c = gives_on g.A.Fn c.args.draft.now.grid c.grid-2.result.now c.args.stock.now (sym c.grid-2.ensures) c.requires.stock

pub fresh_rays-requires-clause-part : goal.fresh_rays-requires-clause-part
fresh_rays-requires-clause-part g c = gives_on g.B.Fn c.args.draft.now.grid c.grid-2.result.now c.args.part.now (sym c.grid-2.ensures) c.requires.part

pub fresh_rays-requires-clause-fixture : goal.fresh_rays-requires-clause-fixture
fresh_rays-requires-clause-fixture g c = gives_on g.C.Fn c.args.draft.now.grid c.grid-2.result.now c.args.fixture.now (sym c.grid-2.ensures) c.requires.fixture

pub returns : goal.returns
returns g c =
    λ i. record {
      job = record { plan = c.of.ensures i; stock = (c.of-2.ensures i).value; part = (c.of-3.ensures i).value; fixture = (c.of-4.ensures i).value };
      number = c.args.number;
      done = 0;
    }
