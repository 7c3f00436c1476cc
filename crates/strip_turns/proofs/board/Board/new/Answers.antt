use Rattle.std.proofs.Common.{◌≡◌, ◌∙◌, List, length, arith, refl, ap, sym, subst, Some}
use Rattle.job_model.specs.Tasks.{PlanOf}
use Rattle.strip_journal.specs.Strips.{StripOf}
use Rattle.turn_core.specs.World.{AreOfPlan}
use Rattle.strip_turns.specs.declared.view.BoardStart.{BoardStart}
use Rattle.strip_turns.proofs.board.Board.new.Goals as goal

pub invariant_of-result : goal.invariant_of-result
invariant_of-result c =
    let table = c.in_ok-table.table in
    let e = c.in_ok-table.ensures in
    let card : table.shared.key.plan.value ≡ c.args.plan = ap (λ (k : BoardStart). k.plan) e.card in
    let list : table.shared.key.strips.value.items ≡ c.args.strips.items = ap (λ (k : BoardStart). k.strips) e.card in
    let edits = ap (λ (p : PlanOf). length p.edits) card in
    record {
      words = e.words;
      slots = e.slots ∙ c.requires.many;
      card = card;
      whole =
          subst (λ (p : PlanOf). AreOfPlan p table.shared.key.strips.value.items) (sym card)
          (subst (λ (l : List StripOf). AreOfPlan c.args.plan l) (sym list) c.requires);
      few = omega (arith, edits, c.edits-edits.ensures.count, c.edits-edits.ensures.few);
    }

pub returns : goal.returns
returns c =
    let e = c.in_ok-table.ensures in
    record {
      plan = refl;
      named = e.card;
      pass = record {
        own = e.own;
        named = ap (λ m. m.0.card) e.me ∙ ap Some (sym e.card);
        held = ap (λ m. m.0.held) e.me;
        slots = ap (λ m. m.1) e.me;
      };
      view = ap (λ m. m.0) e.me;
    }
