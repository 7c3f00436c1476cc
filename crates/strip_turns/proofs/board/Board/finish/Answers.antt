use Rattle.std.proofs.Common.{◌≡◌, length, ap, sym, ◌∙◌, subst}
use Rattle.ray_grid.specs.Strips.{strips_of}
use Rattle.job_model.specs.Tasks.{PlanOf}
use Rattle.strip_turns.specs.Cards.{last}
use Rattle.strip_turns.specs.Passes.{card}
use Rattle.strip_turns.specs.Asks.{AllRaised}
use Rattle.strip_turns.proofs.Asking.{finished}
use Rattle.strip_turns.proofs.board.Board.finish.Goals as goal

pub returns-clause-told : goal.returns-clause-told
returns-clause-told g c =
    let b = c.args.self.now in
    let v = c.args.pass.now.seat.me.0 in
    let u = c.all_raised.new.seat.me.0 in
    let edits : c.edits-last.result ≡ last (card b) = c.edits-last.ensures.count ∙ ap (λ (p : PlanOf). length p.edits) (sym b.card) in
    let raised : AllRaised (card b) (last (card b)) (length (strips_of (card b).plan.grid)) v u =
    subst (λ n. AllRaised (card b) n (length (strips_of (card b).plan.grid)) v u) edits
    (subst (λ (p : PlanOf). AllRaised (card b) c.edits-last.result (length (strips_of p.grid)) v u) (sym b.card)
    c.in_ok-all_raised.ensures.raised) in
    finished (card b) v u c.look.new.seat.me.0 raised (ap (λ m. m.0) c.look.ensures.looked.me) c.look.ensures.looked.alone
