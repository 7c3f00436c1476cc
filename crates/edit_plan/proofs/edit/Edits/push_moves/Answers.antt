use Rattle.std.proofs.Common.{◌≡◌, [], ◌∷◌, ◌++◌, ◌-◌, ap, sym, ◌∙◌, append_assoc, rules}
use Rattle.edit_plan.specs.declared.edit.Edit.TheVariants.{Apply}
use Rattle.edit_plan.specs.Edits.{applied_moves}
use Rattle.edit_plan.proofs.ListLemmas.{applied_more}
use Rattle.edit_plan.proofs.edit.Edits.push_moves.Goals as goal

pub loop-number-preserved : goal.loop-number-preserved
loop-number-preserved c =
    let first = c.args.first in
    let number = c.loop-number.number in
    let pushed : c.push.new.self ≡ c.loop-number.self ++ Apply number ∷ [] = search rules in
    pushed ∙ ap (λ s. s ++ Apply number ∷ []) c.loop-number.invariant ∙ append_assoc c.args.self.now (applied_moves first (number - first)) (Apply number ∷ [])
    ∙ ap (λ more. c.args.self.now ++ more) (sym (applied_more first number c.loop-number.auto.number))
