use Rattle.std.proofs.Common.{List, ℕ, ◌++◌, codes, append_assoc, ap, sym, ◌∙◌}
use Rattle.std.proofs.lemmas.Result.{IfOk-equal}
use Rattle.input_faults.specs.declared.fault.Fault.{Fault}
use Rattle.report_text.specs.Places.{place_text}
use Rattle.report_text.specs.Refusals.{fault_text}
use Rattle.report_text.specs.ScriptFaults.{depths_text}
use Rattle.report_text.proofs.fault.write_fault.Goals as goal

pub returns-in_ok-text-in-MoveRange : goal.returns-in_ok-text-in-MoveRange
returns-in_ok-text-in-MoveRange c =
    let depths = depths_text c.in-MoveRange.asked c.in-MoveRange.moves in
    IfOk-equal c.write_depths.result c.write_depths.new.page _ _ c.write_depths.ensures
    (ap (λ (text : List ℕ). text ++ depths) c.in_ok-text-in-MoveRange.ensures
    ∙ append_assoc c.args.page.now (codes "cl: MoveRange") depths
    ∙ ap (λ (fault : Fault). c.args.page.now ++ fault_text fault) (sym c.in-MoveRange.is))

pub returns-in_ok-text-in-TurnOutside : goal.returns-in_ok-text-in-TurnOutside
returns-in_ok-text-in-TurnOutside c =
    let place = place_text c.in-TurnOutside.ray c.in-TurnOutside.l in
    IfOk-equal c.write_place.result c.write_place.new.page _ _ c.write_place.ensures
    (ap (λ (text : List ℕ). text ++ place) c.in_ok-text-in-TurnOutside.ensures
    ∙ append_assoc c.args.page.now (codes "stock: TurnOutside") place
    ∙ ap (λ (fault : Fault). c.args.page.now ++ fault_text fault) (sym c.in-TurnOutside.is))
