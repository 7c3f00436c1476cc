-- It goes back over entry after entry until the next is of an earlier edit.
use Rattle.std.proofs.Common.{◌<◌, ℕ, length, arith, sym, subst}
use Rattle.strip_journal.specs.LookedBack.{IsBackAt}
use Rattle.strip_journal.proofs.BackOver.{can_go, going_end, going_may, going_on, going_start}
use Rattle.strip_journal.proofs.journal.Journal.go_back.Goals as goal

pub returns-then-left-at-clause-back : goal.returns-then-left-at-clause-back
returns-then-left-at-clause-back c =
    subst (λ (k : ℕ). IsBackAt c.args.self.now c.args.from k) (sym c.if-left-at.true) c.requires.back

pub get-edit-requires : goal.get-edit-requires
get-edit-requires c =
    let within = (can_go c.args.self.now c.args.from c.args.at c.requires.back).within in
    let order = c.requires.left in
    let other = c.if-left-at.false in omega (arith, within, order, other)

pub loop-place-init : goal.loop-place-init
loop-place-init c = going_start c.args.self.now c.args.from c.args.at c.args.left c.requires.back c.requires.left

pub edit_at-requires : goal.edit_at-requires
edit_at-requires c = let few = c.loop-place.invariant.back.few in omega (arith, few)

pub back_over-here-requires : goal.back_over-here-requires
back_over-here-requires c =
    going_may c.args.self.now c.loop-place.self c.loop-place.place c.loop-place.here c.args.left c.loop-place.invariant (omega arith)

pub loop-place-preserved : goal.loop-place-preserved
loop-place-preserved c =
    let within = (can_go c.args.self.now c.args.from c.args.at c.requires.back).within in
    let order = c.requires.left in
    let other = c.if-left-at.false in
    let low : c.args.left < length c.args.self.now.line = omega (arith, within, order, other) in
    going_on c.args.self.now c.loop-place.self c.back_over-here.new.self c.loop-place.place c.loop-place.here c.back_over-here.result
    c.args.left c.loop-place.invariant c.back_over-here.ensures.edits c.back_over-here.ensures.back low
    (omega (arith, c.get-edit.ensures, c.edit_at.ensures, c.if-edit_at-edit.true))
    c.back_over-here.ensures.before

pub returns-else-edit_at-edit-clause-back : goal.returns-else-edit_at-edit-clause-back
returns-else-edit_at-edit-clause-back c =
    going_end c.args.self.now c.loop-place.self c.loop-place.place c.loop-place.here c.args.left c.loop-place.invariant
    (λ some. omega (arith, c.get-edit.ensures, c.edit_at.ensures, c.if-edit_at-edit.false))

pub returns-after-loop-place-clause-back : goal.returns-after-loop-place-clause-back
returns-after-loop-place-clause-back c =
    going_end c.args.self.now c.loop-place.self c.loop-place.place c.loop-place.here c.args.left c.loop-place.invariant
    (λ some. absurd (omega (arith, some, c.loop-place-test.false)))
