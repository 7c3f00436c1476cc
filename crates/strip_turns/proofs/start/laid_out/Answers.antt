use Rattle.std.proofs.Common.{◌≡◌, ◌∙◌, List, [], length, true, ap, ap₂, sym, subst, map, Some}
use Rattle.std.proofs.lemmas.List.{length-map}
use Rattle.job_model.specs.Tasks.{PlanOf}
use Rattle.strip_journal.specs.Strips.{StripOf}
use Rattle.strip_turns.specs.Cards.{card_of}
use Rattle.strip_turns.specs.Sound.{strip_word}
use Rattle.strip_turns.specs.Views.{fresh}
use Rattle.strip_turns.specs.Starts.{AreHome, AreWithin, card_with}
use Rattle.strip_turns.proofs.Starting.{starts}
use Rattle.strip_turns.proofs.start.laid_out.Goals as goal

pub new-requires : goal.new-requires
new-requires c =
    let strips : c.of-2.result.value.items ≡ c.args.strips.items = ap (λ v. v.items) c.of-2.ensures in
    let words = subst (λ (l : List StripOf). AreHome l (length l) c.in_ok-words.words.items) (sym strips) c.in_ok-words.ensures.home in
    let within = subst (λ (l : List StripOf). AreWithin (length c.args.plan.now.edits) l (length l)) (sym strips) c.in_ok-words.ensures.within in
    starts (card_of (record { plan = c.of.result; strips = c.of-2.result })) _ _
    (subst (AreHome c.of-2.result.value.items (length c.of-2.result.value.items)) (sym c.as_slice.ensures.value) words)
    (subst (λ (p : PlanOf). AreWithin (length p.edits) c.of-2.result.value.items (length c.of-2.result.value.items)) (sym c.of.ensures) within)
    (c.in_ok-slots.ensures ∙ ap (map Some) (sym strips))

pub returns-in-Ok-clause-slots : goal.returns-in-Ok-clause-slots
returns-in-Ok-clause-slots c = c.in-Ok.ensures.ok.1 ∙ ap length c.in_ok-slots.ensures ∙ length-map c.args.strips.items Some

pub returns-in-Ok-clause-words : goal.returns-in-Ok-clause-words
returns-in-Ok-clause-words c =
    c.in-Ok.ensures.ok.0 ∙ ap length c.as_slice.ensures.value ∙ c.in_ok-words.ensures.home.many ∙ ap strip_word (sym (returns-in-Ok-clause-slots c))

pub returns-in-Ok-clause-card : goal.returns-in-Ok-clause-card
returns-in-Ok-clause-card c = ap card_of c.in-Ok.ensures.ok.5 ∙ ap₂ card_with c.of.ensures (ap (λ v. v.items) c.of-2.ensures)

pub returns-in-Ok-clause-own : goal.returns-in-Ok-clause-own
returns-in-Ok-clause-own c = c.in-Ok.ensures.ok.2

pub returns-in-Ok-clause-me : goal.returns-in-Ok-clause-me
returns-in-Ok-clause-me c =
    c.in-Ok.ensures.ok.4 ∙ ap (λ x. (fresh true 0 (Some x), [])) (ap₂ card_with c.of.ensures (ap (λ v. v.items) c.of-2.ensures))
