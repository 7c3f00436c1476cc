-- The strip that is given out is the one that is seen.
use Rattle.std.proofs.Common.{◌∙◌, ap, sym}
use Rattle.strip_journal.specs.Strips.{StripOf}
use Rattle.turn_core.proofs.Seen.{seen_as_it_is}
use Rattle.turn_core.proofs.ahead.AheadStrip.into_strip.Goals as goal

pub returns-then-done : goal.returns-then-done
returns-then-done c =
    let seen = ap (λ (s : StripOf). s.done) c.self.view_is ∙ sym c.requires.done in
    seen_as_it_is c.self.inside.strip c.args.self c.self.inside.seen.value c.self.view_is (seen ∙ (c.if-done.true ∙ c.done.ensures.done))
