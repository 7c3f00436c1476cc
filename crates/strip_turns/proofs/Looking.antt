-- A step that changes nothing keeps the rule, and says of a pass that is alone which tickets it has.
use Rattle.std.proofs.Common.{◌≡◌, ℕ, ◌<◌, set, Option, arith, refl, sym, ◌∙◌, subst}
use mathlib.Core.Option.{none}
use lib.ListN.{get_or}
use Rattle.atomic_table.specs.Table.{Me, step, keeps, Allows}
use Rattle.atomic_table.proofs.Lists.{set_again}
use Rattle.strip_journal.specs.Strips.{StripOf}
use Rattle.strip_turns.specs.declared.view.View.{View}
use Rattle.strip_turns.specs.declared.view.BoardStart.{BoardStart}
use Rattle.strip_turns.specs.Log.{tally, drew}
use Rattle.strip_turns.specs.Sound.{IsSound, strip_word}
use Rattle.strip_turns.specs.Plays.{Looks}
use Rattle.strip_turns.proofs.Rosters.{alone}
use Rattle.strip_turns.proofs.Taking.{there}

pub looks : (card : BoardStart) (slots id i : ℕ) (me : Me (Option StripOf) View) → i < strip_word slots → Allows (IsSound card) slots id me i (λ n. n) (Looks (step slots i 0 0 none) me)
looks card slots id i me le s h len at fits =
    let ws : set s.words i (get_or s.words i 0) ≡ s.words = set_again s.words i _ (there s.words i (let q = h.words in omega arith)) in
    let vs : set s.views id me.0 ≡ s.views = set_again s.views id me.0 at in (
      me.0,
      keeps,
      tt,
      subst (λ x. IsSound card (record { words = x; homes = s.homes; views = set s.views id me.0 })) (sym ws) (subst (λ x. IsSound card (record { words = s.words; homes = s.homes; views = x })) (sym vs) h),
      record {
        me = refl;
        alone = λ is. (get_or s.words 0 0, λ x. sym (alone card s.views id me.0 h.roster at is.first is.out (λ u. tally (drew x) u.log) refl) ∙ h.drawn.once x);
      },
    )
