-- What a pass learns from a step that it makes.
use Rattle.std.specs.Prelude.{◌≡◌, ℕ, ◌+◌, ◌*◌, ◌%◌, ◌^◌, ◌<◌, ◌≤◌, ◌==◌, ◌∷◌, [], Option, Some, true, MatchBool}
use Rattle.atomic_table.specs.Table.{Me, Step, rest}
use Rattle.strip_journal.specs.Strips.{StripOf}
use Rattle.strip_turns.specs.declared.view.View.{View}
use Rattle.strip_turns.specs.declared.view.BoardStart.{BoardStart}
use Rattle.strip_turns.specs.declared.view.HeldStrip.{HeldStrip}
use Rattle.strip_turns.specs.Log.{tally, drew, logged_version}
use Rattle.strip_turns.specs.Cards.{start_version, IsCase}
use Rattle.strip_turns.specs.Views.{with_draw, with_miss, with_strip, with_trip}
use Rattle.strip_turns.specs.Sound.{once_below, strip_word}

-- the pass is the first, and no other is out
pub record IsAlone (v : View) : Type 0 where
  pub first : v.first ≡ true
  pub out : v.out ≡ []

-- a draw: the ticket is above each that was in the log
pub record Drawn (before : Me (Option StripOf) View) (found : ℕ) (after : Me (Option StripOf) View) : Type 0 where
  pub me : after ≡ (with_draw found before.0, before.1)
  pub above : (x : ℕ) → 0 < tally (drew x) before.0.log → x < found

-- the strip k was taken, whose word was as found
pub record Took (c : BoardStart) (k found : ℕ) (before after : Me (Option StripOf) View) (strip : StripOf) : Type 0 where
  pub me : after ≡ (with_strip k strip.done before.0, (k, Some strip) ∷ before.1)
  pub of_case : IsCase c k strip.done strip
  pub seen : logged_version k (start_version c k) before.0.log ≤ strip.done
  pub word : found ≡ (strip.done + 1) * 2 ^ 40

-- the strip k was out, so another pass is out
pub record Missed (k : ℕ) (before after : Me (Option StripOf) View) : Type 0 where
  pub me : after ≡ (with_miss k before.0, before.1)
  pub beside : IsAlone before.0 → ⊥

-- the word of the strip k had 1 added: the strip was home and was taken, or it was out
abbrev pub TakesOrMisses : Step (Option StripOf) → Me (Option StripOf) View → ℕ → Me (Option StripOf) View → Type 0
TakesOrMisses s before found after = (c : BoardStart) (k : ℕ) → before.0.card ≡ Some c → s.word ≡ strip_word k
    → MatchBool (found % 2 ^ 40 == 0) ((strip : StripOf) × Took c k found before after strip) (Missed k before after)

-- it was taken where its word was as expected, and else nothing happened
abbrev pub TakesOrNot : Step (Option StripOf) → Me (Option StripOf) View → ℕ → Me (Option StripOf) View → Type 0
TakesOrNot s before found after = (c : BoardStart) (k : ℕ) → before.0.card ≡ Some c → s.word ≡ strip_word k
    → MatchBool (found == s.first) ((strip : StripOf) × Took c k found before after strip) (after ≡ before)

-- nothing changed; where the pass is alone, each number below some n is in its log once
pub record Looked (before after : Me (Option StripOf) View) : Type 0 where
  pub me : after ≡ before
  pub alone : IsAlone before.0 → (n : ℕ) × ((x : ℕ) → tally (drew x) before.0.log ≡ once_below n x)

abbrev pub Looks : Step (Option StripOf) → Me (Option StripOf) View → ℕ → Me (Option StripOf) View → Type 0
Looks s before found after = Looked before after

-- the strip that was out went home at `to`, with m misses since it was taken
pub record Gave (c : BoardStart) (h : HeldStrip) (to : ℕ) (before after : Me (Option StripOf) View) (m : ℕ) : Type 0 where
  pub me : after ≡ (with_trip h.strip h.at to m before.0, rest before.1)
  pub seen : logged_version h.strip (start_version c h.strip) after.0.log ≡ to

abbrev pub PutsBack : Step (Option StripOf) → Me (Option StripOf) View → ℕ → Me (Option StripOf) View → Type 0
PutsBack s before found after = (c : BoardStart) (h : HeldStrip) (to : ℕ) → before.0.card ≡ Some c → before.0.held ≡ Some h
    → s.first ≡ (to + 1) * 2 ^ 40 → (m : ℕ) × Gave c h to before after m
