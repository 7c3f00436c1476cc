-- The words of a new board are written one after another.
use Rattle.std.proofs.Common.{◌≡◌, ℕ, ◌+◌, ◌*◌, ◌^◌, ◌<◌, ◌≤◌, List, length, set, replicate, slice_get, Some, arith, sym, ap, ◌∙◌, subst}
use Rattle.std.proofs.lemmas.List.{get_or-replicate, get_or-set_same, get_or-set_other}
use Rattle.std.proofs.lemmas.Option.{same_Some}
use Rattle.std.proofs.Math.ListN.{length-set, length-replicate}
use mathlib.Core.Logic.{dite}
use native.Mathlib.Decide.{ℕ_discrete}
use lib.ListN.{get_or}
use Rattle.strip_journal.specs.Strips.{StripOf}
use Rattle.strip_turns.specs.Sound.{strip_word}
use Rattle.strip_turns.specs.Starts.{AreHome, AreWithin}

pub none_home : (strips : List StripOf) (words : List ℕ) (n : ℕ) → words ≡ replicate n 0 → n ≡ strip_word (length strips)
    → AreHome strips 0 words
none_home strips words n e is = record {
  many = ap length e ∙ length-replicate n (let none : ℕ = 0 in none) ∙ is;
  ticket = ap (λ l. get_or l 0 0) e ∙ get_or-replicate n 0 0 0 (omega arith);
  each = λ k s lt at. absurd (omega arith);
}

pub none_within : (edits : ℕ) (strips : List StripOf) → AreWithin edits strips 0
none_within edits strips = record { each = λ k s lt at. absurd (omega arith) }

pub home_more : (strips : List StripOf) (n : ℕ) (words : List ℕ) (s : StripOf) (i new : ℕ) → AreHome strips n words
    → n < length strips → slice_get strips n ≡ Some s → i ≡ strip_word n → new ≡ (s.done + 1) * 2 ^ 40 → AreHome strips (n + 1) (set words i new)
home_more strips n words s i new h lt at is value =
    let many = h.many in
    let here : get_or (set words i new) i 0 ≡ new = get_or-set_same words i new 0 (omega arith) in record {
      many = length-set words i new ∙ h.many;
      ticket = get_or-set_other words i 0 new 0 (λ e. omega arith) ∙ h.ticket;
      each = λ k t below there. dite (ℕ_discrete k n)
          (λ same.
          let strip : s ≡ t = same_Some s t (sym at ∙ ap (slice_get strips) (sym same) ∙ there) in
          ap (λ w. get_or (set words i new) w 0) (ap strip_word same ∙ sym is) ∙ here ∙ value ∙ ap (λ (x : StripOf). (x.done + 1) * 2 ^ 40) strip)
          (λ ne. get_or-set_other words i (strip_word k) new 0 (λ e. ne (omega arith)) ∙ h.each k t (omega arith) there);
    }

pub within_more : (edits : ℕ) (strips : List StripOf) (n : ℕ) (s : StripOf) → AreWithin edits strips n → slice_get strips n ≡ Some s
    → s.done ≤ edits → AreWithin edits strips (n + 1)
within_more edits strips n s h at le = record {
  each = λ k t below there. dite (ℕ_discrete k n)
      (λ same.
      let strip : s ≡ t = same_Some s t (sym at ∙ ap (slice_get strips) (sym same) ∙ there) in
      subst (λ (x : StripOf). x.done ≤ edits) strip le)
      (λ ne. h.each k t (omega arith) there);
}

-- all were
pub all_home : (strips : List StripOf) (n : ℕ) (words : List ℕ) → AreHome strips n words → length strips ≤ n
    → AreHome strips (length strips) words
all_home strips n words h le = record { many = h.many; ticket = h.ticket; each = λ k s lt at. h.each k s (omega arith) at }

pub all_within : (edits : ℕ) (strips : List StripOf) (n : ℕ) → AreWithin edits strips n → length strips ≤ n
    → AreWithin edits strips (length strips)
all_within edits strips n h le = record { each = λ k s lt at. h.each k s (omega arith) at }
