-- A strip that is taken, in its slot or out of it, and put back.
use Rattle.std.proofs.Common.{◌≡◌, ℕ, ◌+◌, ◌*◌, ◌^◌, ◌≤◌, List, [], ◌∷◌, Option, Some, None, MatchBool, MatchOption, max, arith, sym, ap, ◌∙◌, subst, eqb, eq-eqb}
use mathlib.Core.Option.{none}
use Rattle.atomic_table.specs.Table.{Me, step, rest}
use Rattle.atomic_table.specs.declared.shared.Seat.{Seat}
use Rattle.edit_plan.specs.Limits.{most_edits}
use Rattle.strip_journal.specs.Strips.{StripOf}
use Rattle.strip_turns.specs.declared.view.View.{View}
use Rattle.strip_turns.specs.declared.view.BoardStart.{BoardStart}
use Rattle.strip_turns.specs.declared.board.Board.{Board}
use Rattle.strip_turns.specs.Views.{with_strip, with_trip}
use Rattle.strip_turns.specs.Log.{logged_version}
use Rattle.strip_turns.specs.Cards.{start_version, last, IsCase}
use Rattle.strip_turns.specs.Plays.{Took, PutsBack}
use Rattle.strip_turns.specs.Sound.{strip_word}
use Rattle.strip_turns.specs.Passes.{card, IsIdleSeat, Holds, TookAt, TookOut, RaisedOut, IsOutWithSeat, IsInSeat, IsBack, Tripped}
use Rattle.strip_turns.specs.Asks.{Raised}
use Rattle.strip_turns.proofs.Taking.{at_true}

heads : {A : Type 0} (a b : A) (xs ys : List A) → a ∷ xs ≡ b ∷ ys → a ≡ b
heads a b xs ys e = cc

-- what lies in the slot k, given twice, is the same
pub same_slot : (k : ℕ) (x y : Option StripOf) (xs ys zs : List (ℕ × Option StripOf)) → zs ≡ (k, x) ∷ xs → zs ≡ (k, y) ∷ ys → x ≡ y
same_slot k x y xs ys zs p q = ap (λ (z : ℕ × Option StripOf). z.1) (heads (k, x) (k, y) xs ys (sym p ∙ q))

pub slot_of : (c : BoardStart) (k found : ℕ) (before after : Me (Option StripOf) View) (t : (j : StripOf) × Took c k found before after j) → (x : Option StripOf) × (after.1 ≡ (k, x) ∷ rest after.1)
slot_of c k found before after t = let e : after.1 ≡ (k, Some t.0) ∷ before.1 = ap (λ m. m.1) t.1.me in (Some t.0, e ∙ ap (λ l. (k, Some t.0) ∷ l) (sym (ap rest e)))

-- what a step on a word says: the strip was taken where the word was as expected, and else nothing happened
abbrev pub ToldOfWord : ℕ → ℕ → ℕ → Seat (Option StripOf) View → Seat (Option StripOf) View → Type 0
ToldOfWord word first found mid held = (c : BoardStart) (k : ℕ) → mid.me.0.card ≡ Some c → word ≡ strip_word k
    → MatchBool (eqb found first) ((s : StripOf) × Took c k found mid.me held.me s) (held.me ≡ mid.me)

-- a step that found the word as expected took the strip, also after a look that changed nothing
pub took_found : (b : Board) (k word first found : ℕ) (old mid held : Seat (Option StripOf) View) → IsIdleSeat b old → mid.me ≡ old.me
    → ToldOfWord word first found mid held → word ≡ strip_word k → found ≡ first → (s : StripOf) × Took (card b) k found mid.me held.me s
took_found b k word first found old mid held idle me told place same =
    at_true _ _ _ (eq-eqb found first same) (told (card b) k (ap (λ m. m.0.card) me ∙ idle.named) place)

-- the strip was taken out as it was, and its word was as found
abbrev pub CameOut : Board → ℕ → ℕ → Seat (Option StripOf) View → Seat (Option StripOf) View → StripOf → Type 0
CameOut b k found old new s = TookOut b k old new s × (found ≡ (s.done + 1) * 2 ^ 40)

-- where something came out for certain it is the strip that is there
pub not_none : (P : StripOf → Type 0) (x : Option StripOf) → x ≡ None → MatchOption x ⊥ P → ⊥
not_none P x is told = subst (λ (y : Option StripOf). MatchOption y ⊥ P) is told

pub the_one : (P : StripOf → Type 0) (x : Option StripOf) (s : StripOf) → x ≡ Some s → MatchOption x ⊥ P → P s
the_one P x s is told = subst (λ (y : Option StripOf). MatchOption y ⊥ P) is told

-- what came out of the slot is the strip that was taken
pub taken_out : (b : Board) (k found : ℕ) (X : Type 0) (old mid new : Seat (Option StripOf) View) (x : Option StripOf) → IsIdleSeat b old
    → ((s : StripOf) × Took (card b) k found old.me mid.me s) → new.table_id ≡ b.table.shared.table_id → mid.me.1 ≡ (k, x) ∷ rest mid.me.1
    → new.me ≡ (mid.me.0, (k, None) ∷ rest mid.me.1) → MatchOption x X (CameOut b k found old new)
taken_out b k found X old mid new x idle t own has me =
    let s = t.0 in
    let e : mid.me.1 ≡ (k, Some s) ∷ old.me.1 = ap (λ m. m.1) t.1.me in
    let f : mid.me.0 ≡ with_strip k s.done old.me.0 = ap (λ m. m.0) t.1.me in
    let is : x ≡ Some s = same_slot k x (Some s) (rest mid.me.1) old.me.1 mid.me.1 has e in
    let none_left : rest mid.me.1 ≡ [] = ap rest e ∙ idle.slots in
    subst (λ y. MatchOption y X (CameOut b k found old new)) (sym is) (
      record {
        out = record { own = own; me = me ∙ (λ i. (f i, (k, None) ∷ none_left i)); seen = t.1.seen };
        of_case = t.1.of_case;
      },
      t.1.word,
    )

-- a strip that was taken lies in its slot, and its word said its version
pub took_at : (b : Board) (k found from : ℕ) (old new : Seat (Option StripOf) View) → IsIdleSeat b old → new.table_id ≡ b.table.shared.table_id
    → last (card b) ≤ most_edits → ((done : ℕ) → done ≤ most_edits → found ≡ (done + 1) * 2 ^ 40 → from ≡ done)
    → ((s : StripOf) × Took (card b) k found old.me new.me s) → TookAt b k from old new
took_at b k found from old new idle own few read t =
    let s = t.0 in (
      s,
      record {
        own = own;
        me = t.1.me ∙ (λ i. (with_strip k s.done old.me.0, (k, Some s) ∷ idle.slots i));
        seen = t.1.seen;
        of_case = t.1.of_case;
      },
      read s.done (let within = t.1.of_case.within in omega arith) t.1.word,
    )

-- the word of a strip that was taken is not below the first version's
pub word_least : (c : BoardStart) (k found : ℕ) (before after : Me (Option StripOf) View) → ((s : StripOf) × Took c k found before after s)
    → 2 ^ 40 ≤ found
word_least c k found before after t = let word = t.1.word in omega arith

-- the strip in the seat's slot went home
pub given_told : (b : Board) (slots k from to word new found : ℕ) (old seat : Seat (Option StripOf) View) (s : StripOf)
    → IsInSeat b k from to old s → new ≡ (to + 1) * 2 ^ 40 → PutsBack (step slots word new 0 none) old.me found seat.me
    → seat.table_id ≡ b.table.shared.table_id → IsBack b k from to old seat
given_told b slots k from to word new found old seat s h value g own =
    let t = g (card b) (record { strip = k; at = from }) to h.named h.held value in
    record {
      own = own;
      met = t.0;
      me = t.1.me ∙ (λ i. (with_trip k from to t.0 old.me.0, ap rest h.slots i));
      seen = t.1.seen;
    }

-- it doesn't matter what lay in the slot
pub back_from : (b : Board) (k from to : ℕ) (old mid seat : Seat (Option StripOf) View) → mid.me.0 ≡ old.me.0
    → IsBack b k from to mid seat → IsBack b k from to old seat
back_from b k from to old mid seat v h = record {
  own = h.own;
  met = h.met;
  me = h.me ∙ (λ i. (with_trip k from to h.met (v i), []));
  seen = h.seen;
}

-- a seat after a step that changed nothing
pub still_idle : (b : Board) (old seat : Seat (Option StripOf) View) → IsIdleSeat b old → seat.table_id ≡ old.table_id
    → seat.me ≡ old.me → IsIdleSeat b seat
still_idle b old seat h own me = record {
  own = own ∙ h.own;
  named = ap (λ m. m.0.card) me ∙ h.named;
  held = ap (λ m. m.0.held) me ∙ h.held;
  slots = ap (λ m. m.1) me ∙ h.slots;
}

pub still_out : (b : Board) (k found : ℕ) (old mid seat : Seat (Option StripOf) View) (x : Option StripOf) (X : Type 0) → mid.me ≡ old.me
    → MatchOption x X (CameOut b k found mid seat)
    → MatchOption x X (CameOut b k found old seat)
still_out b k found old mid seat None X me h = h
still_out b k found old mid seat (Some s) X me h = (
  record {
    out = record {
      own = h.0.out.own;
      me = h.0.out.me ∙ (λ i. (with_strip k s.done (me i).0, (k, None) ∷ []));
      seen = subst (λ (m : Me (Option StripOf) View). logged_version k (start_version (card b) k) m.0.log ≤ s.done) me h.0.out.seen;
    };
    of_case = h.0.of_case;
  },
  h.1,
)

-- so what comes out of the slot after such a step is the strip
pub came_out : (b : Board) (k word first found : ℕ) (old mid held last : Seat (Option StripOf) View) (x : Option StripOf) → IsIdleSeat b old
    → mid.table_id ≡ old.table_id → mid.me ≡ old.me → held.table_id ≡ mid.table_id
    → ToldOfWord word first found mid held → word ≡ strip_word k → found ≡ first → last.table_id ≡ held.table_id
    → held.me.1 ≡ (k, x) ∷ rest held.me.1 → last.me ≡ (held.me.0, (k, None) ∷ rest held.me.1) → MatchOption x ⊥ (CameOut b k found old last)
came_out b k word first found old mid held last x idle own me own-held told place same own-last has out =
    let t = took_found b k word first found old mid held idle me told place same in
    let i = still_idle b old mid idle own me in
    still_out b k found old mid last x ⊥ me (taken_out b k found ⊥ mid held last x i t (own-last ∙ (own-held ∙ i.own)) has out)

-- the strip that was taken out is out
pub is_out : (b : Board) (k from : ℕ) (old seat : Seat (Option StripOf) View) → IsIdleSeat b old → Holds b k from old seat
    → IsOutWithSeat b k from seat
is_out b k from old seat idle h = record {
  own = h.own;
  named = ap (λ m. m.0.card) h.me ∙ idle.named;
  held = ap (λ m. m.0.held) h.me;
  slots = ap (λ m. m.1) h.me;
}

-- out and back makes one trip
pub tripped : (b : Board) (k from to : ℕ) (old mid seat : Seat (Option StripOf) View) → IsIdleSeat b old → Holds b k from old mid
    → IsBack b k from to mid seat → from ≤ to → to ≤ last (card b) → Tripped (card b) k from to old.me.0 seat.me.0
tripped b k from to old mid seat idle h back further within =
    let v : mid.me.0 ≡ with_strip k from old.me.0 = ap (λ m. m.0) h.me in
    record {
      met = back.met;
      view = ap (λ m. m.0) back.me ∙ ap (with_trip k from to back.met) v
          ∙ (λ i. record (with_trip k from to back.met old.me.0) { held = sym idle.held i });
      newer = h.seen;
      further = further;
      within = within;
      seen = back.seen;
    }

-- and the seat holds no strip
pub back_idle : (b : Board) (k from to : ℕ) (old mid seat : Seat (Option StripOf) View) → IsIdleSeat b old → Holds b k from old mid
    → IsBack b k from to mid seat → IsIdleSeat b seat
back_idle b k from to old mid seat idle h back = record {
  own = back.own;
  named = ap (λ m. m.0.card) back.me ∙ ap (λ m. m.0.card) h.me ∙ idle.named;
  held = ap (λ m. m.0.held) back.me;
  slots = ap (λ m. m.1) back.me;
}

-- the strip that was raised may be put back
pub raised_case : (b : Board) (k from version : ℕ) (old seat : Seat (Option StripOf) View) (s : StripOf)
    → RaisedOut b k from version old seat s → IsCase (card b) k s.done s
raised_case b k from version old seat s h = subst (λ n. IsCase (card b) k n s) (sym h.of_case.at) h.of_case

-- and then it was raised
pub raised_told : (b : Board) (k from to version : ℕ) (old mid seat : Seat (Option StripOf) View) (s : StripOf) → IsIdleSeat b old
    → RaisedOut b k from version old mid s → to ≡ max from version → IsBack b k from to mid seat
    → Raised (card b) k version old.me.0 seat.me.0
raised_told b k from to version old mid seat s idle h is back = record {
  at = from;
  trip =
      let there = subst (λ n. IsBack b k from n mid seat) is back in
      tripped b k from (max from version) old mid seat idle h.out there (omega arith) h.of_case.within;
}
