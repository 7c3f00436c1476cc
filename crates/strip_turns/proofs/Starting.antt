-- A new board meets the rule.
use Rattle.std.proofs.Common.{◌≡◌, ℕ, zero, suc, ◌<◌, inl, List, [], ◌∷◌, map, length, slice_get, Option, Some, true, arith, refl, sym, ap, ◌∙◌, subst}
use Rattle.std.proofs.lemmas.Bool.Decides.{nat_tests}
use mathlib.Core.Option.{some, some-injective, some-ne-none}
use lib.ListN.{get_elem?}
use Rattle.atomic_table.specs.Table.{opening}
use Rattle.atomic_table.proofs.Lists.{at_map}
use Rattle.strip_journal.specs.Strips.{StripOf}
use Rattle.strip_turns.specs.declared.view.View.{View}
use Rattle.strip_turns.specs.declared.view.BoardStart.{BoardStart}
use Rattle.strip_turns.specs.Log.{once_between}
use Rattle.strip_turns.specs.Cards.{done_of, start_version, last}
use Rattle.strip_turns.specs.Views.{fresh}
use Rattle.strip_turns.specs.Starts.{AreHome, AreWithin}
use Rattle.strip_turns.specs.Sound.{times, once_below, IsDrawn, IsFew, Place, IsSound}

at_one : {A : Type 0} (a b : A) (i : ℕ) → get_elem? (a ∷ []) i ≡ some b → (i ≡ 0) × (a ≡ b)
at_one a b zero e = (refl, some-injective a b e)
at_one a b (suc i) e = absurd (some-ne-none b (sym e))

-- the strip at a place
strip_there : (strips : List StripOf) (k : ℕ) → k < length strips
    → (s : StripOf) × (slice_get strips k ≡ Some s) × (get_elem? strips k ≡ some s)
strip_there [] k lt = absurd (omega arith)
strip_there (s ∷ strips) zero lt = (s, refl, refl)
strip_there (s ∷ strips) (suc k) lt = strip_there strips k (omega arith)

map_len : {A B : Type 0} (f : A → B) (xs : List A) → length (map f xs) ≡ length xs
map_len f [] = refl
map_len f (x ∷ xs) = let e = map_len f xs in omega arith

none_between : (a b x : ℕ) → a ≡ b → 0 ≡ once_between a b x
none_between a b x e = grind (arith, nat_tests)

none_below : (x : ℕ) → 0 ≡ once_below 0 x
none_below x = grind (arith, nat_tests)

place_at : (card : BoardStart) (words : List ℕ) (k : ℕ) → AreHome card.strips (length card.strips) words
    → AreWithin (last card) card.strips (length card.strips) → k < length card.strips
    → Place card (opening words (map Some card.strips) (fresh true 0 (Some card))) k
place_at card words k h few lt =
    let s = strip_there card.strips k lt in
    let e : start_version card k ≡ s.0.done = ap done_of s.1 in
    let within = few.each k s.0 lt s.1 in
    inl (
      s.0,
      record {
        there = at_map some (map Some card.strips) k (Some s.0) (at_map Some card.strips k s.0 s.2);
        of_case = record { put_in = s.1 ∙ ap (λ d. Some (record s.0 { done = d })) (sym e); at = refl; within = within };
        word = h.each k s.0 lt s.1;
        logged = record {
          started = omega arith;
          within = within;
          did = λ x. none_between (start_version card k) s.0.done x e;
          strayed = refl;
          held = refl;
          at = refl;
          misses = refl;
        };
      },
    )

sound_at : (card : BoardStart) (words : List ℕ) → AreHome card.strips (length card.strips) words
    → AreWithin (last card) card.strips (length card.strips)
    → IsSound card (opening words (map Some card.strips) (fresh true 0 (Some card)))
sound_at card words h few =
    let v = fresh true 0 (Some card) in
    let len : length (map some (map Some card.strips)) ≡ length card.strips =
    map_len some (map Some card.strips) ∙ map_len Some card.strips in
    let many = h.many in
    record {
      words = omega arith;
      strips = len;
      roster = record {
        cards = λ seat u at. let t = at_one v u seat at in inl (ap (λ (z : View). z.card) (sym t.1));
        few = λ seat u at. let t = at_one v u seat at in subst IsFew t.1 (record { drawn = omega arith; missed = omega arith });
        first = λ seat u at is.
            let t = at_one v u seat at in
            let e : v.splits ≡ u.splits = ap (λ (z : View). z.splits) t.1 in
            let f : v.out ≡ u.out = ap (λ (z : View). z.out) t.1 in
            record {
              front = t.0;
              splits = omega arith;
              passes = omega arith;
              out = λ n. ap (times n) f;
              once = λ n. (let g = ap (times n) f in omega arith);
              known = λ n lt. absurd (let g = ap (times n) f in omega arith);
            };
        passes = omega arith;
      };
      drawn = subst (λ z. IsDrawn z (v ∷ [])) (sym h.ticket) (record { once = none_below; bounded = omega arith });
      missed = omega arith;
      places = λ k lt. place_at card words k h few (omega arith);
    }

pub starts : (card : BoardStart) (words : List ℕ) (slots : List (Option StripOf)) → AreHome card.strips (length card.strips) words
    → AreWithin (last card) card.strips (length card.strips) → slots ≡ map Some card.strips
    → IsSound card (opening words slots (fresh true 0 (Some card)))
starts card words slots h few s =
    subst (λ z. IsSound card (opening words z (fresh true 0 (Some card)))) (sym s) (sound_at card words h few)
