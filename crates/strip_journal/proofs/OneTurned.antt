-- The rays with one change more.
use Rattle.std.proofs.Common.{◌≡◌, ◌≢◌, ℕ, ◌+◌, ◌<◌, Bool, true, false, not, ◌&&◌, ◌||◌, nat_eq, List, [], ◌∷◌, length, get_or, slice_set, take, refl, sym, ap, ◌∙◌, subst, ⊎_elim}
use Rattle.std.proofs.lemmas.Bool.{cases_eq, ne_eqb}
use Rattle.std.proofs.lemmas.List.{get_or-set_other, length-set, take_more}
use Rattle.std.proofs.lemmas.List.Folds.{list_any-append}
use Rattle.vf_spans.specs.Members.{has}
use Rattle.vf_spans.specs.Words.{in_word}
use Rattle.ray_words.specs.Rays.{KeptSets}
use Rattle.ray_words.specs.Rows.{kept_at}
use Rattle.strip_marks.specs.declared.change.WordChange.{WordChange}
use Rattle.strip_marks.specs.Marks.{among, possible_of, sure_of}
use Rattle.strip_journal.specs.Entries.{was}
use Rattle.strip_journal.specs.Packed.{no_change}
use Rattle.strip_journal.specs.Steps.{AreRaysTurned, IsRayTurned}

-- a member after one edit and another, and after none
was_more : (back first then old : Bool) → was back then (was back first old) ≡ was back (first || then) old
was_more true true then true = refl
was_more true true true false = refl
was_more true true false false = refl
was_more true false then true = refl
was_more true false then false = refl
was_more false true true true = refl
was_more false true false true = refl
was_more false true true false = refl
was_more false true false false = refl
was_more false false then true = refl
was_more false false then false = refl

was_still : (back old : Bool) → old ≡ was back false old
was_still true true = refl
was_still true false = refl
was_still false true = refl
was_still false false = refl

-- what is among the changes with one more
among_more : (pick : WordChange → ℕ) (changes : List WordChange) (k n l : ℕ) → k < length changes
    → among pick (take (k + 1) changes) n l ≡ (among pick (take k changes) n l || among pick (get_or changes k no_change ∷ []) n l)
among_more pick changes k n l low =
    ap (λ (c : List WordChange). among pick c n l) (take_more changes k no_change low)
    ∙ list_any-append (λ change. nat_eq change.ray n && in_word change.word (pick change) l) (take k changes) (get_or changes k no_change ∷ [])

-- a change of another ray has none of its indices
among_other : (pick : WordChange → ℕ) (change : WordChange) (n l : ℕ) → change.ray ≢ n → among pick (change ∷ []) n l ≡ false
among_other pick change n l other =
    ap (λ (same : Bool). (same && in_word change.word (pick change) l) || false) (ne_eqb change.ray n other)

member_more : (pick : WordChange → ℕ) (changes : List WordChange) (k n l : ℕ) (back before mid after : Bool) → k < length changes
    → mid ≡ was back (among pick (take k changes) n l) before → after ≡ was back (among pick (get_or changes k no_change ∷ []) n l) mid
    → after ≡ was back (among pick (take (k + 1) changes) n l) before
member_more pick changes k n l back before mid after low first then =
    then
    ∙ ap (was back (among pick (get_or changes k no_change ∷ []) n l)) first
    ∙ was_more back (among pick (take k changes) n l) (among pick (get_or changes k no_change ∷ []) n l) before
    ∙ ap (λ (c : Bool). was back c before) (sym (among_more pick changes k n l low))

-- a ray with one change more
ray_more : (before mid after : KeptSets) (changes : List WordChange) (k n : ℕ) (is_undo : Bool) → k < length changes
    → IsRayTurned before mid (take k changes) n is_undo → IsRayTurned mid after (get_or changes k no_change ∷ []) n is_undo
    → IsRayTurned before after (take (k + 1) changes) n is_undo
ray_more before mid after changes k n is_undo low t one = record {
  stock = one.stock ∙ t.stock;
  part = one.part ∙ t.part;
  fixture = one.fixture ∙ t.fixture;
  sure_bound = one.sure_bound ∙ t.sure_bound;
  possible_bound = one.possible_bound ∙ t.possible_bound;
  sure = λ l. member_more sure_of changes k n l (not is_undo) _ _ _ low (t.sure l) (one.sure l);
  possible = λ l. member_more possible_of changes k n l (not is_undo) _ _ _ low (t.possible l) (one.possible l);
  first = one.first ∙ t.first;
  count = one.count ∙ t.count;
}

-- and a ray of which it is none
ray_still : (ray : KeptSets) (change : WordChange) (n : ℕ) (is_undo : Bool) → change.ray ≢ n
    → IsRayTurned ray ray (change ∷ []) n is_undo
ray_still ray change n is_undo other = record {
  stock = refl;
  part = refl;
  fixture = refl;
  sure_bound = refl;
  possible_bound = refl;
  sure = λ l.
      was_still (not is_undo) (has ray.sets.sure l)
      ∙ ap (λ (c : Bool). was (not is_undo) c (has ray.sets.sure l)) (sym (among_other sure_of change n l other));
  possible = λ l.
      was_still (not is_undo) (has ray.sets.possible l)
      ∙ ap (λ (c : Bool). was (not is_undo) c (has ray.sets.possible l)) (sym (among_other possible_of change n l other));
  first = refl;
  count = refl;
}

pub one_turned : (before mid after : List KeptSets) (changes : List WordChange) (k : ℕ) (is_undo : Bool) → k < length changes
    → AreRaysTurned before mid (take k changes) is_undo
    → after ≡ slice_set mid (get_or changes k no_change).ray (kept_at after (get_or changes k no_change).ray)
    → IsRayTurned (kept_at mid (get_or changes k no_change).ray) (kept_at after (get_or changes k no_change).ray)
    (get_or changes k no_change ∷ []) (get_or changes k no_change).ray is_undo
    → AreRaysTurned before after (take (k + 1) changes) is_undo
one_turned before mid after changes k is_undo low t others one =
    let change = get_or changes k no_change in
    record {
      many = ap length others ∙ length-set mid change.ray (kept_at after change.ray) ∙ t.many;
      each = λ n ray.
          ray_more (kept_at before n) (kept_at mid n) (kept_at after n) changes k n is_undo low (t.each n ray)
          (⊎_elim
          (λ (same : change.ray ≡ n). subst (λ (m : ℕ). IsRayTurned (kept_at mid m) (kept_at after m) (change ∷ []) m is_undo) same one)
          (λ (other : change.ray ≢ n).
          let still : kept_at after n ≡ kept_at mid n =
          ap (λ (rays : List KeptSets). kept_at rays n) others
          ∙ get_or-set_other mid change.ray n (kept_at after change.ray) _ (λ same. other (sym same)) in
          subst (λ (r : KeptSets). IsRayTurned (kept_at mid n) r (change ∷ []) n is_undo) (sym still)
          (ray_still (kept_at mid n) change n is_undo other))
          (cases_eq change.ray n));
    }
