-- One bit more of a word of marks.
use Rattle.std.proofs.Common.{◌≡◌, ℕ, ◌+◌, Bool, true, false, not, ◌&&◌, ◌||◌, eqb, if◌then◌else◌, refl, sym, ap, ◌∙◌}
use Rattle.std.proofs.lemmas.Bool.{eqb-true, and_parts}
use Rattle.vf_spans.specs.Words.{has_bit}

-- w: wanted, r: left to do, e: the bit that is done, t: what is true of it
taken : (w r e t : Bool) → (e ≡ true → w ≡ true) → (((w && not r) && t) || (e && t)) ≡ ((w && not (r && not e)) && t)
taken true true true true h = refl
taken true true true false h = refl
taken true true false true h = refl
taken true true false false h = refl
taken true false true true h = refl
taken true false true false h = refl
taken true false false true h = refl
taken true false false false h = refl
taken false r true t h = let w = h refl in cc
taken false r false t h = refl

same_at : (e t u : Bool) → (e ≡ true → t ≡ u) → (e && t) ≡ (e && u)
same_at true t u h = h refl
same_at false t u h = refl

pub taken_bit : (word wanted left rest : ℕ) (test : ℕ → Bool) (first b k : ℕ) (told : Bool) (marks : ℕ)
    → has_bit word k ≡ ((has_bit wanted k && not (has_bit left k)) && test (first + k))
    → has_bit marks k ≡ (has_bit word k || (eqb k b && told)) → (k ≡ b → told ≡ test (first + b))
    → has_bit rest k ≡ (has_bit left k && not (eqb k b)) → has_bit wanted b ≡ true
    → has_bit marks k ≡ ((has_bit wanted k && not (has_bit rest k)) && test (first + k))
taken_bit word wanted left rest test first b k told marks before now is_told done is_wanted =
    now ∙ ap (λ x. x || (eqb k b && told)) before
    ∙ ap (λ x. ((has_bit wanted k && not (has_bit left k)) && test (first + k)) || x)
    (same_at (eqb k b) told (test (first + k)) (λ e. is_told (eqb-true k b e) ∙ ap (λ i. test (first + i)) (sym (eqb-true k b e))))
    ∙ taken (has_bit wanted k) (has_bit left k) (eqb k b) (test (first + k)) (λ e. ap (has_bit wanted) (eqb-true k b e) ∙ is_wanted)
    ∙ ap (λ x. (has_bit wanted k && not x) && test (first + k)) (sym done)

pub still_wanted : (wanted left rest b k : ℕ) → (has_bit left k ≡ true → has_bit wanted k ≡ true) → has_bit rest k ≡ (has_bit left k && not (eqb k b)) → has_bit rest k ≡ true → has_bit wanted k ≡ true
still_wanted wanted left rest b k before done now = before (and_parts (has_bit left k) (not (eqb k b)) (sym done ∙ now)).0

none_done : (w t : Bool) → false ≡ ((w && not w) && t)
none_done true t = refl
none_done false t = refl

pub none_taken : (none w t : Bool) → none ≡ false → none ≡ ((w && not w) && t)
none_taken none w t e = e ∙ none_done w t

all_done : (w t : Bool) → ((w && not false) && t) ≡ (w && t)
all_done true t = refl
all_done false t = refl

pub all_taken : (word w r t : Bool) → word ≡ ((w && not r) && t) → r ≡ false → word ≡ (w && t)
all_taken word w r t e done = e ∙ ap (λ x. (w && not x) && t) done ∙ all_done w t

pub told_of : (told o s p w sure possible : Bool) → told ≡ (if o then s else p) → s ≡ (w && sure) → (o ≡ false → p ≡ (w && possible)) → told ≡ (w && (if o then sure else possible))
told_of told true s p w sure possible e es ep = e ∙ es
told_of told false s p w sure possible e es ep = e ∙ ep refl

-- where no wanted point is reported
pub none_told : (none w t : Bool) → none ≡ false → (w ≡ true → t ≡ false) → none ≡ (w && t)
none_told none true t e h = e ∙ sym (h refl)
none_told none false t e h = e

pub neither : (o s p : Bool) → s ≡ false → p ≡ false → (if o then s else p) ≡ false
neither true s p es ep = es
neither false s p es ep = ep

-- all that are left are reported
left_taken : (w r t : Bool) → (r ≡ true → w ≡ true) → (r ≡ true → t ≡ true) → (((w && not r) && t) || r) ≡ ((w && not false) && t)
left_taken true true true h k = refl
left_taken true true false h k = let e = k refl in cc
left_taken true false true h k = refl
left_taken true false false h k = refl
left_taken false true t h k = let e = h refl in cc
left_taken false false true h k = refl
left_taken false false false h k = refl

pub rest_taken : (now word wanted left rest : ℕ) (test : ℕ → Bool) (first k : ℕ) → has_bit word k ≡ ((has_bit wanted k && not (has_bit left k)) && test (first + k))
    → has_bit now k ≡ (has_bit word k || has_bit left k) → has_bit rest k ≡ false → (has_bit left k ≡ true → has_bit wanted k ≡ true)
    → (has_bit left k ≡ true → test (first + k) ≡ true) → has_bit now k ≡ ((has_bit wanted k && not (has_bit rest k)) && test (first + k))
rest_taken now word wanted left rest test first k before is none is_wanted is_true =
    is ∙ ap (λ x. x || has_bit left k) before ∙ left_taken (has_bit wanted k) (has_bit left k) (test (first + k)) is_wanted is_true
    ∙ ap (λ x. (has_bit wanted k && not x) && test (first + k)) (sym none)

-- those of a run among what is left are reported
both_true : (e t : Bool) → (e ≡ true → t ≡ true) → e ≡ (e && t)
both_true true t h = sym (h refl)
both_true false t h = refl

pub run_taken : (now word wanted left rest run : ℕ) (test : ℕ → Bool) (first k : ℕ) → has_bit word k ≡ ((has_bit wanted k && not (has_bit left k)) && test (first + k))
    → has_bit now k ≡ (has_bit word k || has_bit run k) → has_bit rest k ≡ (has_bit left k && not (has_bit run k)) → (has_bit run k ≡ true → has_bit wanted k ≡ true)
    → (has_bit run k ≡ true → test (first + k) ≡ true) → has_bit now k ≡ ((has_bit wanted k && not (has_bit rest k)) && test (first + k))
run_taken now word wanted left rest run test first k before is done is_wanted is_true =
    is ∙ ap (λ x. x || has_bit run k) before
    ∙ ap (λ x. ((has_bit wanted k && not (has_bit left k)) && test (first + k)) || x) (both_true (has_bit run k) (test (first + k)) is_true)
    ∙ taken (has_bit wanted k) (has_bit left k) (has_bit run k) (test (first + k)) is_wanted
    ∙ ap (λ x. (has_bit wanted k && not x) && test (first + k)) (sym done)
