-- Two sets with one bound and the same indices are one value, and have one list of edges.
use Rattle.std.proofs.Common.{◌≡◌, ◌≢◌, ◌↔◌, ℕ, ◌%◌, List, [], ◌∷◌, length, Bool, true, false, nat_eq, IsTrue, arith, refl, sym, ap, ap₂, ◌∙◌}
use Rattle.std.specs.Cmp.Lexicographic.{same_text, other_text}
use Rattle.std.proofs.lemmas.List.{ext_get_or}
use Rattle.std.proofs.lemmas.Bool.Decides.{nat_tests}
use lib.Pointwise.{pointwise}
use Rattle.vf_spans.specs.Members.{has, ranges_of, SameIndices}
use Rattle.vf_spans.specs.Edges.{flags_of, AreEdges}
use Rattle.vf_spans.proofs.Flags.{bound_is}
use Rattle.vf_spans.proofs.Ranges.{pairs, ranges-flags}

pub same_sets : (a b : List Bool) → SameIndices a b → a ≡ b
same_sets a b h = ext_get_or false a b h.bound (λ i lt. h.indices i)

pub same_indices : (a b : List Bool) → a ≡ b → SameIndices a b
same_indices a b e = record { bound = ap length e; indices = λ i. ap (λ z. has z i) e }

abbrev first_or : ℕ × ℕ → List (ℕ × ℕ) → ℕ × ℕ
first_or d [] = d
first_or d (r ∷ rs) = r

abbrev rest_of : List (ℕ × ℕ) → List (ℕ × ℕ)
rest_of [] = []
rest_of (r ∷ rs) = rs

unpaired : (es fs : List ℕ) → length es % 2 ≡ 0 → length fs % 2 ≡ 0 → pairs es ≡ pairs fs → es ≡ fs
unpaired [] [] p q e = refl
unpaired [] (f ∷ []) p q e = absurd (omega arith)
unpaired [] (f ∷ g ∷ fs) p q e = cc
unpaired (d ∷ []) fs p q e = absurd (omega arith)
unpaired (d ∷ e' ∷ es) [] p q e = cc
unpaired (d ∷ e' ∷ es) (f ∷ []) p q e = absurd (omega arith)
unpaired (d ∷ e' ∷ es) (f ∷ g ∷ fs) p q e =
    let heads : (d, e') ≡ (f, g) = ap (first_or (d, e')) e in
    let tails : pairs es ≡ pairs fs = ap rest_of e in
    let first : d ≡ f = ap (λ r. r.0) heads in
    let second : e' ≡ g = ap (λ r. r.1) heads in
    let rest = unpaired es fs (omega arith) (omega arith) tails in
    ap (λ n. n ∷ e' ∷ es) first ∙ ap₂ (λ n ns. f ∷ n ∷ ns) second rest

pub same_edges : (b b' : ℕ) (es es' : List ℕ) (v v' : List Bool) → AreEdges b es → AreEdges b' es' → flags_of b es ≡ v → flags_of b' es' ≡ v' → v ≡ v' → (b ≡ b') × (es ≡ es')
same_edges b b' es es' v v' h h' is is' e = (
  bound_is b es v is ∙ ap length e ∙ sym (bound_is b' es' v' is'),
  unpaired es es' h.paired h'.paired (sym (ranges-flags b es h) ∙ ap ranges_of (is ∙ e ∙ sym is') ∙ ranges-flags b' es' h'),
)

pub same_value : (b b' : ℕ) (es es' : List ℕ) (v v' : List Bool) → flags_of b es ≡ v → flags_of b' es' ≡ v' → b ≡ b' → es ≡ es' → v ≡ v'
same_value b b' es es' v v' is is' p q = sym is ∙ ap₂ flags_of p q ∙ is'

pub told : (r : Bool) (xs ys : List ℕ) → r ≡ pointwise nat_eq xs ys → IsTrue r ↔ (xs ≡ ys)
told true xs ys e = (λ _. same_text xs ys e, λ _. refl)
told false xs ys e = (λ t. cc, λ q. absurd (other_text xs ys e q))

pub unequal : (b b' : ℕ) → b ≢ b' → IsTrue (nat_eq b b') → ⊥
unequal b b' ne t = grind (arith, nat_tests)
