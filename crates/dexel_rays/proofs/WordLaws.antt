-- The sets of 64 points: taking a delta back, and what a move adds and finds that is tested for no more than what is wanted.
use Rattle.std.proofs.Common.{◌≡◌, ℕ, ◌^◌, ◌<◌, Bool, true, false, not, ◌&&◌, ◌||◌, IsTrue, refl, sym, ap, ap₂, ◌∙◌, ◌⊎◌, ⊎_elim, if◌then◌else◌}
use Rattle.std.specs.List.{range_with_len}
use Rattle.vf_spans.specs.Words.{has_bit}
use Rattle.vf_spans.proofs.WordBits.{same_word}
use Rattle.dexel_rays.specs.declared.word_sets.WordDelta.{WordDelta}
use Rattle.dexel_rays.specs.declared.word_sets.WordSets.{WordSets}
use Rattle.dexel_rays.specs.Findings.{Seen, met, findings, is_removed, is_new_possible, is_part_sure, is_part_possible, is_fixture_sure, is_fixture_possible, is_rapid_sure, is_rapid_possible, is_outside}
use Rattle.dexel_rays.specs.Asked.{is_sure_only, is_wanted, Agree}
use Rattle.dexel_rays.specs.WordSets.{seen_by, seen_bit, IsWordDelta, IsWordWith, IsWordWithout, SureIsPossible}
use Rattle.dexel_rays.proofs.Asked.{agree_met, asked_agree}
use Rattle.dexel_rays.proofs.Laws.{outside_meets_none}
use Rattle.dexel_rays.proofs.WordOnes.{below_same}

same_word_sets : (s s' p p' f f' u u' q q' : ℕ) → s ≡ s' → p ≡ p' → f ≡ f' → u ≡ u' → q ≡ q'
    → let a : WordSets = record { stock = s; part = p; fixture = f; sure = u; possible = q } in
    let b : WordSets = record { stock = s'; part = p'; fixture = f'; sure = u'; possible = q' } in a ≡ b
same_word_sets s s' p p' f f' u u' q q' es ep ef eu eq = cc

-- what was added and not there before is taken away: what was before is left
back_to : (a m b : Bool) → (b || (a && (m && not b))) && not (a && (m && not b)) ≡ b
back_to false true true = refl
back_to false true false = refl
back_to false false true = refl
back_to false false false = refl
back_to true true true = refl
back_to true true false = refl
back_to true false true = refl
back_to true false false = refl

-- a word that was added to and is left without what was new is the word from before
word_again : (stock before marks all new after : ℕ) → before < 2 ^ 64 → after < 2 ^ 64 → ((b : ℕ) → b < 64 → has_bit all b ≡ (has_bit before b || has_bit new b))
    → ((b : ℕ) → b < 64 → has_bit new b ≡ (has_bit stock b && (has_bit marks b && not (has_bit before b))))
    → ((b : ℕ) → b < 64 → has_bit after b ≡ (has_bit all b && not (has_bit new b))) → after ≡ before
word_again stock before marks all new after fits fits' u n w =
    same_word 64 after before fits' fits
    (λ b lt. w b lt
    ∙ ap₂ (λ x y. x && not y) (u b lt ∙ ap (λ x. has_bit before b || x) (n b lt)) (n b lt)
    ∙ back_to (has_bit stock b) (has_bit marks b) (has_bit before b))

-- after `with`, taking a move's delta back gives the same five words
pub word_taken_back : (before all after : WordSets) (sure possible : ℕ) (delta : WordDelta) → before.sure < 2 ^ 64 → before.possible < 2 ^ 64
    → after.sure < 2 ^ 64 → after.possible < 2 ^ 64
    → IsWordWithout all delta after → IsWordDelta before sure possible delta → IsWordWith before delta all → after ≡ before
word_taken_back before all after sure possible delta fs fp gs gp w d u =
    same_word_sets after.stock before.stock after.part before.part after.fixture before.fixture after.sure before.sure after.possible before.possible
    (w.stock ∙ u.stock) (w.part ∙ u.part) (w.fixture ∙ u.fixture)
    (word_again before.stock before.sure sure all.sure delta.sure after.sure fs gs u.all_sure d.new_sure w.left_sure)
    (word_again before.stock before.possible possible all.possible delta.possible after.possible fp gp u.all_possible d.new_possible w.left_possible)

-- points that meet the same rules give the same counts
pub same_findings : (n : ℕ) (see see' : ℕ → Seen) → ((k : ℕ) → k < n → met (see k) ≡ met (see' k)) → findings see (range_with_len 0 n) ≡ findings see' (range_with_len 0 n)
same_findings n see see' same =
    let e0 = below_same n (λ k. is_removed (see k)) (λ k. is_removed (see' k)) (λ k lt. ap (λ m. m.removed) (same k lt)) in
    let e1 = below_same n (λ k. is_new_possible (see k)) (λ k. is_new_possible (see' k)) (λ k lt. ap (λ m. m.possible) (same k lt)) in
    let e2 = below_same n (λ k. is_part_sure (see k)) (λ k. is_part_sure (see' k)) (λ k lt. ap (λ m. m.part_sure) (same k lt)) in
    let e3 = below_same n (λ k. is_part_possible (see k)) (λ k. is_part_possible (see' k)) (λ k lt. ap (λ m. m.part_possible) (same k lt)) in
    let e4 = below_same n (λ k. is_fixture_sure (see k)) (λ k. is_fixture_sure (see' k)) (λ k lt. ap (λ m. m.fix_sure) (same k lt)) in
    let e5 = below_same n (λ k. is_fixture_possible (see k)) (λ k. is_fixture_possible (see' k)) (λ k lt. ap (λ m. m.fix_possible) (same k lt)) in
    let e6 = below_same n (λ k. is_rapid_sure (see k)) (λ k. is_rapid_sure (see' k)) (λ k lt. ap (λ m. m.rapid_sure) (same k lt)) in
    let e7 = below_same n (λ k. is_rapid_possible (see k)) (λ k. is_rapid_possible (see' k)) (λ k lt. ap (λ m. m.rapid_possible) (same k lt)) in
    cc

outside_same : (w : WordSets) (s p s' p' : ℕ → Bool) (rapid : Bool) (b : ℕ) → IsTrue (is_outside (seen_by w s p rapid b)) → met (seen_by w s' p' rapid b) ≡ met (seen_by w s p rapid b)
outside_same w s p s' p' rapid b out =
    let none = outside_meets_none (has_bit w.stock b) (has_bit w.part b) (has_bit w.fixture b) (has_bit w.sure b) (has_bit w.possible b) in
    none (s' b) (p' b) rapid out ∙ sym (none (s b) (p b) rapid out)

-- a move finds the same by marks that agree with its own at each point that isn't outside the bodies
pub agree_found : (w : WordSets) (s p s' p' : ℕ → Bool) (rapid : Bool) → SureIsPossible w
    → ((b : ℕ) → b < 64 → Agree (seen_by w s p rapid b) (s' b) (p' b) ⊎ IsTrue (is_outside (seen_by w s p rapid b)))
    → findings (seen_by w s' p' rapid) (range_with_len 0 64) ≡ findings (seen_by w s p rapid) (range_with_len 0 64)
agree_found w s p s' p' rapid i e =
    same_findings 64 (seen_by w s' p' rapid) (seen_by w s p rapid)
    (λ b lt. ⊎_elim
    (λ (a : Agree (seen_by w s p rapid b) (s' b) (p' b)).
    agree_met (has_bit w.stock b) (has_bit w.part b) (has_bit w.fixture b) (has_bit w.sure b) (has_bit w.possible b) (s b) (p b) (s' b) (p' b) rapid (i b lt) a)
    (outside_same w s p s' p' rapid b) (e b lt))

-- the marks of wanted points, of some of them only for 'sure', agree with all marks
pub asked_word : (w : WordSets) (wanted only sure possible : ℕ) (s p : ℕ → Bool) (rapid : Bool) (b : ℕ)
    → has_bit wanted b ≡ is_wanted (seen_bit w 0 0 false b) → has_bit only b ≡ is_sure_only (seen_bit w 0 0 rapid b)
    → has_bit sure b ≡ (has_bit wanted b && s b) → has_bit possible b ≡ (has_bit wanted b && (if has_bit only b then s b else p b))
    → Agree (seen_by w s p rapid b) (has_bit sure b) (has_bit possible b)
asked_word w wanted only sure possible s p rapid b iw io is ip =
    asked_agree (seen_by w s p rapid b) (has_bit wanted b) (has_bit only b) (has_bit sure b) (has_bit possible b) iw io is ip
