-- Where a comment begins in a line, and whether the line is continued.
use Rattle.std.proofs.Common.{◌≡◌, ℕ, zero, suc, ◌+◌, ◌<◌, ◌++◌, List, [], ◌∷◌, length, get_or, take, drop, Bool, eqb, true, false, ◌&&◌, cond, arith, refl, sym, ap, ◌∙◌, eq-eqb, add-one, append_assoc}
use Rattle.std.proofs.lemmas.Bool.{false_from_ne_true, eqb-true}
use Rattle.std.proofs.lemmas.List.{take_more}
use Rattle.memchr.specs.Find.{Nowhere, Passes, is_byte}
use Rattle.vf_text.specs.Blanks.{is_blank, unless_last_blank, without_last_blanks}
use Rattle.cl_lines.specs.Comments.{without_comment, ends_with, is_continued, record_part}
use Rattle.vf_text.proofs.LineLemmas.{without_last-push}

both : (a b : Bool) → (a && b) ≡ true → (a ≡ true) × (b ≡ true)
both true b holds = (refl, holds)
both false b holds = absurd (cc)

-- two dollar signs begin a comment
pub without_comment-here : (line : List ℕ) (i : ℕ) → i + 1 < length line → get_or line i 0 ≡ 36 → get_or line (i + 1) 0 ≡ 36 → without_comment (drop i line) ≡ []
without_comment-here [] i within first second = absurd (omega arith)
without_comment-here (b ∷ []) zero within first second = absurd (omega arith)
without_comment-here (b ∷ c ∷ bytes) zero within first second = rw (eq-eqb b 36 first, eq-eqb c 36 second) refl
without_comment-here (b ∷ bytes) (suc i) within first second =
    without_comment-here bytes i (omega arith) first (sym (ap (λ k. get_or (b ∷ bytes) k 0) (add-one (suc i)) ∙ ap (λ k. get_or bytes k 0) (sym (add-one i))) ∙ second)

-- another byte stays
without_comment-later : (line : List ℕ) (i : ℕ) → i < length line → (get_or line i 0 ≡ 36 → i + 1 < length line → get_or line (i + 1) 0 ≡ 36 → ⊥) → without_comment (drop i line) ≡ get_or line i 0 ∷ without_comment (drop (i + 1) line)
without_comment-later [] i within none = absurd (omega arith)
without_comment-later (b ∷ []) zero within none = refl
without_comment-later (b ∷ c ∷ bytes) zero within none =
    let other : (eqb b 36 && eqb c 36) ≡ false = false_from_ne_true (eqb b 36 && eqb c 36) (λ holds. let parts = both (eqb b 36) (eqb c 36) holds in none (eqb-true b 36 parts.0) (omega arith) (eqb-true c 36 parts.1)) in
    rw other refl
without_comment-later (b ∷ bytes) (suc i) within none =
    rw (add-one (suc i)) (let later = without_comment-later bytes i (omega arith) (λ first short second. none first (omega arith) (ap (λ k. get_or (b ∷ bytes) k 0) (add-one (suc i)) ∙ ap (λ k. get_or bytes k 0) (sym (add-one i)) ∙ second)) in rw (add-one i) at later)

-- so far no comment has begun
pub without_comment-next : (line : List ℕ) (i : ℕ) → i < length line → (get_or line i 0 ≡ 36 → i + 1 < length line → get_or line (i + 1) 0 ≡ 36 → ⊥) → without_comment line ≡ take i line ++ without_comment (drop i line) → without_comment line ≡ take (i + 1) line ++ without_comment (drop (i + 1) line)
without_comment-next line i within none so_far =
    so_far ∙ ap (λ l. take i line ++ l) (without_comment-later line i within none) ∙ sym (append_assoc (take i line) (get_or line i 0 ∷ []) (without_comment (drop (i + 1) line))) ∙ ap (λ l. l ++ without_comment (drop (i + 1) line)) (sym (take_more line i 0 within))

-- a line without a dollar sign has no comment
pub without_comment-none : (line : List ℕ) → Nowhere (Passes (is_byte 36) line) 0 (length line) → without_comment line ≡ line
without_comment-none [] none = refl
without_comment-none (b ∷ []) none = refl
without_comment-none (b ∷ c ∷ bytes) none =
    let other = false_from_ne_true (eqb b 36) (none 0 (omega arith) (omega arith)) in
    rw (other, without_comment-none (c ∷ bytes) (λ k low high. none (suc k) (omega arith) (omega arith))) refl

ends_with-lead : (b : ℕ) (rest : List ℕ) → eqb b 36 ≡ false → ends_with 36 rest ≡ false → ends_with 36 (unless_last_blank b rest) ≡ false
ends_with-lead b [] other so_far =
    elim (is_blank b) as (λ t. ends_with 36 (cond t [] (b ∷ [])) ≡ false) [
      | true ↦ refl
      | false ↦ other
    ]
ends_with-lead b (c ∷ rest) other so_far = so_far

-- and it isn't continued
pub is_continued-none : (line : List ℕ) → Nowhere (Passes (is_byte 36) line) 0 (length line) → is_continued line ≡ false
is_continued-none [] none = refl
is_continued-none (b ∷ bytes) none =
    ends_with-lead b (without_last_blanks bytes) (false_from_ne_true (eqb b 36) (none 0 (omega arith) (omega arith))) (is_continued-none bytes (λ k low high. none (suc k) (omega arith) (omega arith)))

-- a text with its last byte apart
ends_with-push : (end : ℕ) (front : List ℕ) (last : ℕ) → ends_with end (front ++ last ∷ []) ≡ eqb last end
ends_with-push end [] last = refl
ends_with-push end (b ∷ []) last = refl
ends_with-push end (b ∷ c ∷ front) last = ends_with-push end (c ∷ front) last

-- whether a line is continued, by its last byte that isn't a blank
pub is_continued-last : (line front : List ℕ) (last : ℕ) → without_last_blanks line ≡ front ++ last ∷ [] → is_continued line ≡ eqb last 36
is_continued-last line front last cut = ap (ends_with 36) cut ∙ ends_with-push 36 front last

-- the part of a continued line
pub record_part-continued : (line front : List ℕ) (last : ℕ) → without_last_blanks line ≡ front ++ last ∷ [] → eqb last 36 ≡ true → record_part line ≡ front
record_part-continued line front last cut dollar =
    rw (is_continued-last line front last cut, dollar, cut, without_last-push 36 front last, dollar) refl

-- a line that isn't continued is a part unchanged
pub record_part-whole : (line : List ℕ) → is_continued line ≡ false → record_part line ≡ line
record_part-whole line whole = rw whole refl
