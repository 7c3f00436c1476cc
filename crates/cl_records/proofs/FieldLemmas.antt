-- Where a field ends, and how many there are.
use Rattle.std.proofs.Common.{◌≡◌, ℕ, zero, suc, ◌+◌, ◌<◌, ◌≤◌, List, [], ◌∷◌, length, take, drop, cond, eqb, get_or, true, false, arith, refl, sym, ap, ◌∙◌, ◌≢◌, add-one, drop-cons, eq-eqb, ne_eqb}
use Rattle.std.proofs.lemmas.Bool.{false_from_ne_true}
use Rattle.vf_io.specs.Pieces.{lead}
use Rattle.memchr.specs.Find.{Nowhere, Passes, is_byte}
use Rattle.cl_records.specs.Parameters.{fields_of}

-- a text whose first comma is at the place n
pub fields_of-at : (bytes : List ℕ) (n : ℕ) → Nowhere (Passes (is_byte 44) bytes) 0 n → n < length bytes → Passes (is_byte 44) bytes n → fields_of bytes ≡ take n bytes ∷ fields_of (drop (n + 1) bytes)
fields_of-at [] n none lt here = absurd (omega arith)
fields_of-at (b ∷ bytes) zero none lt here = rw here refl
fields_of-at (b ∷ bytes) (suc n) none lt here =
    let later = fields_of-at bytes n (λ k low high. none (suc k) (omega arith) (omega arith)) (omega arith) here in
    let other = false_from_ne_true (eqb b 44) (none 0 (omega arith) (omega arith)) in
    rw (other, later, add-one n, add-one (suc n)) refl

-- a text with no comma is one field
pub fields_of-none : (bytes : List ℕ) → Nowhere (Passes (is_byte 44) bytes) 0 (length bytes) → fields_of bytes ≡ bytes ∷ []
fields_of-none [] none = refl
fields_of-none (b ∷ bytes) none =
    let later = fields_of-none bytes (λ k low high. none (suc k) (omega arith) (omega arith)) in
    let other = false_from_ne_true (eqb b 44) (none 0 (omega arith) (omega arith)) in
    rw (other, later) refl

some-lead : (b : ℕ) (fields : List (List ℕ)) → 0 < length (lead b fields)
some-lead b [] = omega arith
some-lead b (field ∷ fields) = omega arith

-- a text has one field at least
pub fields_of-some : (bytes : List ℕ) → 0 < length (fields_of bytes)
fields_of-some [] = omega arith
fields_of-some (b ∷ bytes) =
    elim (eqb b 44) as (λ t. 0 < length (cond t ([] ∷ fields_of bytes) (lead b (fields_of bytes)))) [
      | true ↦ omega arith
      | false ↦ some-lead b (fields_of bytes)
    ]

length-lead : (b : ℕ) (fields : List (List ℕ)) → 0 < length fields → length (lead b fields) ≡ length fields
length-lead b [] some = absurd (omega arith)
length-lead b (field ∷ fields) some = refl

fields_of-comma : (b : ℕ) (bytes : List ℕ) → eqb b 44 ≡ true → length (fields_of (b ∷ bytes)) ≡ length (fields_of bytes) + 1
fields_of-comma b bytes comma = rw comma (omega arith)

fields_of-other : (b : ℕ) (bytes : List ℕ) → eqb b 44 ≡ false → length (fields_of (b ∷ bytes)) ≡ length (fields_of bytes)
fields_of-other b bytes other = rw other (length-lead b (fields_of bytes) (fields_of-some bytes))

-- the commas before the place i and the fields from there on are all the fields
pub record Commas (text : List ℕ) (i commas : ℕ) : Type 0 where
  pub few : commas ≤ i
  pub same : commas + length (fields_of (drop i text)) ≡ length (fields_of text)

cut : (text : List ℕ) (i : ℕ) → i < length text → length (fields_of (drop i text)) ≡ length (fields_of (get_or text i 0 ∷ drop (i + 1) text))
cut text i within = ap (λ l. length (fields_of l)) (drop-cons text i 0 within ∙ ap (λ k. get_or text i 0 ∷ drop k text) (sym (add-one i)))

pub Commas-comma : (text : List ℕ) (i commas : ℕ) → i < length text → get_or text i 0 ≡ 44 → Commas text i commas → Commas text (i + 1) (commas + 1)
Commas-comma text i commas within comma so_far = record {
  few = omega (arith, so_far.few);
  same = omega (arith, so_far.same, cut text i within, fields_of-comma (get_or text i 0) (drop (i + 1) text) (eq-eqb (get_or text i 0) 44 comma));
}

pub Commas-other : (text : List ℕ) (i commas : ℕ) → i < length text → (get_or text i 0 ≢ 44) → Commas text i commas → Commas text (i + 1) commas
Commas-other text i commas within other so_far = record {
  few = omega (arith, so_far.few);
  same = omega (arith, so_far.same, cut text i within, fields_of-other (get_or text i 0) (drop (i + 1) text) (ne_eqb (get_or text i 0) 44 other));
}
