-- There are no more texts than bytes.
use Rattle.std.proofs.Common.{ℕ, ◌+◌, ◌≤◌, List, [], ◌∷◌, Bool, true, false, eqb, nat_lt, cond, map, flat_map, length, length-append, Ok, Err, arith}
use Rattle.vf_io.specs.Pieces.{lead, pieces_of}
use Rattle.vf_text.specs.Blanks.{is_blank_text}
use Rattle.cl_lines.specs.Comments.{without_comment, is_continued, record_part}
use Rattle.vf_text.specs.Lines.{line_of, lines_of}
use Rattle.cl_lines.specs.Texts.{Joined, Numbered, lead_text, joined_from, text_of, texts_of}
use Rattle.cl_lines.specs.declared.fault.ClWhy.TheVariants.{LineLong, DanglingDollar}

few-lead : (b : ℕ) (pieces : List (List ℕ)) → length (lead b pieces) ≤ 1 + length pieces
few-lead b [] = omega arith
few-lead b (piece ∷ pieces) = omega arith

few-pieces : (bytes : List ℕ) → length (pieces_of bytes) ≤ length bytes
few-pieces [] = omega arith
few-pieces (b ∷ bytes) =
    elim (eqb b 10) as (λ t. length (cond t ((b ∷ []) ∷ pieces_of bytes) (lead b (pieces_of bytes))) ≤ length (b ∷ bytes)) [
      | true ↦ omega (arith, few-pieces bytes)
      | false ↦ omega (arith, few-pieces bytes, few-lead b (pieces_of bytes))
    ]

few-mapped : (pieces : List (List ℕ)) → length (map line_of pieces) ≤ length pieces
few-mapped [] = omega arith
few-mapped (piece ∷ pieces) = omega (arith, few-mapped pieces)

few-lead_text : (number : ℕ) (bytes : List ℕ) (texts : List Joined) → length (lead_text number bytes texts) ≤ 1 + length texts
few-lead_text number bytes [] = omega arith
few-lead_text number bytes (text ∷ texts) = omega arith

few-joined : (number : ℕ) (lines : List (List ℕ)) → length (joined_from number lines) ≤ length lines
few-joined number [] = omega arith
few-joined number (line ∷ lines) =
    let part = record_part (without_comment line) in
    let rest = joined_from (number + 1) lines in
    elim (is_continued (without_comment line)) as (λ t. length (cond t (lead_text number part rest) (record { line = number; bytes = part; dangling = false } ∷ rest)) ≤ length (line ∷ lines)) [
      | true ↦ omega (arith, few-joined (number + 1) lines, few-lead_text number part rest)
      | false ↦ omega (arith, few-joined (number + 1) lines)
    ]

few-blank : (line : ℕ) (bytes : List ℕ) (blank : Bool) → length (cond {A = List (Numbered (List ℕ))} blank [] ((line, Ok bytes) ∷ [])) ≤ 1
few-blank line bytes true = omega arith
few-blank line bytes false = omega arith

few-dangling : (line : ℕ) (bytes : List ℕ) (dangling blank : Bool) → length (cond {A = List (Numbered (List ℕ))} dangling ((line, Err DanglingDollar) ∷ []) (cond blank [] ((line, Ok bytes) ∷ []))) ≤ 1
few-dangling line bytes true blank = omega arith
few-dangling line bytes false blank = few-blank line bytes blank

few-text : (line : ℕ) (bytes : List ℕ) (long dangling blank : Bool) → length (cond {A = List (Numbered (List ℕ))} long ((line, Err LineLong) ∷ []) (cond dangling ((line, Err DanglingDollar) ∷ []) (cond blank [] ((line, Ok bytes) ∷ [])))) ≤ 1
few-text line bytes true dangling blank = omega arith
few-text line bytes false dangling blank = few-dangling line bytes dangling blank

few-texts : (texts : List Joined) → length (flat_map text_of texts) ≤ length texts
few-texts [] = omega arith
few-texts (text ∷ texts) = omega (arith, few-texts texts, few-text text.line text.bytes (nat_lt 4096 (length text.bytes)) text.dangling (is_blank_text text.bytes), length-append (text_of text) (flat_map text_of texts))

pub texts_of-few : (bytes : List ℕ) → length (texts_of bytes) ≤ length bytes
texts_of-few bytes = omega (arith, few-texts (joined_from 1 (lines_of bytes)), few-joined 1 (lines_of bytes), few-mapped (pieces_of bytes), few-pieces bytes)
