-- Lines joined one by one.
use Rattle.std.proofs.Common.{◌≡◌, ℕ, ◌+◌, ◌<◌, ◌++◌, ◌∙◌, ◌≤◌, ◌⊎◌, inl, inr, Bool, List, [], ◌∷◌, length, eqb, cond, Err, flat_map, map, true, false, refl, subst, sym, ap, append_assoc, length-append, arith}
use Rattle.std.proofs.lemmas.Bool.{lt-ltb}
use Rattle.vf_io.specs.Pieces.{lead, pieces_of}
use Rattle.vf_text.specs.Lines.{line_of, lines_of}
use Rattle.cl_lines.specs.Next.{next_of}
use Rattle.cl_lines.specs.Texts.{Joined, lead_text, joined_from, text_of, texts_from, IsTooLong}
use Rattle.cl_lines.specs.declared.fault.ClWhy.TheVariants.{LineLong}
use Rattle.cl_lines.specs.Comments.{without_comment, is_continued, record_part}

-- a line before a line before texts
lead_text-lead_text : (line number : ℕ) (xs ys : List ℕ) (texts : List Joined) → lead_text line xs (lead_text number ys texts) ≡ lead_text line (xs ++ ys) texts
lead_text-lead_text line number xs ys [] = refl
lead_text-lead_text line number xs ys (text ∷ texts) = ap (λ b. record { line = line; bytes = b; dangling = text.dangling } ∷ texts) (sym (append_assoc xs ys text.bytes))

-- a text is at least as long as what leads it
pub lead_text-long : (line : ℕ) (bytes : List ℕ) (texts : List Joined) → 4096 < length bytes → IsTooLong (lead_text line bytes texts)
lead_text-long line bytes [] long = long
lead_text-long line bytes (text ∷ texts) long = omega (arith, length-append bytes text.bytes)

-- the texts of some lines are led by nothing
joined_from-lead : (number : ℕ) (lines : List (List ℕ)) → 0 < length lines → joined_from number lines ≡ lead_text number [] (joined_from number lines)
joined_from-lead number [] some = absurd (omega arith)
joined_from-lead number (line ∷ lines) some =
    let part = record_part (without_comment line) in
    let rest = joined_from (number + 1) lines in
    elim (is_continued (without_comment line)) as (λ t. cond t (lead_text number part rest) (record { line = number; bytes = part; dangling = false } ∷ rest) ≡ lead_text number [] (cond t (lead_text number part rest) (record { line = number; bytes = part; dangling = false } ∷ rest))) [
      | true ↦ sym (lead_text-lead_text number number [] part rest)
      | false ↦ refl
    ]

some-lead : (b : ℕ) (pieces : List (List ℕ)) → 0 < length (map line_of (lead b pieces))
some-lead b [] = omega arith
some-lead b (piece ∷ pieces) = omega arith

some-lines : (bytes : List ℕ) → 0 < length bytes → 0 < length (lines_of bytes)
some-lines [] some = absurd (omega arith)
some-lines (b ∷ bytes) some =
    elim (eqb b 10) as (λ t. 0 < length (map line_of (cond t ((b ∷ []) ∷ pieces_of bytes) (lead b (pieces_of bytes))))) [
      | true ↦ omega arith
      | false ↦ some-lead b (pieces_of bytes)
    ]

-- at the front nothing is joined yet
pub joined_from-start : (number : ℕ) (bytes : List ℕ) → 0 < length bytes → joined_from number (lines_of bytes) ≡ lead_text number [] (joined_from number (lines_of bytes))
joined_from-start number bytes some = joined_from-lead number (lines_of bytes) (some-lines bytes some)

next-head : (text : Joined) (texts : List Joined) → 4096 < length text.bytes → next_of (flat_map text_of (text ∷ texts)) ≡ Err (record { line = text.line; why = LineLong })
next-head text texts long = rw (lt-ltb 4096 (length text.bytes) long) refl

next-lead : (number : ℕ) (bytes : List ℕ) (texts : List Joined) → IsTooLong (lead_text number bytes texts) → next_of (flat_map text_of (lead_text number bytes texts)) ≡ Err (record { line = number; why = LineLong })
next-lead number bytes [] long = next-head (record { line = number; bytes = bytes; dangling = true }) [] long
next-lead number bytes (text ∷ texts) long = next-head (record { line = number; bytes = bytes ++ text.bytes; dangling = text.dangling }) texts long

-- the next text is refused where the first joined lines are too long
pub next-too_long : (number : ℕ) (lines : List (List ℕ)) → IsTooLong (joined_from number lines) → next_of (texts_from number lines) ≡ Err (record { line = number; why = LineLong })
next-too_long number [] long = absurd long
next-too_long number (line ∷ lines) long =
    let part = record_part (without_comment line) in
    let rest = joined_from (number + 1) lines in
    elim (is_continued (without_comment line)) as (λ t. IsTooLong (cond t (lead_text number part rest) (record { line = number; bytes = part; dangling = false } ∷ rest)) → next_of (flat_map text_of (cond t (lead_text number part rest) (record { line = number; bytes = part; dangling = false } ∷ rest))) ≡ Err (record { line = number; why = LineLong })) [
      | true ↦ next-lead number part rest
      | false ↦ next-head (record { line = number; bytes = part; dangling = false }) rest
    ] long

with_line : (line number : ℕ) (room part : List ℕ) (more : Bool) (texts : List Joined)
    → lead_text line room (cond more (lead_text number part texts) (record { line = number; bytes = part; dangling = false } ∷ texts))
    ≡ cond more (lead_text line (room ++ part) texts) (record { line = line; bytes = room ++ part; dangling = false } ∷ texts)
with_line line number room part true texts = lead_text-lead_text line number room part texts
with_line line number room part false texts = refl

-- one more line after those that were joined
pub one_line : (line number : ℕ) (room now rest piece behind text part : List ℕ) (more : Bool) (whole : List Joined)
    → whole ≡ lead_text line room (joined_from number (lines_of rest)) → pieces_of rest ≡ piece ∷ pieces_of behind → text ≡ line_of piece
    → part ≡ record_part (without_comment text) → more ≡ is_continued (without_comment text) → now ≡ room ++ part
    → whole ≡ cond more (lead_text line now (joined_from (number + 1) (lines_of behind))) (record { line = line; bytes = now; dangling = false } ∷ joined_from (number + 1) (lines_of behind))
one_line line number room now rest piece behind text part more whole so_far cut text_is part_is more_is now_is =
    let texts = joined_from (number + 1) (lines_of behind) in
    let own = record_part (without_comment text) in
    so_far
    ∙ ap (λ (ps : List (List ℕ)). lead_text line room (joined_from number (map line_of ps))) cut
    ∙ ap (λ (t : List ℕ). lead_text line room (joined_from number (t ∷ lines_of behind))) (sym text_is)
    ∙ ap (λ (t : Bool). lead_text line room (cond t (lead_text number own texts) (record { line = number; bytes = own; dangling = false } ∷ texts))) (sym more_is)
    ∙ ap (λ (b : List ℕ). lead_text line room (cond more (lead_text number b texts) (record { line = number; bytes = b; dangling = false } ∷ texts))) (sym part_is)
    ∙ with_line line number room part more texts
    ∙ ap (λ (b : List ℕ). cond more (lead_text line b texts) (record { line = line; bytes = b; dangling = false } ∷ texts)) (sym now_is)

-- what comes after a line is shorter than the whole
pub shorter : (bytes rest piece behind : List ℕ) → rest ≡ piece ++ behind → 0 < length piece → (rest ≡ bytes) ⊎ (length rest < length bytes)
    → length behind < length bytes
shorter bytes rest piece behind whole some (inl same) = omega (arith, some, ap length same, ap length whole, length-append piece behind)
shorter bytes rest piece behind whole some (inr less) = omega (arith, some, less, ap length whole, length-append piece behind)

-- and the lines that are left are counted on
pub still_small : (number most : ℕ) (rest piece behind : List ℕ) → rest ≡ piece ++ behind → 0 < length piece → number + length rest ≤ most
    → (number + 1) + length behind ≤ most
still_small number most rest piece behind whole some small = omega (arith, some, small, ap length whole, length-append piece behind)

-- too much was joined already
pub too_long : (line : ℕ) (now : List ℕ) (more : Bool) (texts whole : List Joined)
    → whole ≡ cond more (lead_text line now texts) (record { line = line; bytes = now; dangling = false } ∷ texts) → 4096 < length now → IsTooLong whole
too_long line now true texts whole is long = subst IsTooLong (sym is) (lead_text-long line now texts long)
too_long line now false texts whole is long = subst IsTooLong (sym is) long

-- lines that nothing follows
pub left_dangling : (line number : ℕ) (room rest : List ℕ) (whole : List Joined) → whole ≡ lead_text line room (joined_from number (lines_of rest)) → length rest ≡ 0
    → whole ≡ record { line = line; bytes = room; dangling = true } ∷ joined_from number (lines_of rest)
left_dangling line number room [] whole so_far none = so_far
left_dangling line number room (b ∷ rest) whole so_far none = absurd (omega (arith, none))
