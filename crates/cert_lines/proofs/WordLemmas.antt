-- Lines without their ends, and words cut off one by one.
use Rattle.std.proofs.Common.{◌≡◌, ℕ, ◌+◌, ◌==◌, List, [], ◌∷◌, ◌++◌, Bool, true, false, not, cond, take, drop, one-add, Some, None, refl, ap, ◌∙◌}
use Rattle.std.specs.List.{prefix_len}
use Rattle.std.specs.Option.{option_map}
use Rattle.vf_io.specs.Pieces.{lead, line_feed}
use Rattle.vf_text.specs.Blanks.{blank_space}
use Rattle.cert_lines.specs.Words.{line_in, words_after, spaced_words}

-- a byte goes to the front of a line, where there is one
line_with : (b : ℕ) (front : List ℕ) (here : Bool) → option_map (λ line. b ∷ line) (cond here (Some front) None) ≡ cond here (Some (b ∷ front)) None
line_with b front true = refl
line_with b front false = refl

-- a piece with its last byte apart
pub line_in-push : (front : List ℕ) (last : ℕ) → line_in (front ++ last ∷ []) ≡ cond (last == line_feed) (Some front) None
line_in-push [] last = refl
line_in-push (b ∷ []) last = line_with b [] (last == line_feed)
line_in-push (b ∷ c ∷ front) last = ap (option_map (λ line. b ∷ line)) (line_in-push (c ∷ front) last) ∙ line_with b (c ∷ front) (last == line_feed)

abbrev word_bytes : List ℕ → ℕ
word_bytes text = prefix_len (λ b. not (b == blank_space)) text

-- a line is a word and what follows it
pub spaced_words-cut : (text : List ℕ) → spaced_words text ≡ take (word_bytes text) text ∷ words_after (drop (word_bytes text) text)
spaced_words-cut [] = refl
spaced_words-cut (b ∷ bytes) =
    elim (b == blank_space) as (λ t. cond t ([] ∷ spaced_words bytes) (lead b (spaced_words bytes))
    ≡ take (cond (not t) (1 + word_bytes bytes) 0) (b ∷ bytes) ∷ words_after (drop (cond (not t) (1 + word_bytes bytes) 0) (b ∷ bytes))) [
      | true ↦ refl
      | false ↦ rw one-add (ap (lead b) (spaced_words-cut bytes))
    ]
