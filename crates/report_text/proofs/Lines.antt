-- Texts and lines, one after another.
use Rattle.std.proofs.Common.{◌≡◌, ℕ, List, [], ◌∷◌, ◌++◌, append_assoc, append-nil, refl, sym, ap, ◌∙◌}
use Rattle.std.proofs.lemmas.List.Concat.{flat_map-append}
use Rattle.vf_text.specs.Pages.{line}
use Rattle.report_text.specs.Verdict.{text_of_lines}

pub three_texts : (page a b c : List ℕ) → ((page ++ a) ++ b) ++ c ≡ page ++ ((a ++ b) ++ c)
three_texts page a b c = simp append_assoc

-- lines after lines
pub more_lines : (page : List ℕ) (xs ys : List (List ℕ)) → (page ++ text_of_lines xs) ++ text_of_lines ys ≡ page ++ text_of_lines (xs ++ ys)
more_lines page xs ys = append_assoc page (text_of_lines xs) (text_of_lines ys) ∙ ap (λ text. page ++ text) (sym (flat_map-append line xs ys))

-- a line after lines that are all of a page
pub one_line : (page a : List ℕ) → page ++ line a ≡ page ++ text_of_lines (a ∷ [])
one_line page a = ap (λ text. page ++ text) (sym (append-nil (line a)))

-- two lines, lines of two lists, and two lines again
pub all_lines : (a b c d : List ℕ) (xs ys : List (List ℕ))
    → ((((line a ++ line b) ++ text_of_lines xs) ++ text_of_lines ys) ++ line c) ++ line d ≡ text_of_lines (a ∷ b ∷ (xs ++ ys ++ c ∷ d ∷ []))
all_lines a b c d xs ys =
    let end : text_of_lines (xs ++ ys ++ c ∷ d ∷ []) ≡ (text_of_lines xs ++ text_of_lines ys) ++ (line c ++ line d) =
    flat_map-append line (xs ++ ys) (c ∷ d ∷ [])
    ∙ ap (λ text. text ++ (line c ++ (line d ++ []))) (flat_map-append line xs ys)
    ∙ ap (λ text. (text_of_lines xs ++ text_of_lines ys) ++ (line c ++ text)) (append-nil (line d)) in
    six_texts (line a) (line b) (text_of_lines xs) (text_of_lines ys) (line c) (line d)
    ∙ ap (λ text. line a ++ (line b ++ text)) (sym end)
  where
    six_texts : (a b c d e f : List ℕ) → ((((a ++ b) ++ c) ++ d) ++ e) ++ f ≡ a ++ (b ++ ((c ++ d) ++ (e ++ f)))
    six_texts a b c d e f = simp append_assoc

pub three_lines : (a b c : List ℕ) → (line a ++ line b) ++ line c ≡ text_of_lines (a ∷ b ∷ c ∷ [])
three_lines a b c = append_assoc (line a) (line b) (line c) ∙ ap (λ text. line a ++ (line b ++ text)) (sym (append-nil (line c)))
