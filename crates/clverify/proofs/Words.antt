-- What the first of some words says of all of them.
use Rattle.std.proofs.Common.{◌≡◌, ℕ, ◌≤◌, List, [], ◌∷◌, map, length, ◌-◌, take, drop, get_or, true, false, Option, Some, None, Result, Ok, Err, ap, arith, refl, String, Global, string_bytes, sym, ◌∙◌}
use Rattle.std.specs.Bool.{◌==◌}
use Rattle.std.specs.String.{string_len}
use Rattle.std.specs.Option.{option_map}
use Rattle.std.proofs.lemmas.List.{take_all}
use Rattle.std.specs.Result.{IfErr}
use Rattle.point_marks.specs.declared.question.Question.{Question}
use Rattle.call_words.specs.Words.{Word, Words, is_name}
use Rattle.clverify.specs.Commands.{mark_moves}
use Rattle.clverify.specs.Commands.Point.{point_words}
use Rattle.clverify.specs.Commands.Questions.{question_of}

-- the words after the first
abbrev pub behind : {X : Type 0} → List X → List X
behind words = take (length words - 1) (drop 1 words)

-- words that have a first one
pub headed : {X : Type 0} (f : X → Word) (words : List X) (word : X) (text : Word) → 1 ≤ length words → word ≡ get_or words 0 word → text ≡ f word
    → map f words ≡ text ∷ map f (behind words)
headed f [] word text some is said = absurd (omega (arith, some))
headed f (a ∷ words) word text some is said =
    ap (λ w. w ∷ map f words) (sym (said ∙ ap f is)) ∙ ap (λ more. text ∷ map f more) (sym (take_all (length (a ∷ words) - 1) words (omega arith)))

-- a word that has a byte is a name
has_byte : (word : Word) → false ≡ (length word == 0) → is_name word ≡ true
has_byte [] empty = let e : false ≡ true = empty in cc
has_byte (a ∷ word) empty = refl

pub has_name : (word : String Global) (text : Word) → text ≡ string_bytes word → false ≡ (string_len word == 0) → is_name text ≡ true
has_name word text said some =
    let long : string_len word ≡ length (string_bytes word) = omega arith in ap is_name said ∙ has_byte (string_bytes word) (some ∙ ap (λ (n : ℕ). n == 0) long)

-- marks that a question asks for, at once and by the file's name and the question
in_pairs : (file : Word) (question : Option Question)
    → option_map (mark_moves file) question ≡ option_map (λ (asked : Word × Question). mark_moves asked.0 asked.1) (option_map (λ asked. (file, asked)) question)
in_pairs file None = refl
in_pairs file (Some question) = refl

-- what the words after `point` ask for, where the first is a name
pub asks_marks : (words : Words) (file : Word) (more : Words) (question : Option Question) → words ≡ file ∷ more → is_name file ≡ true → question ≡ question_of more
    → option_map (mark_moves file) question ≡ option_map (λ asked. mark_moves asked.0 asked.1) (point_words words)
asks_marks words file more question shape named asked =
    rw (shape, named, asked) (in_pairs file (question_of more))

-- what is true of whatever an error holds
pub of_any_error : {A E P : Type 0} (answer : Result A E) → P → IfErr answer (λ _. P)
of_any_error (Ok a) so = tt
of_any_error (Err e) so = so
