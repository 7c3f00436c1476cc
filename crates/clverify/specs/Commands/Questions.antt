-- What `point` is asked, by the words after the file's name.
use Rattle.std.specs.Prelude.{ℕ, ℤ, pos, neg_ℤ, List, [], ◌∷◌, Option, Some, None, codes, if◌then◌else◌}
use Rattle.std.specs.Result.{result_ok}
use Rattle.std.specs.Str.{bytes_eq}
use Rattle.space.specs.Ranges.{metre}
use Rattle.vf_text.specs.Digits.{number_spelt}
use Rattle.cl_lines.specs.Numbers.{length_of}
use Rattle.cl_lines.specs.declared.number.Unit.TheVariants.{Mm}
use Rattle.call_words.specs.Words.{Word, Words, within}
use Rattle.point_marks.specs.Questions.{deepest, most_slabs}
use Rattle.point_marks.specs.declared.question.Question.{Question}

-- how many slabs there are where no words ask for another number
abbrev pub usual_slabs : ℕ
usual_slabs = 16

-- the most digits of a depth and of a number of slabs
abbrev pub most_places : ℕ
most_places = 3

abbrev pub depth_of : Word → Word → Option ℕ
depth_of name word = if bytes_eq name (codes "--depth") then within 0 deepest (number_spelt most_places word) else None

abbrev pub slabs_of : Words → Option ℕ
slabs_of [] = Some usual_slabs
slabs_of (name ∷ word ∷ []) = if bytes_eq name (codes "--slabs") then within 1 most_slabs (number_spelt most_places word) else None
slabs_of _ = None

-- a coordinate: millimetres within a metre of the origin, in whole micrometres
abbrev pub coordinate_of : Word → Option ℤ
coordinate_of word = result_ok (length_of Mm (neg_ℤ (pos metre)) (pos metre) word)

-- a point, where it has all three coordinates
abbrev pub point_by : Option ℤ → Option ℤ → Option ℤ → Option (List ℤ)
point_by (Some x) (Some y) (Some z) = Some (x ∷ y ∷ z ∷ [])
point_by _ _ _ = None

-- a question, where it has all three parts
abbrev pub question_by : Option (List ℤ) → Option ℕ → Option ℕ → Option Question
question_by (Some point) (Some depth) (Some slabs) = Some (record { point = point; depth = depth; slabs = slabs })
question_by _ _ _ = None

-- the question that the words after the file's name ask
abbrev pub question_of : Words → Option Question
question_of (x ∷ y ∷ z ∷ name ∷ depth ∷ words) =
    question_by (point_by (coordinate_of x) (coordinate_of y) (coordinate_of z)) (depth_of name depth) (slabs_of words)
question_of _ = None
