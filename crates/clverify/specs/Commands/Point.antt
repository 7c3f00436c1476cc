-- `point CL X Y Z --depth M [--slabs N]`: the mark of a point against each move of a cutter location file.
use Rattle.std.specs.Prelude.{◌≡◌, ℕ, pos, List, [], ◌∷◌, Option, Some, None, Ok, codes, if◌then◌else◌}
use Rattle.std.specs.Option.{option_map}
use Rattle.axis_cells.specs.declared.mark.Mark.{Mark}
use Rattle.cl_moves.specs.declared.program.Program.{Program}
use Rattle.cl_records.specs.Kinds.{tallest}
use Rattle.report_text.specs.Marking.{marking_of}
use Rattle.input_faults.specs.declared.fault.Fault.TheVariants.{CutterHeight}
use Rattle.vf_io.specs.Files.{Files, bytes_of}
use Rattle.clverify.specs.Commands.Questions.{question_of}
use Rattle.clverify.specs.Reply.{Due, answer_of, refused}
use Rattle.move_cutters.specs.Cutters.{first_low}
use Rattle.job_inputs.specs.Inputs.{read_of}
use Rattle.point_marks.specs.Marks.{AreTrueMarks, marks_for}
use Rattle.call_words.specs.Words.{Word, Words, is_name}
use Rattle.point_marks.specs.declared.question.Question.{Question}
use Rattle.move_cutters.specs.declared.cutters.CutterDefaults.{CutterDefaults}
use Rattle.clverify.specs.declared.status.Status.TheVariants.{Clean}

-- its first word
abbrev pub point_name : Word
point_name = codes "point"

-- the words after it: the file's name, and a question
abbrev pub point_words : Words → Option (Word × Question)
point_words (file ∷ words) = if is_name file then option_map (λ question. (file, question)) (question_of words) else None
point_words [] = None

-- a move without a cutter has none, and a cutter without a height has the greatest height
abbrev pub point_usual : CutterDefaults
point_usual = record { cutter = None; height = pos tallest }

-- the moves are marked, unless a cutter is too low
abbrev pub marked_unless : Option ℕ → Question → Program → Due
marked_unless (Some at) question program = refused (CutterHeight at)
marked_unless None question program = record { text = marking_of program (marks_for point_usual question program.moves); status = Clean }

abbrev pub marked : Question → Program → Due
marked question program = marked_unless (first_low point_usual program.moves) question program

-- what is due: the marks, or the refusal of the file
abbrev pub point_due : Word → Question → Files → Due
point_due file question files = answer_of (marked question) (read_of (bytes_of files file))

-- a true marking of a program: no cutter is too low, and the text has one mark a move, each of which is true
pub record MarksTruly (question : Question) (program : Program) (text : List ℕ) : Type 0 where
  pub high : first_low point_usual program.moves ≡ None
  pub marks : List (Option Mark)
  pub are_true : AreTrueMarks point_usual question.point program.moves marks
  pub marking : text ≡ marking_of program marks

-- what is true of a text that it writes: it is a true marking of the program that the file's bytes stand for
pub record IsTrueMarking (question : Question) (bytes text : List ℕ) : Type 0 where
  pub program : Program
  pub read : read_of bytes ≡ Ok program
  pub marked_truly : MarksTruly question program text
