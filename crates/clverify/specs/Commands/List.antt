-- `list CL`: the moves of a cutter location file.
use Rattle.std.specs.Prelude.{◌≡◌, ℕ, List, [], ◌∷◌, Option, Some, None, Ok, codes, if◌then◌else◌}
use Rattle.cl_moves.specs.declared.program.Program.{Program}
use Rattle.report_text.specs.Listing.{list_of}
use Rattle.vf_io.specs.Files.{Files, bytes_of}
use Rattle.clverify.specs.Reply.{Due, answer_of}
use Rattle.job_inputs.specs.Inputs.{read_of}
use Rattle.call_words.specs.Words.{Word, Words, is_name}
use Rattle.clverify.specs.declared.status.Status.TheVariants.{Clean}

-- its first word
abbrev pub list_name : Word
list_name = codes "list"

-- the words after it: the file's name, and no more
abbrev pub list_words : Words → Option Word
list_words (file ∷ []) = if is_name file then Some file else None
list_words _ = None

-- a program is listed
abbrev pub listed : Program → Due
listed program = record { text = list_of program; status = Clean }

-- what is due: the listing, or the refusal of the file
abbrev pub list_due : Word → Files → Due
list_due file files = answer_of listed (read_of (bytes_of files file))

-- what is true of a text that it writes: it is the listing of the program that the file's bytes stand for
pub record IsTrueListing (bytes text : List ℕ) : Type 0 where
  pub program : Program
  pub read : read_of bytes ≡ Ok program
  pub listing : text ≡ list_of program
