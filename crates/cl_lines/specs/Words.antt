-- The major words whose records are refused.
use Rattle.std.specs.Prelude.{ℕ, List, codes}
use Rattle.cl_lines.specs.declared.word.Word.{Word}
use Rattle.cl_lines.specs.declared.word.Word.TheVariants as words

-- the word in capital letters
abbrev pub word_name : Word → List ℕ
word_name words.Circle = codes "CIRCLE"
word_name words.Cycle = codes "CYCLE"
word_name words.Movarc = codes "MOVARC"
word_name words.Copy = codes "COPY"
word_name words.Tracut = codes "TRACUT"
word_name words.Trans = codes "TRANS"
word_name words.Origin = codes "ORIGIN"
word_name words.Rotate = codes "ROTATE"
word_name words.Rotabl = codes "ROTABL"
word_name words.Rothed = codes "ROTHED"
word_name words.Gohome = codes "GOHOME"
word_name words.Index = codes "INDEX"
word_name words.Gofwd = codes "GOFWD"
word_name words.Goback = codes "GOBACK"
word_name words.Golft = codes "GOLFT"
word_name words.Gorgt = codes "GORGT"
word_name words.Goup = codes "GOUP"
word_name words.Godown = codes "GODOWN"
word_name words.Tlon = codes "TLON"
word_name words.Tllft = codes "TLLFT"
word_name words.Tlrgt = codes "TLRGT"
word_name words.Indirp = codes "INDIRP"
word_name words.Indirv = codes "INDIRV"
word_name words.Tlaxis = codes "TLAXIS"
