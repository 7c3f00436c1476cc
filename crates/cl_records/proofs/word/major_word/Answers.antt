-- A word that is refused is none that is read, and one that is passed is neither.
use Rattle.std.proofs.Common.{◌∙◌, ap}
use Rattle.cl_lines.specs.Words.{word_name}
use Rattle.cl_records.specs.Words.{named, read_or_not, refused_or_passed, refused_words}
use Rattle.cl_records.proofs.word.major_word.Goals as goal

pub returns-in-Some-find_refused : goal.returns-in-Some-find_refused
returns-in-Some-find_refused c =
    ap refused_or_passed c.in-Some-find_refused.ensures ∙ ap (λ keyword. read_or_not keyword (refused_or_passed (named word_name refused_words c.args.letters.now))) c.in_default.ensures

pub returns-in-None : goal.returns-in-None
returns-in-None c =
    ap refused_or_passed c.in-None.ensures ∙ ap (λ keyword. read_or_not keyword (refused_or_passed (named word_name refused_words c.args.letters.now))) c.in_default.ensures
