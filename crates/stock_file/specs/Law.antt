-- Each saved stock has one text, and each text that is read is that of its stock.
use Rattle.std.specs.Prelude.{◌≡◌, ℕ, List, Ok}
use Rattle.stock_file.specs.Reading.{stock_of}
use Rattle.stock_file.specs.Saved.{IsSaved, Saved}
use Rattle.stock_file.specs.Spelling.{saved_of}

-- the text of a saved stock stands for it
abbrev pub ReadsBackStock : Type 0
ReadsBackStock = (stock : Saved) → IsSaved stock → stock_of (saved_of stock) ≡ Ok stock

-- bytes that stand for a saved stock are its text
abbrev pub HasOneSpelling : Type 0
HasOneSpelling = (bytes : List ℕ) (stock : Saved) → stock_of bytes ≡ Ok stock → IsSaved stock × (bytes ≡ saved_of stock)
