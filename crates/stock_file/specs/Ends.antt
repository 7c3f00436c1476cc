-- How reading ends that gives no stock: a refusal is the first fault, and out of memory is free.
use Rattle.std.specs.Prelude.{◌≡◌, ℕ, Bool, List, Result, Err, MatchResult}
use Rattle.stock_file.specs.Saved.{IsSaved, Saved}
use Rattle.stock_file.specs.Spelling.{saved_of}
use Rattle.stock_file.specs.declared.fault.StockEnd.{StockEnd}
use Rattle.stock_file.specs.declared.fault.StockEnd.TheVariants.{Refused, NoMemory}
use Rattle.stock_file.specs.declared.fault.StockFault.{StockFault}
use Rattle.stock_file.specs.declared.fault.StockWhy.{StockWhy}
use Rattle.stock_file.specs.declared.line.Stop.{Stop}
use Rattle.stock_file.specs.declared.line.Stop.TheVariants as stops
use Rattle.stock_file.specs.declared.ray_set.RaySet.{RaySet}

-- of a text
abbrev pub EndsStock : Result Saved StockFault → StockEnd → Type 0
EndsStock stock (Refused fault) = stock ≡ Err fault
EndsStock stock NoMemory = Unit {0}

-- of a ray line
abbrev pub EndsStockLine : Result RaySet StockWhy → Stop → Type 0
EndsStockLine found (stops.Refused why) = found ≡ Err why
EndsStockLine found stops.NoMemory = Unit {0}

-- of the bounds of a ray line
abbrev pub EndsSet : Result (List Bool) StockWhy → Stop → Type 0
EndsSet set (stops.Refused why) = set ≡ Err why
EndsSet set stops.NoMemory = Unit {0}

-- only out of memory
abbrev pub IsOutOfMemory : StockEnd → Type 0
IsOutOfMemory (Refused fault) = ⊥
IsOutOfMemory NoMemory = Unit {0}

-- where the bytes are the text of a saved stock, what was read is that stock, or there is no memory
abbrev pub GivesBack : List ℕ → Result Saved StockEnd → Type 0
GivesBack bytes answer =
    (stock : Saved) → IsSaved stock → bytes ≡ saved_of stock → MatchResult answer (λ read. read ≡ stock) IsOutOfMemory
