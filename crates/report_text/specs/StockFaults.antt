-- The text of a saved stock's fault.
use Rattle.std.specs.Prelude.{ℕ, List, ◌++◌, codes, decimal}
use Rattle.stock_file.specs.declared.fault.StockFault.{StockFault}
use Rattle.stock_file.specs.declared.fault.StockWhy.{StockWhy}
use Rattle.stock_file.specs.declared.fault.StockWhy.TheVariants.{StockSyntax, StockGrid, StockOrder}

abbrev pub stock_why_name : StockWhy → List ℕ
stock_why_name StockSyntax = codes "StockSyntax"
stock_why_name StockGrid = codes "StockGrid"
stock_why_name StockOrder = codes "StockOrder"

-- the line where it is, and what is wrong there
abbrev pub stock_fault_text : StockFault → List ℕ
stock_fault_text fault = codes "stock line " ++ decimal fault.line ++ codes ": " ++ stock_why_name fault.why
