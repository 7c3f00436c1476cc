-- The limit of a saved stock's text.
use Rattle.std.specs.Prelude.{ℕ}

-- the most bytes of a saved stock's text
abbrev pub most_stock_bytes : ℕ
most_stock_bytes = 67108864
