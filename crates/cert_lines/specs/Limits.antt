-- The limits of a certificate.
use Rattle.std.specs.Prelude.{ℕ}

-- the most bytes of a certificate's text
abbrev pub most_cert_bytes : ℕ
most_cert_bytes = 67108864

-- the most slabs into which a cutter's corner may be cut
abbrev pub most_cert_slabs : ℕ
most_cert_slabs = 256

-- the deepest level of the parts of a move's time
abbrev pub deepest_level : ℕ
deepest_level = 10

-- the fewest bytes of a cell line, with its line end
abbrev pub fewest_cell_bytes : ℕ
fewest_cell_bytes = 13
