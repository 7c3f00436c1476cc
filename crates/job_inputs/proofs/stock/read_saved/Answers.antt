use Rattle.std.proofs.Common.{List, ℕ, IfSome, Ok, subst, sym, ◌≡◌}
use Rattle.vf_io.specs.Files.{Files, bytes_of}
use Rattle.input_faults.specs.declared.fault.Input.TheVariants as inputs
use Rattle.stock_file.specs.Limits.{most_stock_bytes}
use Rattle.job_inputs.specs.Inputs.{GivesInput, bytes_within}
use Rattle.job_inputs.specs.Stocks.{stock_read_of}
use Rattle.job_inputs.proofs.Stocked.{stock_of_read}
use Rattle.job_inputs.proofs.stock.read_saved.Goals as goal

pub returns-in-Ok-clause-gives : goal.returns-in-Ok-clause-gives
returns-in-Ok-clause-gives g c =
    stock_of_read (g.S.Shelf.files c.args.shelf.now) c.args.file.now c.in-Ok.bytes.items c.saved_in.result c.in-Ok.ensures.gives
    (subst (λ (bytes : List ℕ). GivesInput c.saved_in.result (stock_read_of bytes)) c.deref.ensures.value c.saved_in.ensures.gives)
