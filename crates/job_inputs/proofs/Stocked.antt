-- The saved stock of bytes that were read is that of the file.
use Rattle.std.proofs.Common.{◌≡◌, ℕ, Bool, true, false, List, length, Option, Some, None, Result, Ok, Err, IfSome, nat_lt, if◌then◌else◌, ap, subst, sym}
use Rattle.vf_io.specs.Files.{Files, bytes_of}
use Rattle.input_faults.specs.declared.fault.Fault.{Fault}
use Rattle.input_faults.specs.declared.fault.Fault.TheVariants.{TooLong}
use Rattle.input_faults.specs.declared.fault.Input.{Input}
use Rattle.input_faults.specs.declared.fault.Input.TheVariants as inputs
use Rattle.input_faults.specs.declared.stopped.Stopped.{Stopped}
use Rattle.stock_file.specs.Limits.{most_stock_bytes}
use Rattle.stock_file.specs.Saved.{Saved}
use Rattle.job_inputs.specs.Inputs.{GivesInput, bytes_within}
use Rattle.job_inputs.specs.Stocks.{stock_read_of}

-- bytes that aren't too many are the file's
kept_whole : (input : Input) (long : Bool) (file bytes : List ℕ) → ◌≡◌ {A = Result (List ℕ) Fault} (if long then Err (TooLong input) else Ok file) (Ok bytes) → file ≡ bytes
kept_whole input true file bytes is = cc
kept_whole input false file bytes is = cc

pub stock_of_read : (files : Option Files) (name bytes : List ℕ) (given : Result Saved Stopped)
    → IfSome files (λ told. bytes_within inputs.Stock most_stock_bytes (bytes_of told name) ≡ Ok bytes) → GivesInput given (stock_read_of bytes)
    → IfSome files (λ told. GivesInput given (stock_read_of (bytes_of told name)))
stock_of_read None name bytes given read gives = tt
stock_of_read (Some told) name bytes given read gives =
    let file : List ℕ = bytes_of told name in
    subst (λ (all : List ℕ). GivesInput given (stock_read_of all))
    (sym (kept_whole inputs.Stock (nat_lt most_stock_bytes (length file)) file bytes read)) gives
