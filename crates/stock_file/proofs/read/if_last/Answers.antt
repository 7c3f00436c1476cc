use Rattle.std.proofs.Common.{◌≡◌, ◌==◌, true, false, length, sym, ◌∙◌, eq-eqb, subst}
use Rattle.vf_io.specs.Pieces.{pieces_of}
use Rattle.stock_file.specs.Ends.{EndsStock}
use Rattle.stock_file.specs.Reading.{with_nothing_after}
use Rattle.stock_file.specs.declared.fault.StockEnd.{StockEnd}
use Rattle.stock_file.proofs.ReadLemmas.{something_after}
use Rattle.stock_file.proofs.read.if_last.Goals as goal

pub returns : goal.returns
returns c =
    let after = c.args.after.now in
    let full : (length after == 0) ≡ false = sym c.is_empty.ensures ∙ c.if-is_empty.false in
    subst (λ (end : StockEnd). EndsStock (with_nothing_after c.args.number (pieces_of after) c.args.stock) end) (sym c.refused.ensures)
    (something_after c.args.number after c.args.stock (λ none. let both : true ≡ false = sym (eq-eqb (length after) 0 none) ∙ full in absurd (cc)))
