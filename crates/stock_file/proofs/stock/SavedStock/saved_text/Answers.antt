use Rattle.std.proofs.Common.{◌≡◌, ◌∙◌, ap, arith, subst}
use Rattle.std.proofs.lemmas.Grind.{common_steps}
use Rattle.stock_file.specs.Reading.{stock_of}
use Rattle.stock_file.specs.Saved.{IsSaved}
use Rattle.stock_file.specs.Spelling.{saved_of}
use Rattle.stock_file.proofs.LawLemmas.{reads_back}
use Rattle.stock_file.proofs.stock.SavedStock.saved_text.Goals as goal

pub returns-clause-reads_back : goal.returns-clause-reads_back
returns-clause-reads_back c =
    let text : c.into_vec.result.items ≡ saved_of c.args.self.now = grind (arith, common_steps) in
    let axes = c.has_three_axes.ensures in
    let is : IsSaved c.args.self.now =
    subst IsSaved c.self.view_is (record { origin = axes.origin; counts = axes.counts; grid = axes.valid; sets = c.self.invariant }) in
    ap stock_of text ∙ reads_back c.args.self.now is

pub returns-clause-valid : goal.returns-clause-valid
returns-clause-valid c =
    let axes = c.has_three_axes.ensures in
    subst IsSaved c.self.view_is (record { origin = axes.origin; counts = axes.counts; grid = axes.valid; sets = c.self.invariant })
