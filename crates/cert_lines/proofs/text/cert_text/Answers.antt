use Rattle.std.proofs.Common.{◌≡◌, ℕ, List, arith, subst, sym}
use Rattle.std.proofs.lemmas.Grind.{common_steps}
use Rattle.cert_lines.specs.Law.{ReadsBack}
use Rattle.cert_lines.specs.Spelling.{text_of_cert}
use Rattle.cert_lines.proofs.BackLemmas.{reads_back}
use Rattle.cert_lines.proofs.text.cert_text.Goals as goal

pub returns-clause-reads_back : goal.returns-clause-reads_back
returns-clause-reads_back c =
    let text : c.into_vec.result.items ≡ text_of_cert c.args.cert.now = grind (arith, common_steps) in
    subst (λ (bytes : List ℕ). ReadsBack c.args.cert.now bytes) (sym text) (reads_back c.args.cert.now)
