use Rattle.std.proofs.Common.{◌≡◌, length, Result, Ok, rules, subst}
use Rattle.std.specs.Prelude.{MatchResult}
use Rattle.cert_lines.specs.declared.cert.Cert.{Cert}
use Rattle.cert_lines.specs.declared.fault.CertFault.{CertFault}
use Rattle.cert_lines.specs.Reading.{EndsCert}
use Rattle.cert_lines.proofs.FewLemmas.{answer_few}
use Rattle.cert_lines.proofs.RangeLemmas.{all_read, answer_in_range}
use Rattle.cert_lines.proofs.cert.read_cert.Goals as goal

pub returns-clause-ranges : goal.returns-clause-ranges
returns-clause-ranges c =
    let grid = c.args.grid.now in
    let bytes = c.args.bytes.now in
    let number = c.loop-rest.number in
    let reading = c.loop-rest.reading in
    let empty : length c.loop-rest.rest.now ≡ 0 = search rules in
    let due = all_read grid bytes c.loop-rest.rest.now number reading empty c.loop-rest.invariant.same in
    answer_in_range grid bytes c.finish.result
    (subst (λ (made : Result Cert CertFault). MatchResult c.finish.result (λ cert. made ≡ Ok cert) (EndsCert made)) due c.finish.ensures)

pub returns-clause-few : goal.returns-clause-few
returns-clause-few c =
    let grid = c.args.grid.now in
    let bytes = c.args.bytes.now in
    let number = c.loop-rest.number in
    let reading = c.loop-rest.reading in
    let empty : length c.loop-rest.rest.now ≡ 0 = search rules in
    let due = all_read grid bytes c.loop-rest.rest.now number reading empty c.loop-rest.invariant.same in
    answer_few grid bytes c.finish.result
    (subst (λ (made : Result Cert CertFault). MatchResult c.finish.result (λ cert. made ≡ Ok cert) (EndsCert made)) due c.finish.ensures)
