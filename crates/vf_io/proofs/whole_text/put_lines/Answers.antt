use Rattle.std.proofs.Common.{arith, rules}
use Rattle.std.proofs.lemmas.Result.{err_from_is_err_and}
use Rattle.vf_io.proofs.WholeLemmas.{PutSoFar-more, PutSoFar-front, PutSoFar-stops}
use Rattle.vf_io.proofs.whole_text.put_lines.Goals as goal

pub loop-rest-preserved : goal.loop-rest-preserved
loop-rest-preserved g c = record {
  put = PutSoFar-more _ _ _ _ _ _ _ _ _ _ c.loop-rest.invariant.put c.split_line.ensures.first c.split_line.ensures.whole (search rules) c.put.ensures.piece;
  later = omega (arith, c.put.ensures.cause.later);
}

pub returns-in_err-put-clause-front : goal.returns-in_err-put-clause-front
returns-in_err-put-clause-front g c =
    let p = err_from_is_err_and c.from_residual.result c.from_residual.ensures.1 in
    rw p.1 (PutSoFar-front _ _ _ _ _ _ _ _ _ c.loop-rest.invariant.put c.split_line.ensures.whole c.in_err-put.ensures.err)

pub returns-in_err-put-clause-err : goal.returns-in_err-put-clause-err
returns-in_err-put-clause-err g c =
    let p = err_from_is_err_and c.from_residual.result c.from_residual.ensures.1 in
    rw p.1 (PutSoFar-stops _ _ _ _ _ _ _ _ _ c.split_line.result.1.now c.loop-rest.invariant.put c.split_line.ensures.first c.in_err-put.ensures.err c.put.ensures.piece)
