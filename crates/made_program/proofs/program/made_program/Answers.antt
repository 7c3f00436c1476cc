use Rattle.std.proofs.Common.{◌≡◌, ◌+◌, ◌++◌, List, [], ◌∷◌, refl, sym, ap, ◌∙◌, subst, arith}
use Rattle.std.specs.List.{All}
use Rattle.std.proofs.lemmas.List.Elements.{All-push}
use Rattle.std.proofs.lemmas.List.FromFn.{map-range_with_len_more}
use Rattle.cl_moves.specs.Moves.{IsMove}
use Rattle.cl_moves.specs.declared.moves.Move.{Move}
use Rattle.made_program.specs.Draws.{generator_state}
use Rattle.made_program.specs.Made.{made_move, place_after, place_from}
use Rattle.made_program.proofs.Drawing.{place_first, place_next, state_next}
use Rattle.made_program.proofs.Valid.{move_valid}
use Rattle.made_program.proofs.program.made_program.Goals as goal

pub loop-i-init : goal.loop-i-init
loop-i-init c = record {
  moves = c.new-moves.ensures;
  state = refl;
  place = c.first-place.ensures ∙ place_first c.args.number;
  valid = subst (λ (moves : List Move). All IsMove moves) (sym c.new-moves.ensures) (λ k d below. absurd (omega (arith, below)));
}

pub loop-i-preserved : goal.loop-i-preserved
loop-i-preserved c =
    let number = c.args.number in
    let i = c.loop-i.i in
    let place = c.loop-i.invariant.place in
    let next : c.next-next.result ≡ place_after number (i + 1) = c.next-next.ensures.place ∙ ap place_from c.loop-i.invariant.state ∙ place_next number i in
    let made : c.cutting_move.result ≡ made_move number i = c.cutting_move.ensures ∙ cc in
    let pushed : c.push.new.self ≡ c.loop-i.moves ++ made_move number i ∷ [] = c.in_ok-push.ensures.ok ∙ ap (λ move. c.loop-i.moves ++ move ∷ []) made in
    record {
      moves = pushed ∙ ap (λ (moves : List Move). moves ++ made_move number i ∷ []) c.loop-i.invariant.moves ∙ sym (map-range_with_len_more (made_move number) 0 i i (omega arith));
      state = c.next-next.ensures.state ∙ ap (λ s. generator_state 5 s) c.loop-i.invariant.state ∙ state_next number i;
      place = next;
      valid = subst (λ (moves : List Move). All IsMove moves) (sym pushed) (All-push IsMove c.loop-i.moves (made_move number i) c.loop-i.invariant.valid (move_valid number i));
    }
