use Rattle.std.proofs.Common.{[], ◌∷◌}
use Rattle.space.specs.Vectors.{at}
use Rattle.width_bisect.proofs.Coefficients.{end_kept, fourth4_gives, fourth4_takes, middle4_gives, middle4_takes, second4_gives, second4_takes, third4_gives, third4_takes}
use Rattle.width_bisect.proofs.halves.last4.Goals as goal

pub middle4-requires : goal.middle4-requires
middle4-requires c =
    let x = c.args.form.now in let h = c.requires in middle4_takes (at x 0) (at x 1) (at x 2) (at x 3) (at x 4) h.c0 h.c1 h.c2 h.c3 h.c4

pub fourth4-requires : goal.fourth4-requires
fourth4-requires c = let x = c.args.form.now in let h = c.requires in fourth4_takes (at x 4) (at x 3) (at x 2) (at x 1) h.c4 h.c3 h.c2 h.c1

pub third4-requires : goal.third4-requires
third4-requires c = let x = c.args.form.now in let h = c.requires in third4_takes (at x 4) (at x 3) (at x 2) h.c4 h.c3 h.c2

pub second4-requires : goal.second4-requires
second4-requires c = let x = c.args.form.now in let h = c.requires in second4_takes (at x 4) (at x 3) h.c4 h.c3

pub returns : goal.returns
returns c =
    let x = c.args.form.now in let h = c.requires in
    let middle =
    middle4_gives c.middle4.result (at x 0) (at x 1) (at x 2) (at x 3) (at x 4) record { sfits = c.middle4.type_inv } c.middle4.ensures
    h.c0 h.c1 h.c2 h.c3 h.c4 in
    let fourth =
    fourth4_gives c.fourth4.result (at x 4) (at x 3) (at x 2) (at x 1) record { sfits = c.fourth4.type_inv } c.fourth4.ensures
    h.c4 h.c3 h.c2 h.c1 in
    let third =
    third4_gives c.third4.result (at x 4) (at x 3) (at x 2) record { sfits = c.third4.type_inv } c.third4.ensures h.c4 h.c3 h.c2 in
    let second = second4_gives c.second4.result (at x 4) (at x 3) record { sfits = c.second4.type_inv } c.second4.ensures h.c4 h.c3 in
    let end = end_kept (at x 4) h.c4 in
    λ i. middle i ∷ fourth i ∷ third i ∷ second i ∷ end i ∷ []
