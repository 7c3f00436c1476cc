use Rattle.std.proofs.lemmas.Int.{to_z-of_z}
use Rattle.sweep_boxes.proofs.LineEnds.{line_fits, within_words}
use Rattle.space.proofs.Words.{fits32, kept_small}
use Rattle.sweep_boxes.proofs.Words.{kept_axis, kept_moment, kept_place, kept_square}
use Rattle.sweep_boxes.proofs.side.ends.Goals as goal

pub aside-requires : goal.aside-requires
aside-requires c =
    let line = c.args.line.now in
    let record { square = square; axis = axis; tip = tip; low = low; high = high } = line_fits line in
    record { a = kept_axis line.axis line.axis_small; square = kept_square line.square line.square_small; part = simp to_z-of_z line.part }

pub margin-margin-requires : goal.margin-margin-requires
margin-margin-requires c = record {
  aside = kept_small c.aside.result _ c.aside.type_inv c.aside.ensures.small;
  moment = kept_moment c.args.bounds.now.moment c.args.bounds.now.moment_small;
}

pub first_end-requires : goal.first_end-requires
first_end-requires c = record { margin = kept_small c.margin-margin.result _ c.margin-margin.type_inv c.margin-margin.ensures.small }

pub last_end-requires : goal.last_end-requires
last_end-requires c = record { margin = kept_small c.margin-margin.result _ c.margin-margin.type_inv c.margin-margin.ensures.small }

pub returns-clause-low : goal.returns-clause-low
returns-clause-low c = let f = fits32 c.first_end.result c.first_end.type_inv in simp to_z-of_z c.first_end.ensures.low

pub returns-clause-high : goal.returns-clause-high
returns-clause-high c = let f = fits32 c.last_end.result c.last_end.type_inv in simp to_z-of_z c.last_end.ensures.high

pub returns-clause-low_small : goal.returns-clause-low_small
returns-clause-low_small c = kept_place c.first_end.result c.first_end.ensures.small

pub returns-clause-high_small : goal.returns-clause-high_small
returns-clause-high_small c = kept_place c.last_end.result c.last_end.ensures.small

pub returns-clause-first : goal.returns-clause-first
returns-clause-first c z u held =
    let aside = c.aside in let margin = c.margin-margin in let f = fits32 c.first_end.result c.first_end.type_inv in
    let both =
    within_words c.args.line.now c.args.bounds.now aside.result margin.result z u aside.type_inv margin.type_inv
    aside.ensures.some aside.ensures.value margin.ensures.value held in
    simp to_z-of_z (c.first_end.ensures.value z u held.after held.before held.above held.below both.0)

pub returns-clause-last : goal.returns-clause-last
returns-clause-last c z u held =
    let aside = c.aside in let margin = c.margin-margin in let f = fits32 c.last_end.result c.last_end.type_inv in
    let both =
    within_words c.args.line.now c.args.bounds.now aside.result margin.result z u aside.type_inv margin.type_inv
    aside.ensures.some aside.ensures.value margin.ensures.value held in
    simp to_z-of_z (c.last_end.ensures.value z u held.after held.before held.above held.below both.1)
