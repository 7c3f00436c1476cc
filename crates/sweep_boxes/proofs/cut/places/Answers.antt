use Rattle.space.proofs.Words.{at_x, at_y, at_z, kept_small, read_as, three_same}
use Rattle.sweep_boxes.proofs.cut.places.Goals as goal

pub place-requires : goal.place-requires
place-requires c = record { i = at_x; whole = c.requires.whole; time = c.requires.time; from = c.requires.from.0; to = c.requires.to.0 }

pub place-requires-2 : goal.place-requires-2
place-requires-2 c = record { i = at_y; whole = c.requires.whole; time = c.requires.time; from = c.requires.from.1; to = c.requires.to.1 }

pub place-requires-3 : goal.place-requires-3
place-requires-3 c = record { i = at_z; whole = c.requires.whole; time = c.requires.time; from = c.requires.from.2; to = c.requires.to.2 }

pub returns : goal.returns
returns c =
    let x = c.place in let y = c.place-2 in let z = c.place-3 in
    record {
      value = three_same _ _ _ _ _ _ (read_as x.result _ x.type_inv x.ensures.value) (read_as y.result _ y.type_inv y.ensures.value) (read_as z.result _ z.type_inv z.ensures.value);
      small = (kept_small x.result _ x.type_inv x.ensures.small, kept_small y.result _ y.type_inv y.ensures.small, kept_small z.result _ z.type_inv z.ensures.small);
    }
