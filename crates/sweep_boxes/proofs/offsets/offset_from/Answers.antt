use Rattle.space.proofs.Words.{at_x, at_y, at_z, kept_small, read_as, three_same}
use Rattle.sweep_boxes.proofs.offsets.offset_from.Goals as goal

pub offset_along-requires : goal.offset_along-requires
offset_along-requires c = record { i = at_x; scale = c.requires.scale; place = c.requires.place.0; tip = c.requires.tip.0 }

pub offset_along-requires-2 : goal.offset_along-requires-2
offset_along-requires-2 c = record { i = at_y; scale = c.requires.scale; place = c.requires.place.1; tip = c.requires.tip.1 }

pub offset_along-requires-3 : goal.offset_along-requires-3
offset_along-requires-3 c = record { i = at_z; scale = c.requires.scale; place = c.requires.place.2; tip = c.requires.tip.2 }

pub returns : goal.returns
returns c =
    let x = c.offset_along in let y = c.offset_along-2 in let z = c.offset_along-3 in
    record {
      value = three_same _ _ _ _ _ _ (read_as x.result _ x.type_inv x.ensures.value) (read_as y.result _ y.type_inv y.ensures.value) (read_as z.result _ z.type_inv z.ensures.value);
      small = (kept_small x.result _ x.type_inv x.ensures.small, kept_small y.result _ y.type_inv y.ensures.small, kept_small z.result _ z.type_inv z.ensures.small);
    }
