use Rattle.space.proofs.Words.{at_x, at_y, at_z, kept_small, read_as, three_same}
use Rattle.space.proofs.vector.cross.Goals as goal

pub minor-requires : goal.minor-requires
minor-requires c = record { i = at_y; j = at_z; pi = c.requires.p.1; pj = c.requires.p.2; ai = c.requires.a.1; aj = c.requires.a.2 }

pub minor-requires-2 : goal.minor-requires-2
minor-requires-2 c = record { i = at_z; j = at_x; pi = c.requires.p.2; pj = c.requires.p.0; ai = c.requires.a.2; aj = c.requires.a.0 }

pub minor-requires-3 : goal.minor-requires-3
minor-requires-3 c = record { i = at_x; j = at_y; pi = c.requires.p.0; pj = c.requires.p.1; ai = c.requires.a.0; aj = c.requires.a.1 }

pub returns : goal.returns
returns c =
    let x = c.minor in let y = c.minor-2 in let z = c.minor-3 in
    record {
      value = three_same _ _ _ _ _ _ (read_as x.result _ x.type_inv x.ensures.value) (read_as y.result _ y.type_inv y.ensures.value) (read_as z.result _ z.type_inv z.ensures.value);
      small = (kept_small x.result _ x.type_inv x.ensures.small, kept_small y.result _ y.type_inv y.ensures.small, kept_small z.result _ z.type_inv z.ensures.small);
    }
