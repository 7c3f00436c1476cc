use Rattle.box_bisect.proofs.stretch.Stretch.last_half.Goals as goal

pub invariant_of-result : goal.invariant_of-result
invariant_of-result c =
    let s = c.args.self.now in record {
      u_small = c.last_half.ensures.small _ s.u_small;
      n_small = c.last_half-2.ensures.small _ s.n_small;
      d_small = c.last_half-3.ensures.small _ s.d_small;
    }
