use Rattle.std.proofs.Common.{arith}
use Rattle.vf_spans.specs.Edges.{edges_of}
use Rattle.vf_spans.proofs.Counts.{range_read}
use Rattle.vf_spans.proofs.spans.Spans.range.Goals as goal

pub bounds-edges-first : goal.bounds-edges-first
bounds-edges-first c = let read = range_read c.self.inside.bound (edges_of c.self.inside.edges) c.as_slice-edges.result.now c.args.self.now c.args.n c.self.invariant c.self.view_is c.as_slice-edges.ensures.value c.requires in omega (arith, read.0)

pub bounds-edges-first-2 : goal.bounds-edges-first-2
bounds-edges-first-2 c = let read = range_read c.self.inside.bound (edges_of c.self.inside.edges) c.as_slice-edges.result.now c.args.self.now c.args.n c.self.invariant c.self.view_is c.as_slice-edges.ensures.value c.requires in omega (arith, read.0)

pub returns-clause-range : goal.returns-clause-range
returns-clause-range c = (range_read c.self.inside.bound (edges_of c.self.inside.edges) c.as_slice-edges.result.now c.args.self.now c.args.n c.self.invariant c.self.view_is c.as_slice-edges.ensures.value c.requires).1

pub returns-clause-not_empty : goal.returns-clause-not_empty
returns-clause-not_empty c = (range_read c.self.inside.bound (edges_of c.self.inside.edges) c.as_slice-edges.result.now c.args.self.now c.args.n c.self.invariant c.self.view_is c.as_slice-edges.ensures.value c.requires).2

pub returns-clause-within : goal.returns-clause-within
returns-clause-within c = (range_read c.self.inside.bound (edges_of c.self.inside.edges) c.as_slice-edges.result.now c.args.self.now c.args.n c.self.invariant c.self.view_is c.as_slice-edges.ensures.value c.requires).3
