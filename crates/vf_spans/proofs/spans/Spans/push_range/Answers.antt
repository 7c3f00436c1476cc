use Rattle.std.proofs.Common.{◌∙◌, sym, ap, subst, ℕ, List, arith}
use Rattle.vf_spans.specs.Edges.{edges_of, AreEdges, flags_of}
use Rattle.vf_spans.specs.Members.{has}
use Rattle.vf_spans.proofs.Flags.{bound_is, length-flags}
use Rattle.vf_spans.proofs.Ends.{last_here, last_under, room, edges_push, edges_set, has_push, has_set}
use Rattle.vf_spans.proofs.spans.Spans.push_range.Goals as goal

pub raise_last-requires-clause-some : goal.raise_last-requires-clause-some
raise_last-requires-clause-some c = (last_here (edges_of c.self.inside.edges) c.as_slice.result.now c.args.lo c.as_slice.ensures.value (c.ends_at.ensures.0 c.if-ends_at.true)).0

pub raise_last-requires-clause-higher : goal.raise_last-requires-clause-higher
raise_last-requires-clause-higher c =
    let last = last_here (edges_of c.self.inside.edges) c.as_slice.result.now c.args.lo c.as_slice.ensures.value (c.ends_at.ensures.0 c.if-ends_at.true) in
    let lt = c.requires.not_empty in
    omega (arith, last.1)

pub returns-then-ends_at-clause-bound : goal.returns-then-ends_at-clause-bound
returns-then-ends_at-clause-bound c = length-flags c.self.inside.bound (edges_of c.raise_last.new.self) ∙ bound_is c.self.inside.bound (edges_of c.self.inside.edges) c.args.self.now c.self.view_is

pub returns-clause-bound : goal.returns-clause-bound
returns-clause-bound c = length-flags c.self.inside.bound (edges_of c.push_range.new.self) ∙ bound_is c.self.inside.bound (edges_of c.self.inside.edges) c.args.self.now c.self.view_is

pub returns-in_err-push_range-clause-bound : goal.returns-in_err-push_range-clause-bound
returns-in_err-push_range-clause-bound c = length-flags c.self.inside.bound (edges_of c.push_range.new.self) ∙ bound_is c.self.inside.bound (edges_of c.self.inside.edges) c.args.self.now c.self.view_is

pub invariant_of-self-in_err-push_range : goal.invariant_of-self-in_err-push_range
invariant_of-self-in_err-push_range c = subst (λ (z : List ℕ). AreEdges c.self.inside.bound z) (sym c.in_err-push_range.ensures.unchanged) c.self.invariant

pub invariant_of-self : goal.invariant_of-self
invariant_of-self c =
    let b = c.self.inside.bound in
    let es = edges_of c.self.inside.edges in
    let last = last_here es c.as_slice.result.now c.args.lo c.as_slice.ensures.value (c.ends_at.ensures.0 c.if-ends_at.true) in
    subst (λ (z : List ℕ). AreEdges b z) (sym c.raise_last.ensures)
    (edges_set b es c.args.lo c.args.hi c.self.invariant c.requires.not_empty (room b c.args.hi es c.args.self.now c.self.view_is c.requires.within) last.0 last.1)

pub returns-then-ends_at-clause-added : goal.returns-then-ends_at-clause-added
returns-then-ends_at-clause-added c =
    let b = c.self.inside.bound in
    let es = edges_of c.self.inside.edges in
    let last = last_here es c.as_slice.result.now c.args.lo c.as_slice.ensures.value (c.ends_at.ensures.0 c.if-ends_at.true) in
    λ i. ap (λ z. has (flags_of b z) i) c.raise_last.ensures
    ∙ has_set b es c.args.self.now c.args.lo c.args.hi c.self.invariant c.self.view_is c.requires.not_empty (room b c.args.hi es c.args.self.now c.self.view_is c.requires.within) last.0 last.1 i

pub invariant_of-self-2 : goal.invariant_of-self-2
invariant_of-self-2 c =
    let b = c.self.inside.bound in
    let es = edges_of c.self.inside.edges in
    let under = last_under b es c.as_slice.result.now c.args.self.now c.args.lo c.self.invariant c.self.view_is c.requires.above c.as_slice.ensures.value (λ t. let yes_it_is = c.ends_at.ensures.1 t in let no_it_is_not = c.if-ends_at.false in cc) in
    subst (λ (z : List ℕ). AreEdges b z) (sym c.in_ok-push_range.ensures.added)
    (edges_push b es c.args.lo c.args.hi c.self.invariant c.requires.not_empty (room b c.args.hi es c.args.self.now c.self.view_is c.requires.within) under)

pub returns-clause-added : goal.returns-clause-added
returns-clause-added c =
    let b = c.self.inside.bound in
    let es = edges_of c.self.inside.edges in
    let under = last_under b es c.as_slice.result.now c.args.self.now c.args.lo c.self.invariant c.self.view_is c.requires.above c.as_slice.ensures.value (λ t. let yes_it_is = c.ends_at.ensures.1 t in let no_it_is_not = c.if-ends_at.false in cc) in
    λ i. ap (λ z. has (flags_of b z) i) c.in_ok-push_range.ensures.added
    ∙ has_push b es c.args.self.now c.args.lo c.args.hi c.self.invariant c.self.view_is c.requires.not_empty (room b c.args.hi es c.args.self.now c.self.view_is c.requires.within) under i
