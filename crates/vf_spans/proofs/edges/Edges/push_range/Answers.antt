-- A list of edges grows at its end, or stays as it was.
use Rattle.std.proofs.Common.{◌≡◌, ◌∙◌, ◌++◌, ◌∷◌, [], ℕ, List, Result, Ok, Err, OnOk, OnErr, is_ok, if◌then◌else◌, ap, sym}
use Rattle.vf_spans.specs.Edges.{edges_kept, edges_of}
use Rattle.vf_spans.proofs.edges.Edges.push_range.Goals as goal

grown : {T E : Type 0} (result : Result T E) (new old edges more : List ℕ) → new ≡ (if is_ok result then old ++ more else old) → old ≡ edges → OnOk result (new ≡ edges ++ more)
grown (Ok done) new old edges more is same = is ∙ ap (λ front. front ++ more) same
grown (Err end) new old edges more is same = tt

kept : {T E : Type 0} (result : Result T E) (new old edges more : List ℕ) → new ≡ (if is_ok result then old ++ more else old) → old ≡ edges → OnErr result (new ≡ edges)
kept (Ok done) new old edges more is same = tt
kept (Err end) new old edges more is same = is ∙ same

pub returns-in-Ranges-clause-added : goal.returns-in-Ranges-clause-added
returns-in-Ranges-clause-added c =
    grown c.extend_from_slice.result c.extend_from_slice.new.self.items c.deref_mut.result.now.items (edges_of c.args.self.now) (c.args.lo ∷ c.args.hi ∷ []) c.extend_from_slice.ensures.items (ap (λ list. list.items) c.deref_mut.ensures.value ∙ sym (ap edges_kept c.in-Ranges.is))

pub returns-in-Ranges-clause-unchanged : goal.returns-in-Ranges-clause-unchanged
returns-in-Ranges-clause-unchanged c =
    kept c.extend_from_slice.result c.extend_from_slice.new.self.items c.deref_mut.result.now.items (edges_of c.args.self.now) (c.args.lo ∷ c.args.hi ∷ []) c.extend_from_slice.ensures.items (ap (λ list. list.items) c.deref_mut.ensures.value ∙ sym (ap edges_kept c.in-Ranges.is))
