-- The edges of one range are the two of the list.
use Rattle.std.proofs.Common.{◌≡◌, ◌∙◌, ℕ, List, [], ◌∷◌, length, get_or, arith, ap, sym}
use Rattle.std.proofs.lemmas.List.{nil_from_length}
use Rattle.vf_spans.specs.Edges.{edges_kept}
use Rattle.vf_spans.proofs.edges.Edges.from_list.Goals as goal
use Rattle.vf_spans.proofs.edges.Edges.from_list.Goals.{in-0, in-2, in_default+in_ok-new-in_default}

two : (edges : List ℕ) (lo hi : ℕ) → length edges ≡ 2 → lo ≡ get_or edges 0 lo → hi ≡ get_or edges 1 hi → lo ∷ hi ∷ [] ≡ edges
two [] lo hi len first second = absurd (omega arith)
two (a ∷ []) lo hi len first second = absurd (omega arith)
two (a ∷ b ∷ []) lo hi len first second = cc
two (a ∷ b ∷ more ∷ edges) lo hi len first second = absurd (omega arith)

pub returns-clause-edges : goal.returns-clause-edges
returns-clause-edges c =
    let len : length c.args.list.items ≡ c.len.result = omega arith in
    elim c.match-len.branch [
      | in-0 w ↦ ap edges_kept w.kept-is ∙ sym (nil_from_length c.args.list.items (len ∙ w.in-0.is))
      | in-2 w ↦ ap edges_kept w.kept-is ∙ two c.args.list.items _ _ (len ∙ w.in-2.is) w.index.ensures w.index-in-2.ensures
      | in_default+in_ok-new-in_default w ↦ ap edges_kept w.kept-is ∙ ap (λ list. list.items) w.in_ok-new-in_default.ensures.ok
    ]
