-- What is computed of moves for their marks: one move more at a time, and two lists together.
use Rattle.std.proofs.Common.{◌≡◌, ◌∙◌, ℕ, ◌+◌, ◌-◌, ◌<◌, ◌≤◌, List, [], ◌∷◌, ◌++◌, Some, ⊎_elim, length, slice_get, get_or, arith, ap, refl, subst, sym}
use Rattle.std.proofs.lemmas.Bool.{cases_lt}
use Rattle.std.proofs.lemmas.List.{get_or_append_left, length-append}
use Rattle.std.proofs.lemmas.Option.{get_or_from_slice_get, slice_get_read, slice_get_within}
use Rattle.std.proofs.Math.Seq.{get_or-append_right, get_or-append_seam}
use Rattle.wanted_marks.specs.declared.ready_move.ReadyMove.{ReadyMove}
use Rattle.wanted_marks.specs.Ready.{IsReadyMove}
use Rattle.job_model.specs.Tasks.{JobMove}
use Rattle.strip_plan.specs.ReadyMoves.{HasReadyMoves}

pub no_ready_moves : (slabs depth : ℕ) (moves : List JobMove) (from : ℕ) → HasReadyMoves slabs depth moves from from []
no_ready_moves slabs depth moves from = record { many = omega arith; each = λ n move d lt at. absurd (omega (arith, lt)) }

-- one move more
pub more_ready_moves : (slabs depth : ℕ) (moves : List JobMove) (from to : ℕ) (ready : List ReadyMove) (next : JobMove) (own : ReadyMove)
    → HasReadyMoves slabs depth moves from to ready → next ≡ get_or moves to next
    → IsReadyMove own record { cutter = next.cutter; slabs = slabs; sweep = next.sweep; depth = depth }
    → HasReadyMoves slabs depth moves from (to + 1) (ready ++ own ∷ [])
more_ready_moves slabs depth moves from to ready next own has read is =
    let many = has.many in
    let longer = length-append ready (own ∷ []) in
    let of = λ (m : JobMove) (r : ReadyMove). IsReadyMove r record { cutter = m.cutter; slabs = slabs; sweep = m.sweep; depth = depth } in
    record {
      many = omega (arith, longer, many);
      each = λ n move d lt at.
          ⊎_elim
          (λ less. subst (λ (r : ReadyMove). of move r) (sym (get_or_append_left ready (own ∷ []) d n less)) (has.each n move d less at))
          (λ most.
          let e : n ≡ length ready = omega (arith, lt, longer, most) in
          let same : next ≡ move = read ∙ ap (λ i. get_or moves i next) (let q : to ≡ from + n = omega (arith, e, many) in q) ∙ get_or_from_slice_get moves (from + n) move next at in
          let there : get_or (ready ++ own ∷ []) n d ≡ own = ap (λ k. get_or (ready ++ own ∷ []) k d) e ∙ get_or-append_seam ready own [] d in
          subst (λ (r : ReadyMove). of move r) (sym there) (subst (λ (m : JobMove). of m own) same is))
          (cases_lt n (length ready));
    }

-- what is computed of moves, and after it what is computed of the next ones
pub both_ready_moves : (slabs depth : ℕ) (moves : List JobMove) (from half to : ℕ) (early late : List ReadyMove)
    → HasReadyMoves slabs depth moves from half early → HasReadyMoves slabs depth moves half to late → HasReadyMoves slabs depth moves from to (early ++ late)
both_ready_moves slabs depth moves from half to early late first rest =
    let until = first.many in
    let many = rest.many in
    let both = length-append early late in
    let of = λ (m : JobMove) (r : ReadyMove). IsReadyMove r record { cutter = m.cutter; slabs = slabs; sweep = m.sweep; depth = depth } in
    record {
      many = omega (arith, both, until, many);
      each = λ n move d lt at.
          ⊎_elim
          (λ less. subst (λ (r : ReadyMove). of move r) (sym (get_or_append_left early late d n less)) (first.each n move d less at))
          (λ most.
          let k : ℕ = n - length early in
          let e : from + n ≡ half + k = omega (arith, until, most) in
          subst (λ (r : ReadyMove). of move r) (sym (get_or-append_right early late n d most))
          (rest.each k move d (omega (arith, lt, both, most)) (ap (λ i. slice_get moves i) (sym e) ∙ at)))
          (cases_lt n (length early));
    }

-- what is computed of moves, and nothing after it
pub all_ready_moves : (slabs depth : ℕ) (moves : List JobMove) (from to : ℕ) (early late : List ReadyMove)
    → HasReadyMoves slabs depth moves from to early → late ≡ [] → HasReadyMoves slabs depth moves from to (early ++ late)
all_ready_moves slabs depth moves from to early late has none =
    both_ready_moves slabs depth moves from to to early late has (subst (HasReadyMoves slabs depth moves to to) (sym none) (no_ready_moves slabs depth moves to))

-- what is in the first list, and in the other
pub early_read : (early late : List ReadyMove) (number : ℕ) (own : ReadyMove) → number < length early → own ≡ get_or early number own → slice_get (early ++ late) number ≡ Some own
early_read early late number own lt read =
    slice_get_read (early ++ late) (length (early ++ late)) number own refl (omega (arith, lt, length-append early late)) (read ∙ sym (get_or_append_left early late own number lt))

pub late_read : (early late : List ReadyMove) (number : ℕ) (own : ReadyMove) → length early ≤ number → number < length (early ++ late) → own ≡ get_or late (number - length early) own
    → slice_get (early ++ late) number ≡ Some own
late_read early late number own ge lt read =
    slice_get_read (early ++ late) (length (early ++ late)) number own refl lt (read ∙ sym (get_or-append_right early late number own ge))

-- what is kept for a number is what was computed of the move with that number
pub ready_is : (moves : List JobMove) (slabs depth : ℕ) (ready : List ReadyMove) (number : ℕ) (move : JobMove) (own : ReadyMove)
    → HasReadyMoves slabs depth moves 0 (length moves) ready → slice_get moves number ≡ Some move → slice_get ready number ≡ Some own
    → IsReadyMove own record { cutter = move.cutter; slabs = slabs; sweep = move.sweep; depth = depth }
ready_is moves slabs depth ready number move own has named read =
    let at : slice_get moves (0 + number) ≡ Some move = ap (λ i. slice_get moves i) (let q : 0 + number ≡ number = omega arith in q) ∙ named in
    subst (λ (r : ReadyMove). IsReadyMove r record { cutter = move.cutter; slabs = slabs; sweep = move.sweep; depth = depth })
    (get_or_from_slice_get ready number own own read) (has.each number move own (slice_get_within ready number own read) at)
