use Rattle.std.proofs.Common.{◌≡◌, ℕ, Bool, List, [], ◌∷◌, ◌++◌, Result, length, map, arith, ap, ap₂, subst, sym, ◌∙◌}
use Rattle.std.specs.Prelude.{if◌then◌else◌}
use Rattle.std.specs.Result.{IsOk, is_ok}
use Rattle.strip_marks.specs.declared.change.WordChange.{WordChange}
use Rattle.strip_journal.specs.declared.packed.PackedChange.{PackedChange}
use Rattle.strip_journal.specs.Packed.{ArePacked, KeptChanges, unpacked, whole_mark}
use Rattle.strip_journal.proofs.Packs.{kept_packed, kept_whole, packed_more, whole_more}
use Rattle.strip_journal.proofs.changes.Changes.push.Goals as goal

-- what a push that succeeds leaves
pushed : {T E X : Type 0} (r : Result T E) (after before : List X) → IsOk r → (if is_ok r then after else before) ≡ after
pushed r after before ok = ap (λ (b : Bool). if b then after else before) ok

pub returns-in-None-clause-items : goal.returns-in-None-clause-items
returns-in-None-clause-items c =
    let list = c.self.inside in
    let room = c.requires.room in
    let is = ap (λ (v : KeptChanges). v.room) c.self.view_is in
    let packed : c.push-packed-in-None.new.self.items ≡ list.packed.items ++ c.of_place.result ∷ [] =
    c.push-packed-in-None.ensures.items
    ∙ pushed c.push-packed-in-None.result _ _ (c.push-packed-in-None.ensures.succeeds (omega (arith, room, is))) in
    let whole : c.push-whole.new.self.items ≡ list.whole.items ++ c.args.change.now ∷ [] =
    c.push-whole.ensures.items ∙ pushed c.push-whole.result _ _ (c.push-whole.ensures.succeeds (omega (arith, room, is))) in
    ap₂ (λ (w : List WordChange) (p : List PackedChange). map (unpacked w) p) whole packed
    ∙ ap (λ (mark : PackedChange). map (unpacked (list.whole.items ++ c.args.change.now ∷ [])) (list.packed.items ++ mark ∷ []))
    (c.of_place.ensures ∙ ap (λ (n : ℕ). record { ray = n; first = whole_mark; sure = 0; possible = 0 }) (c.len.ensures ∙ list.whole.ok.0))
    ∙ kept_whole list.whole.items c.args.change.now list.packed.items c.self.invariant.held
    ∙ ap (λ (v : KeptChanges). v.items ++ c.args.change.now ∷ []) c.self.view_is

pub returns-in-Some-clause-items : goal.returns-in-Some-clause-items
returns-in-Some-clause-items c =
    let list = c.self.inside in
    let room = c.requires.room in
    let is = ap (λ (v : KeptChanges). v.room) c.self.view_is in
    let packed : c.push-packed.new.self.items ≡ list.packed.items ++ c.in-Some.packed ∷ [] =
    c.push-packed.ensures.items ∙ pushed c.push-packed.result _ _ (c.push-packed.ensures.succeeds (omega (arith, room, is))) in
    let told = c.in-Some.ensures.packed in
    ap (λ (p : List PackedChange). map (unpacked list.whole.items) p) packed
    ∙ kept_packed list.whole.items list.packed.items c.in-Some.packed c.args.change.now told.0 told.1
    ∙ ap (λ (v : KeptChanges). v.items ++ c.args.change.now ∷ []) c.self.view_is

pub invariant_of-self : goal.invariant_of-self
invariant_of-self c =
    let list = c.self.inside in
    let room = c.requires.room in
    let is = ap (λ (v : KeptChanges). v.room) c.self.view_is in
    let packed : c.push-packed.new.self.items ≡ list.packed.items ++ c.in-Some.packed ∷ [] =
    c.push-packed.ensures.items ∙ pushed c.push-packed.result _ _ (c.push-packed.ensures.succeeds (omega (arith, room, is))) in
    subst (λ (p : List PackedChange). ArePacked list.whole.items p) (sym packed)
    (packed_more list.whole.items list.packed.items c.in-Some.packed c.in-Some.ensures.packed.0 c.self.invariant)

pub invariant_of-self-in-None : goal.invariant_of-self-in-None
invariant_of-self-in-None c =
    let list = c.self.inside in
    let room = c.requires.room in
    let is = ap (λ (v : KeptChanges). v.room) c.self.view_is in
    let packed : c.push-packed-in-None.new.self.items ≡ list.packed.items ++ c.of_place.result ∷ [] =
    c.push-packed-in-None.ensures.items
    ∙ pushed c.push-packed-in-None.result _ _ (c.push-packed-in-None.ensures.succeeds (omega (arith, room, is))) in
    let whole : c.push-whole.new.self.items ≡ list.whole.items ++ c.args.change.now ∷ [] =
    c.push-whole.ensures.items ∙ pushed c.push-whole.result _ _ (c.push-whole.ensures.succeeds (omega (arith, room, is))) in
    let place : c.of_place.result.ray ≡ length list.whole.items =
    ap (λ (p : PackedChange). p.ray) c.of_place.ensures ∙ c.len.ensures ∙ list.whole.ok.0 in
    subst (λ (w : List WordChange). ArePacked w c.push-packed-in-None.new.self.items) (sym whole)
    (subst (λ (p : List PackedChange). ArePacked (list.whole.items ++ c.args.change.now ∷ []) p) (sym packed)
    (whole_more list.whole.items list.packed.items c.of_place.result c.args.change.now place c.self.invariant))
