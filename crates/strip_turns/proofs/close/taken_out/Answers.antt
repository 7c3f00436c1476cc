-- Each slot has its strip, and the word of the strip says its version.
use Rattle.std.proofs.Common.{rules, arith, ap, refl, subst, sym, ◌≡◌, ◌∙◌, ◌<◌, ◌+◌, length, Some, None, Option, List}
use mathlib.Core.Option.{some}
use lib.ListN.{get_elem?}
use Rattle.std.specs.Mem.Slots.{slots_items, slots_len, IsFull}
use Rattle.strip_journal.specs.Strips.{StripOf}
use Rattle.strip_turns.specs.Closed.{AllThere, AllOut}
use Rattle.strip_turns.proofs.Closing.{there_is, word_is, all_out_push, filled_after, emptied_after}
use Rattle.strip_turns.proofs.close.taken_out.Goals as goal

none_some : (x : Option StripOf) (s : StripOf) → x ≡ None → x ≡ Some s → ⊥
none_some x s e f = cc

pub word-requires : goal.word-requires
word-requires c =
    let inv = c.loop-number.invariant in
    let place = c.word_at.ensures in
    subst (λ words. (c.word_at.result < slots_len words) × IsFull words) (sym inv.6)
    (omega (arith, c.loop-number-test.true, c.requires.words, place), c.requires.full.1)

pub version_of-done-requires : goal.version_of-done-requires
version_of-done-requires c =
    let inv = c.loop-number.invariant in
    let words = slots_items c.args.closed.words in
    let read = subst (λ w. get_elem? (slots_items w) c.word_at.result ≡ some c.word.result) inv.6 c.word.ensures in
    let there = c.requires.there.each c.loop-number.number (search rules) in
    let word = word_is words (slots_items c.args.closed.slots) c.loop-number.number c.word_at.result c.word.result (Some there.0) there.0 c.requires.there
    (search rules) there.1 refl c.word_at.ensures (search rules) read in
    omega (arith, word.0)

pub invariant_of-push_reserved : goal.invariant_of-push_reserved
invariant_of-push_reserved c =
    let inv = c.loop-number.invariant in
    let words = slots_items c.args.closed.words in
    let read = subst (λ w. get_elem? (slots_items w) c.word_at.result ≡ some c.word.result) inv.6 c.word.ensures in
    let at = subst (λ (l : List (Option StripOf)). get_elem? l c.loop-number.number ≡ some c.take.result) inv.1 c.take.ensures.value in
    let word = word_is words (slots_items c.args.closed.slots) c.loop-number.number c.word_at.result c.word.result c.take.result c.in-Some.strip
    c.requires.there (search rules) at c.in-Some.is c.word_at.ensures (search rules) read in
    c.version_of-done.ensures c.in-Some.strip.done word.1 word.0

pub unreachable-requires : goal.unreachable-requires
unreachable-requires c =
    let inv = c.loop-number.invariant in
    let there : AllThere (slots_items c.args.closed.words) (slots_items c.loop-number.closed.slots) =
    subst (AllThere (slots_items c.args.closed.words)) (sym inv.1) c.requires.there in
    let lt : c.loop-number.number < length (slots_items c.loop-number.closed.slots) = search rules in
    let t = there_is _ _ c.loop-number.number c.take.result there lt c.take.ensures.value in none_some _ t.0 c.in_default.is t.1

pub loop-number-preserved : goal.loop-number-preserved
loop-number-preserved c =
    let inv = c.loop-number.invariant in
    let at : get_elem? (slots_items c.args.closed.slots) c.loop-number.number ≡ some (Some c.in-Some.strip) =
    ap (λ l. get_elem? l c.loop-number.number) (sym inv.1) ∙ c.take.ensures.value ∙ ap some c.in-Some.is in
    let out : AllOut (slots_items c.args.closed.slots) c.push_reserved.new.self.items (c.loop-number.number + 1) =
    subst (λ (l : List StripOf). AllOut (slots_items c.args.closed.slots) l (c.loop-number.number + 1)) (sym c.push_reserved.ensures.items)
    (all_out_push _ c.loop-number.strips.items c.loop-number.number c.in-Some.strip inv.4 at) in
    let o = c.take.ensures.others in (
      o.2 ∙ inv.0,
      o.0 ∙ inv.1,
      filled_after _ _ c.loop-number.number _ _ o.1 o.2 inv.2,
      emptied_after _ _ c.loop-number.number o.1 inv.3,
      out,
      c.push_reserved.ensures.capacity ∙ inv.5,
      o.3 ∙ inv.6,
    )

pub take-requires : goal.take-requires
take-requires c =
    let inv = c.loop-number.invariant in
    let lt : c.loop-number.number < slots_len c.loop-number.closed.slots = omega (arith, c.loop-number-test.true, c.requires.count, inv.0) in
    (lt, inv.2 c.loop-number.number (omega arith) lt)

pub push_reserved-requires : goal.push_reserved-requires
push_reserved-requires c =
    let inv = c.loop-number.invariant in
    omega (arith, c.loop-number-test.true, inv.4.many, inv.5, c.requires.room.1)

pub free-requires : goal.free-requires
free-requires c = λ k lt.
    let inv = c.loop-number.invariant in inv.3 k (omega (arith, c.loop-number-test.false, c.requires.count, inv.0))

pub returns : goal.returns
returns c =
    let all : c.loop-number.number ≡ c.args.count = omega (arith, c.loop-number-test.false, c.loop-number.auto.number-end) in
    subst (AllOut (slots_items c.args.closed.slots) c.loop-number.strips.items) all c.loop-number.invariant.4
