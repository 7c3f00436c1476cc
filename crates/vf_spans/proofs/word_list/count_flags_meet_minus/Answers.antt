use Rattle.std.proofs.Common.{◌≡◌, ◌+◌, ◌-◌, ◌*◌, ◌^◌, ◌<◌, ◌∙◌, ◌&&◌, not, get_or, arith, sym, ap₂}
use Rattle.std.specs.Prelude.{bit_and}
use Rattle.std.proofs.lemmas.Nat.{and_le_l}
use Rattle.vf_spans.specs.Members.{count_below}
use Rattle.vf_spans.specs.Words.{in_words}
use Rattle.vf_spans.proofs.WordFlags.{bits_meet_minus}
use Rattle.vf_spans.proofs.WordCounts.{more_word, count_small}
use Rattle.vf_spans.proofs.word_list.count_flags_meet_minus.Goals as goal

pub overflow_add-total : goal.overflow_add-total
overflow_add-total c =
    let fits : (bit_and (bit_and (get_or c.args.a.now c.loop-n.n 0) (get_or c.args.b.now c.loop-n.n 0)) (2 ^ 64 - 1 - get_or c.args.c.now c.loop-n.n 0)) < 2 ^ 64 = (let part = and_le_l (bit_and (get_or c.args.a.now c.loop-n.n 0) (get_or c.args.b.now c.loop-n.n 0)) (2 ^ 64 - 1 - get_or c.args.c.now c.loop-n.n 0) in let first = and_le_l (get_or c.args.a.now c.loop-n.n 0) (get_or c.args.b.now c.loop-n.n 0) in let whole = (c.type_inv.a c.loop-n.n).fits in omega arith) in
    let more = more_word (λ i. in_words c.args.a.now i && (in_words c.args.b.now i && not (in_words c.args.c.now i))) c.loop-n.n (bit_and (bit_and (get_or c.args.a.now c.loop-n.n 0) (get_or c.args.b.now c.loop-n.n 0)) (2 ^ 64 - 1 - get_or c.args.c.now c.loop-n.n 0)) fits (λ k lt. bits_meet_minus c.args.a.now c.args.b.now c.args.c.now c.loop-n.n k (c.type_inv.c c.loop-n.n).fits lt) in
    let small = count_small (64 * (c.loop-n.n + 1)) (λ i. in_words c.args.a.now i && (in_words c.args.b.now i && not (in_words c.args.c.now i))) in
    let so_far : c.loop-n.total ≡ count_below (64 * c.loop-n.n) (λ i. in_words c.args.a.now i && (in_words c.args.b.now i && not (in_words c.args.c.now i))) = c.loop-n.invariant in
    omega arith

pub loop-n-preserved : goal.loop-n-preserved
loop-n-preserved c =
    let fits : (bit_and (bit_and (get_or c.args.a.now c.loop-n.n 0) (get_or c.args.b.now c.loop-n.n 0)) (2 ^ 64 - 1 - get_or c.args.c.now c.loop-n.n 0)) < 2 ^ 64 = (let part = and_le_l (bit_and (get_or c.args.a.now c.loop-n.n 0) (get_or c.args.b.now c.loop-n.n 0)) (2 ^ 64 - 1 - get_or c.args.c.now c.loop-n.n 0) in let first = and_le_l (get_or c.args.a.now c.loop-n.n 0) (get_or c.args.b.now c.loop-n.n 0) in let whole = (c.type_inv.a c.loop-n.n).fits in omega arith) in
    let more = more_word (λ i. in_words c.args.a.now i && (in_words c.args.b.now i && not (in_words c.args.c.now i))) c.loop-n.n (bit_and (bit_and (get_or c.args.a.now c.loop-n.n 0) (get_or c.args.b.now c.loop-n.n 0)) (2 ^ 64 - 1 - get_or c.args.c.now c.loop-n.n 0)) fits (λ k lt. bits_meet_minus c.args.a.now c.args.b.now c.args.c.now c.loop-n.n k (c.type_inv.c c.loop-n.n).fits lt) in
    ap₂ (λ s t. s + t) c.loop-n.invariant c.from-total.ensures ∙ sym more
