use Rattle.std.proofs.Common.{◌≡◌, ℕ, ◌+◌, ◌<◌, min, max, length, arith, sym, subst}
use Rattle.vf_spans.specs.Members.{ranges_of}
use Rattle.cert_boxes.proofs.Due.{found_there}
use Rattle.cert_boxes.proofs.Hulls.{IsHull, hull_cut, hull_kept, hull_more, hull_none, hull_start}
use Rattle.cert_boxes.proofs.tree.cut_down.Goals as goal
use Rattle.cert_boxes.proofs.tree.cut_down.Goals.{then-lo-hi, else-lo-hi}

pub loop-n-init : goal.loop-n-init
loop-n-init c = hull_start c.args.wanted.now c.args.cell.a c.args.cell.b c.requires.order

pub loop-n-preserved : goal.loop-n-preserved
loop-n-preserved c =
    let set = c.args.wanted.now in let n = c.loop-n.n in let range = c.range-range.result in let a = c.args.cell.a in let b = c.args.cell.b in
    let there = found_there (ranges_of set) n range c.range-range.ensures.range in
    let low : n < length (ranges_of set) = omega (arith, c.loop-n-test.true, c.ranges-n-end.ensures.count) in
    let lo : c.max-lo.result ≡ max range.0 a = omega (arith, c.max-lo.ensures) in
    let hi : c.min-hi.result ≡ min range.1 b = omega (arith, c.min-hi.ensures) in
    elim c.if-lo-hi.branch [
      | then-lo-hi w ↦ hull_more set n a b c.loop-n.first c.loop-n.end c.max-lo.result c.min-hi.result c.if-lo-hi.first c.if-lo-hi.end range c.ranges-n-end.ensures.members
          low there lo hi w.if-lo-hi.true (omega (arith, w.first-is, w.min-first.ensures)) (omega (arith, w.end-is, w.max-end.ensures)) c.loop-n.invariant
      | else-lo-hi w ↦ subst (λ (e : ℕ). IsHull set (n + 1) a b c.if-lo-hi.first e) (sym w.end-is)
          (subst (λ (f : ℕ). IsHull set (n + 1) a b f c.loop-n.end) (sym w.first-is)
          (hull_kept set n a b c.loop-n.first c.loop-n.end range low there (omega (arith, lo, hi, w.if-lo-hi.false)) c.loop-n.invariant))
    ]

pub returns-then-first-end : goal.returns-then-first-end
returns-then-first-end c =
    hull_cut c.args.wanted.now c.args.cell c.loop-n.n c.loop-n.first c.loop-n.end (omega (arith, c.loop-n-test.false, c.ranges-n-end.ensures.count)) c.ranges-n-end.ensures.members c.loop-n.invariant c.if-first-end.true

pub returns : goal.returns
returns c =
    hull_none c.args.wanted.now c.args.cell c.loop-n.n c.loop-n.first c.loop-n.end (omega (arith, c.loop-n-test.false, c.ranges-n-end.ensures.count)) c.ranges-n-end.ensures.members c.loop-n.invariant c.if-first-end.false
