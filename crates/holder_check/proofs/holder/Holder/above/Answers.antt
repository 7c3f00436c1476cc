use Rattle.std.proofs.Common.{unsigned_abs, arith, sym, subst, ap, ap₂, ◌∙◌}
use Rattle.std.proofs.lemmas.Int.{ints}
use Rattle.cutter_slabs.specs.Cutter.{CutterSize, IsCutter}
use Rattle.holder_check.specs.Above.{HolderFits, HolderSize, IsHolder, holder_cutter}
use Rattle.holder_check.proofs.Sizes.{back, high_back, holder_is_cutter, sum_size}
use Rattle.holder_check.proofs.holder.Holder.above.Goals as goal

pub invariant_of-result : goal.invariant_of-result
invariant_of-result c =
    let holder : HolderSize = record { diameter = unsigned_abs c.self.inside.diameter; length = unsigned_abs c.self.inside.length } in
    let cutter : CutterSize = record {
      d = unsigned_abs c.cutter.inside.d;
      r = unsigned_abs c.cutter.inside.r;
      h = unsigned_abs c.cutter.inside.h;
      flank = c.cutter.inside.flank;
      base = unsigned_abs c.cutter.inside.base;
    } in
    let valid : IsHolder holder = c.self.invariant.2 in
    let whole : IsCutter cutter = c.cutter.invariant.4 in
    let fits : HolderFits holder cutter = subst (λ (x : CutterSize). HolderFits holder x) (sym c.cutter.view_is)
    (subst (λ (x : HolderSize). HolderFits x c.args.cutter.now) (sym c.self.view_is) c.requires) in
    let width = valid.width in
    let low = c.cutter.invariant.2 in let long = c.self.invariant.1 in
    let d = back c.self.inside.diameter (omega (arith, width)) in
    let b = back c.cutter.inside.h (omega (arith, fits)) in
    let h = high_back c.cutter.inside.h c.self.inside.length low long fits in
    let sum = sum_size c.cutter.inside.h c.self.inside.length low long in
    rw (d, h, b) (
      c.self.invariant.0,
      omega (arith, ints),
      omega (arith, ints, low, long),
      low,
      subst (λ k. IsCutter record { d = holder.diameter; r = 0; h = k; flank = 0; base = cutter.h }) (sym sum) (holder_is_cutter holder cutter valid whole fits),
    )

pub returns : goal.returns
returns c =
    let holder : HolderSize = record { diameter = unsigned_abs c.self.inside.diameter; length = unsigned_abs c.self.inside.length } in
    let cutter : CutterSize = record {
      d = unsigned_abs c.cutter.inside.d;
      r = unsigned_abs c.cutter.inside.r;
      h = unsigned_abs c.cutter.inside.h;
      flank = c.cutter.inside.flank;
      base = unsigned_abs c.cutter.inside.base;
    } in
    let valid : IsHolder holder = c.self.invariant.2 in
    let fits : HolderFits holder cutter = subst (λ (x : CutterSize). HolderFits holder x) (sym c.cutter.view_is)
    (subst (λ (x : HolderSize). HolderFits x c.args.cutter.now) (sym c.self.view_is) c.requires) in
    let width = valid.width in
    let low = c.cutter.invariant.2 in let long = c.self.invariant.1 in
    let d = back c.self.inside.diameter (omega (arith, width)) in
    let b = back c.cutter.inside.h (omega (arith, fits)) in
    let h = high_back c.cutter.inside.h c.self.inside.length low long fits in
    let sum = sum_size c.cutter.inside.h c.self.inside.length low long in
    rw (d, h, b) (
    ap (λ k. record { d = holder.diameter; r = 0; h = k; flank = 0; base = cutter.h }) sum
    ∙ ap₂ holder_cutter c.self.view_is c.cutter.view_is
    )
