use Rattle.std.proofs.Common.{◌≡◌, ℤ, List, All, pos, FitsSigned, rules, subst, sym, ◌∙◌, ◌≤◌, ◌<◌, ◌≤ℤ◌, ◌*◌, ◌^◌, to_z, of_z, unsigned_abs, arith}
use Rattle.std.proofs.lemmas.Int.{to_z-of_z}
use mir.Syntax.{w64, w128}
use borrow.Author.Rules.{sfits_of}
use lib.Signed.{mag}
use Rattle.space.specs.Ranges.{IsWithin, vector_limit}
use Rattle.space.proofs.Facts.{fits128}
use Rattle.sweep_boxes.specs.Limits.{place_limit, side_component_limit}
use Rattle.sweep_boxes.specs.declared.band.Band.{Band}
use Rattle.sweep_boxes.specs.Bands.{IsOnBand}
use Rattle.sweep_boxes.specs.Intervals.{IsBeside, IsHeldOn, offset_from}
use Rattle.sweep_boxes.proofs.Words.{kept_height, side_within, tip_within}
use Rattle.sweep_boxes.proofs.around.cylinder_about.Goals as goal

-- what is held by some numbers is held by the same
held_same : (least low most high moment far scale : ℤ) (tip t axis a p : List ℤ) → low ≡ least → high ≡ most → far ≡ moment → t ≡ tip → a ≡ axis
    → IsHeldOn least most moment (offset_from scale tip p) axis → IsHeldOn low high far (offset_from scale t p) a
held_same least low most high moment far scale tip t axis a p el eh ef et ea held =
    subst (λ (z : ℤ). IsHeldOn z high far (offset_from scale t p) a) (sym el)
    (subst (λ (z : ℤ). IsHeldOn least z far (offset_from scale t p) a) (sym eh)
    (subst (λ (z : ℤ). IsHeldOn least most z (offset_from scale t p) a) (sym ef)
    (subst (λ (v : List ℤ). IsHeldOn least most moment (offset_from scale v p) a) (sym et)
    (subst (λ (v : List ℤ). IsHeldOn least most moment (offset_from scale tip p) v) (sym ea) held))))

beside_same : (across far scale : ℤ) (side d tip t axis a p : List ℤ) → far ≡ across → d ≡ side → t ≡ tip → a ≡ axis
    → IsBeside side across (offset_from scale tip p) axis → IsBeside d far (offset_from scale t p) a
beside_same across far scale side d tip t axis a p ef ed et ea beside =
    subst (λ (z : ℤ). IsBeside d z (offset_from scale t p) a) (sym ef)
    (subst (λ (v : List ℤ). IsBeside v across (offset_from scale t p) a) (sym ed)
    (subst (λ (v : List ℤ). IsBeside side across (offset_from scale v p) a) (sym et)
    (subst (λ (v : List ℤ). IsBeside side across (offset_from scale tip p) v) (sym ea) beside)))

bands_same : (bands : List Band) (scale : ℤ) (side d tip t axis a p : List ℤ) → d ≡ side → t ≡ tip → a ≡ axis
    → All (λ (l : Band). IsOnBand l side (offset_from scale tip p) axis) bands → All (λ (l : Band). IsOnBand l d (offset_from scale t p) a) bands
bands_same bands scale side d tip t axis a p ed et ea on =
    subst (λ (v : List ℤ). All (λ (l : Band). IsOnBand l v (offset_from scale t p) a) bands) (sym ed)
    (subst (λ (v : List ℤ). All (λ (l : Band). IsOnBand l side (offset_from scale v p) a) bands) (sym et)
    (subst (λ (v : List ℤ). All (λ (l : Band). IsOnBand l side (offset_from scale tip p) v) bands) (sym ea) on))

moment_same : (x z : ℤ) → mag x < 2 ^ 63 → unsigned_abs z ≤ 4 * 10 ^ 18 → x ≡ to_z w128 (of_z w128 z) → to_z w64 (of_z w64 x) ≡ z
moment_same x z short small is = to_z-of_z w64 x (sfits_of {w = w64} {z = x} short) ∙ is ∙ to_z-of_z w128 z (fits128 z (4 * 10 ^ 18) small (omega arith))

moment_few : (z : ℤ) → unsigned_abs z ≤ 3 * 10 ^ 18 → unsigned_abs z ≤ 4 * 10 ^ 18
moment_few z h = omega (arith, h)

pub narrow-requires : goal.narrow-requires
narrow-requires c = tip_within c.args.interval.now.tip c.args.interval.now.tip_within

pub narrow-requires-2 : goal.narrow-requires-2
narrow-requires-2 c = c.args.interval.now.axis_within

pub narrow-requires-3 : goal.narrow-requires-3
narrow-requires-3 c = side_within c.args.side_bound.now.side c.args.side_bound.now.side_within

pub short-requires : goal.short-requires
short-requires c = kept_height c.args.bounds.now.least c.args.bounds.now.least_small

pub short-requires-2 : goal.short-requires-2
short-requires-2 c = kept_height c.args.bounds.now.most c.args.bounds.now.most_small

pub short-requires-3 : goal.short-requires-3
short-requires-3 c = kept_height c.args.bounds.now.moment (moment_few c.args.bounds.now.moment c.args.bounds.now.moment_small)

pub short-requires-4 : goal.short-requires-4
short-requires-4 c = kept_height c.args.side_bound.now.across c.args.side_bound.now.across_small

pub invariant_of-result : goal.invariant_of-result
invariant_of-result c =
    let interval = c.args.interval.now in let bounds = c.args.bounds.now in let side_bound = c.args.side_bound.now in
    let m = moment_same c.short-3.result bounds.moment c.short-3.type_inv (moment_few bounds.moment bounds.moment_small) c.short-3.ensures in
    let a = moment_same c.short-4.result side_bound.across c.short-4.type_inv side_bound.across_small c.short-4.ensures in
    record {
      scaled = interval.scaled;
      tip_within = subst (IsWithin (128 * place_limit)) (sym c.narrow.ensures) interval.tip_within;
      axis_within = subst (IsWithin vector_limit) (sym c.narrow-2.ensures) interval.axis_within;
      moment_some = subst (λ (z : ℤ). pos 0 ≤ℤ z) (sym m) bounds.moment_some;
      moment_small = subst (λ (z : ℤ). unsigned_abs z ≤ 3 * 10 ^ 18) (sym m) bounds.moment_small;
      side_within = subst (IsWithin side_component_limit) (sym c.narrow-3.ensures) side_bound.side_within;
      across_some = subst (λ (z : ℤ). pos 0 ≤ℤ z) (sym a) side_bound.across_some;
    }

pub returns : goal.returns
returns c p held beside banded =
    let bounds = c.args.bounds.now in let side_bound = c.args.side_bound.now in
    let a : FitsSigned w128 bounds.least = search rules in
    let b : FitsSigned w128 bounds.most = search rules in
    let d : FitsSigned w128 bounds.moment = search rules in
    let e : FitsSigned w128 side_bound.across = search rules in
    let x : FitsSigned w64 c.short.result = search rules in
    let y : FitsSigned w64 c.short-2.result = search rules in
    let z : FitsSigned w64 c.short-3.result = search rules in
    let w : FitsSigned w64 c.short-4.result = search rules in
    let l : c.short.result ≡ bounds.least = c.short.ensures ∙ to_z-of_z w128 bounds.least a in
    let m : c.short-2.result ≡ bounds.most = c.short-2.ensures ∙ to_z-of_z w128 bounds.most b in
    let t : c.short-3.result ≡ bounds.moment = c.short-3.ensures ∙ to_z-of_z w128 bounds.moment d in
    let s : c.short-4.result ≡ side_bound.across = c.short-4.ensures ∙ to_z-of_z w128 side_bound.across e in
    let about = held_same bounds.least c.short.result bounds.most c.short-2.result bounds.moment c.short-3.result (pos c.args.interval.now.scale) c.args.interval.now.tip c.narrow.result
    c.args.interval.now.axis c.narrow-2.result p l m t c.narrow.ensures c.narrow-2.ensures held in
    let across = beside_same side_bound.across c.short-4.result (pos c.args.interval.now.scale) side_bound.side c.narrow-3.result c.args.interval.now.tip c.narrow.result
    c.args.interval.now.axis c.narrow-2.result p s c.narrow-3.ensures c.narrow.ensures c.narrow-2.ensures beside in
    let bands = bands_same c.args.bands (pos c.args.interval.now.scale) side_bound.side c.narrow-3.result c.args.interval.now.tip c.narrow.result c.args.interval.now.axis c.narrow-2.result p
    c.narrow-3.ensures c.narrow.ensures c.narrow-2.ensures banded in
    record { widest = record { about = simp to_z-of_z about; across = simp to_z-of_z across }; bands = bands }
