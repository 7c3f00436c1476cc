use Rattle.std.proofs.Common.{◌≡◌, ℕ, ◌+◌, ◌*◌, ◌/◌, ◌<◌, ◌≤◌, ◌++◌, [], ◌∷◌, List, nat_lt, ◌==◌, if◌then◌else◌, arith, rules, ap, subst, sym, ◌∙◌}
use Rattle.std.proofs.lemmas.Bool.Decides.{nat_tests}
use Rattle.std.proofs.Math.Nat.{mul-le-mul_right}
use Rattle.space.specs.Flanks.{least_widening, most_widening, top_of, upper_tangent}
use Rattle.bern_form.specs.Slab.{SlabSize}
use Rattle.cutter_slabs.specs.Cutter.{CutterSize, IsCutter}
use Rattle.cutter_slabs.specs.Stacks.{inner_cone_slab, level_of, outer_cone_slab, slab_of, slabs_between}
use Rattle.cutter_slabs.proofs.Slabs.{slabs_grown}
use Rattle.cutter_slabs.proofs.pair.conical.Goals as goal

widening_below : (d z h t : ℕ) → z ≤ h → d + 2 * ((h * t + 999999) / 1000000) ≤ 200000 → d + 2 * ((z * t + 999999) / 1000000) ≤ 200000
widening_below d z h t low top = let less : z * t ≤ h * t = mul-le-mul_right t low in omega (arith, less, top)

-- no wider at a height than at the top
top_within : (cutter : CutterSize) (d h z flank : ℕ) → IsCutter cutter → d ≡ cutter.d → h ≡ cutter.h → flank ≡ cutter.flank → z ≤ h
    → top_of d z flank ≤ 200000
top_within cutter d h z flank valid e f g low =
    subst (λ (k : ℕ). top_of k z flank ≤ 200000) (sym e)
    (subst (λ (k : ℕ). top_of cutter.d z k ≤ 200000) (sym g) (widening_below cutter.d z cutter.h (upper_tangent cutter.flank) (subst (λ (k : ℕ). z ≤ k) f low) valid.top))

high_within : (z h top : ℕ) → z ≤ h → h ≡ top → top ≤ 300000 → z ≤ 300000
high_within z h top l e m = omega (arith, l, e, m)

leaning_is : (flank : ℕ) (upright cone : List SlabSize) → 0 < flank → (if flank == 0 then upright else cone) ≡ cone
leaning_is flank upright cone h = grind (arith, nat_tests)

pub level-hi-requires : goal.level-hi-requires
level-hi-requires c =
    let height = c.height-height in
    record {
      height = high_within height.result height.result c.args.cutter.now.h (at_most height.result) height.ensures.value height.ensures.valid.height;
      some = c.requires.some;
      few = c.requires.few;
      within = next_within c.loop-j.j c.args.n c.loop-j-test.true;
    } where
      at_most : (n : ℕ) → n ≤ n
      at_most n = omega arith

      next_within : (j n : ℕ) → j < n → j + 1 ≤ n
      next_within j n h = omega (arith, h)

pub inner_diameter-requires : goal.inner_diameter-requires
inner_diameter-requires c =
    let d = c.diameter-d in let height = c.height-height in
    record {
      small = top_within c.args.cutter.now d.result height.result c.loop-j.lo c.cutter.inside.flank d.ensures.valid d.ensures.value height.ensures.value
          (ap (λ (k : CutterSize). k.flank) c.cutter.view_is) c.loop-j.invariant.1;
    }

pub outer_diameter-requires : goal.outer_diameter-requires
outer_diameter-requires c =
    let d = c.diameter-d in let height = c.height-height in
    record {
      small = top_within c.args.cutter.now d.result height.result c.level-hi.result c.cutter.inside.flank d.ensures.valid d.ensures.value height.ensures.value
          (ap (λ (k : CutterSize). k.flank) c.cutter.view_is) c.level-hi.ensures.below;
    }

pub push_slab-requires : goal.push_slab-requires
push_slab-requires c =
    let height = c.height-height in
    record {
      high = high_within c.level-hi.result height.result c.args.cutter.now.h c.level-hi.ensures.below height.ensures.value height.ensures.valid.height;
      wide = c.inner_diameter.ensures.small;
    }

pub push_slab-requires-in-loop-j : goal.push_slab-requires-in-loop-j
push_slab-requires-in-loop-j c =
    let height = c.height-height in
    record {
      high = high_within c.level-hi.result height.result c.args.cutter.now.h c.level-hi.ensures.below height.ensures.value height.ensures.valid.height;
      wide = c.outer_diameter.ensures.small;
    }

pub returns : goal.returns
returns c =
    let cutter = c.args.cutter.now in let n = c.args.n in let height = c.height-height in let invariant = c.loop-j.invariant in
    let last : c.loop-j.j ≡ n = omega arith in
    record {
      inner = subst (λ (k : ℕ). c.loop-j.inner.items ≡ slabs_between (inner_cone_slab cutter) (level_of k n) n) height.ensures.value
          (subst (λ (k : ℕ). c.loop-j.inner.items ≡ slabs_between (inner_cone_slab cutter) (level_of height.result n) k) last invariant.2)
          ∙ sym (leaning_is cutter.flank _ _ c.requires.leaning);
      outer = subst (λ (k : ℕ). c.loop-j.outer.items ≡ slabs_between (outer_cone_slab cutter) (level_of k n) n) height.ensures.value
          (subst (λ (k : ℕ). c.loop-j.outer.items ≡ slabs_between (outer_cone_slab cutter) (level_of height.result n) k) last invariant.3)
          ∙ sym (leaning_is cutter.flank _ _ c.requires.leaning);
    }

pub loop-j-preserved : goal.loop-j-preserved
loop-j-preserved c =
    let cutter = c.args.cutter.now in
    let height = c.height-height.result in
    let j = c.loop-j.j in let lo = c.loop-j.lo in let hi = c.level-hi.result in
    let invariant = c.loop-j.invariant in
    let next = c.level-hi.ensures.level in
    let inner = c.loop-j.inner.items in let outer = c.loop-j.outer.items in
    let narrow : c.inner_diameter.result ≡ cutter.d + 2 * least_widening cutter.flank lo = search rules in
    let wide : c.outer_diameter.result ≡ cutter.d + 2 * most_widening cutter.flank hi = search rules in
    let more : c.push_slab.new.stack.items ≡ inner ++ (if nat_lt lo hi then slab_of lo hi c.inner_diameter.result ∷ [] else []) = search rules in
    let more2 : c.push_slab-in-loop-j.new.stack.items ≡ outer ++ (if nat_lt lo hi then slab_of lo hi c.outer_diameter.result ∷ [] else []) = search rules in (
      next,
      c.level-hi.ensures.below,
      slabs_grown (λ a b. cutter.d + 2 * least_widening cutter.flank a) (level_of height c.args.n) j lo hi c.inner_diameter.result inner c.push_slab.new.stack.items invariant.0 next narrow invariant.2 more,
      slabs_grown (λ a b. cutter.d + 2 * most_widening cutter.flank b) (level_of height c.args.n) j lo hi c.outer_diameter.result outer c.push_slab-in-loop-j.new.stack.items invariant.0 next wide invariant.3 more2,
    )
