use Rattle.std.proofs.Common.{◌≡◌, ℕ, ◌≤◌, ◌<◌, ◌+◌, ◌-◌, ◌*◌, ◌++◌, [], ◌∷◌, nat_lt, if◌then◌else◌, arith, rules}
use Rattle.bern_form.specs.Roots.{ceil_root, floor_root}
use Rattle.cutter_slabs.specs.Cutter.{CutterSize, flat_of}
use Rattle.cutter_slabs.specs.Stacks.{bound_of, slab_of}
use Rattle.cutter_slabs.proofs.Rising.{top_ordered}
use Rattle.cutter_slabs.proofs.Slabs.{slabs_grown}
use Rattle.cutter_slabs.proofs.pair.rounded.Goals as goal

-- the numbers of a cutter bound what is computed from them
radius_few : (r r2 d : ℕ) → r ≡ r2 → 2 * r2 ≤ d → d ≤ 200000 → r ≤ 100000
radius_few r r2 d e corner width = omega (arith, e, corner, width)

flat_few : (r r2 d d2 : ℕ) → r ≡ r2 → d ≡ d2 → 2 * r2 ≤ d2 → d2 ≤ 200000 → (2 * r ≤ d) × (d - 2 * r + 2 * r ≤ 200000)
flat_few r r2 d d2 e f corner width = (omega (arith, e, f, corner), omega (arith, e, f, corner, width))

high_within : (z r r2 d : ℕ) → z ≤ r → r ≡ r2 → 2 * r2 ≤ d → d ≤ 200000 → z ≤ 300000
high_within z r r2 d l e corner width = omega (arith, l, e, corner, width)

same_or_less : (a b m : ℕ) → a ≡ b → b ≤ m → a ≤ m
same_or_less a b m e h = omega (arith, e, h)

top_within : (r base h : ℕ) (cutter : CutterSize) → r ≡ cutter.r → base ≡ cutter.base → h ≡ cutter.h → cutter.r + cutter.base ≤ cutter.h → r + base ≤ h
top_within r base h cutter e f g l = omega (arith, e, f, g, l)

next_within : (j n : ℕ) → j < n → j + 1 ≤ n
next_within j n h = omega (arith, h)

pub overflow_sub-flat : goal.overflow_sub-flat
overflow_sub-flat c =
    let radius = c.corner_radius-radius in let d = c.diameter in let valid = d.ensures.valid in
    (flat_few radius.result c.args.cutter.now.r d.result c.args.cutter.now.d radius.ensures.value d.ensures.value valid.corner valid.width).0

pub bound-hi-requires : goal.bound-hi-requires
bound-hi-requires c =
    let radius = c.corner_radius-radius in let valid = radius.ensures.valid in
    record {
      radius = radius_few radius.result c.args.cutter.now.r c.args.cutter.now.d radius.ensures.value valid.corner valid.width;
      some = c.requires.some;
      few = c.requires.few;
      within = next_within c.loop-j.j c.args.n c.loop-j-test.true;
    }

pub inner_diameter-requires : goal.inner_diameter-requires
inner_diameter-requires c =
    let radius = c.corner_radius-radius in let d = c.diameter in let valid = d.ensures.valid in
    record {
      flat = (flat_few radius.result c.args.cutter.now.r d.result c.args.cutter.now.d radius.ensures.value d.ensures.value valid.corner valid.width).1;
      within = c.loop-j.invariant.1;
    }

pub outer_diameter-requires : goal.outer_diameter-requires
outer_diameter-requires c =
    let radius = c.corner_radius-radius in let d = c.diameter in let valid = d.ensures.valid in
    record {
      flat = (flat_few radius.result c.args.cutter.now.r d.result c.args.cutter.now.d radius.ensures.value d.ensures.value valid.corner valid.width).1;
      within = c.bound-hi.ensures.below;
    }

pub push_slab-requires : goal.push_slab-requires
push_slab-requires c =
    let radius = c.corner_radius-radius in let valid = radius.ensures.valid in
    record {
      high = high_within c.bound-hi.result radius.result c.args.cutter.now.r c.args.cutter.now.d c.bound-hi.ensures.below radius.ensures.value valid.corner valid.width;
      wide = c.inner_diameter.ensures.small;
    }

pub push_slab-requires-in-loop-j : goal.push_slab-requires-in-loop-j
push_slab-requires-in-loop-j c =
    let radius = c.corner_radius-radius in let valid = radius.ensures.valid in
    record {
      high = high_within c.bound-hi.result radius.result c.args.cutter.now.r c.args.cutter.now.d c.bound-hi.ensures.below radius.ensures.value valid.corner valid.width;
      wide = c.outer_diameter.ensures.small;
    }

pub slab_between-top-requires : goal.slab_between-top-requires
slab_between-top-requires c =
    let radius = c.corner_radius-radius in let base = c.base in let height = c.height in let d = c.diameter-2 in
    record {
      ordered = top_within radius.result base.result height.result c.args.cutter.now radius.ensures.value base.ensures.value height.ensures.value
          (top_ordered c.args.cutter.now height.ensures.valid);
      high = same_or_less height.result c.args.cutter.now.h 300000 height.ensures.value height.ensures.valid.height;
      wide = same_or_less d.result c.args.cutter.now.d 200000 d.ensures.value d.ensures.valid.width;
    }

pub loop-j-preserved : goal.loop-j-preserved
loop-j-preserved c =
    let cutter = c.args.cutter.now in
    let radius = c.corner_radius-radius.result in
    let j = c.loop-j.j in let lo = c.loop-j.lo in let hi = c.bound-hi.result in
    let invariant = c.loop-j.invariant in
    let next = c.bound-hi.ensures.bound in
    let inner = c.loop-j.inner.items in let outer = c.loop-j.outer.items in
    let narrow : c.inner_diameter.result ≡ flat_of cutter + 2 * floor_root (2 * cutter.r * lo - lo * lo) = search rules in
    let wide : c.outer_diameter.result ≡ flat_of cutter + 2 * ceil_root (2 * cutter.r * hi - hi * hi) = search rules in
    let more : c.push_slab.new.stack.items ≡ inner ++ (if nat_lt lo hi then slab_of lo hi c.inner_diameter.result ∷ [] else []) = search rules in
    let more2 : c.push_slab-in-loop-j.new.stack.items ≡ outer ++ (if nat_lt lo hi then slab_of lo hi c.outer_diameter.result ∷ [] else []) = search rules in (
      next,
      c.bound-hi.ensures.below,
      slabs_grown (λ a b. flat_of cutter + 2 * floor_root (2 * cutter.r * a - a * a)) (bound_of radius c.args.n) j lo hi c.inner_diameter.result inner c.push_slab.new.stack.items invariant.0 next narrow invariant.2 more,
      slabs_grown (λ a b. flat_of cutter + 2 * ceil_root (2 * cutter.r * b - b * b)) (bound_of radius c.args.n) j lo hi c.outer_diameter.result outer c.push_slab-in-loop-j.new.stack.items invariant.0 next wide invariant.3 more2,
    )
