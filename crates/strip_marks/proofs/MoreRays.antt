-- What a move changes on the rays of a strip, with one ray more.
use Rattle.std.proofs.Common.{◌≡◌, ◌≢◌, ℕ, ◌+◌, ◌-◌, ◌^◌, ◌<◌, ◌≤◌, Bool, not, ◌&&◌, ◌||◌, List, [], ◌++◌, length, get_or, set, arith, refl, sym, ap, ap₂, ◌∙◌, subst, ⊎_elim}
use Rattle.std.specs.List.{All, range_with_len}
use Rattle.std.proofs.lemmas.Bool.{cases_eq, cases_lt}
use Rattle.std.proofs.lemmas.List.{get_or-set_other, get_or-set_same, length-set}
use Rattle.std.proofs.lemmas.List.Elements.{All-append, All-nil}
use Rattle.vf_spans.specs.Members.{has}
use Rattle.job_counts.specs.declared.counts.Counts.{Counts}
use Rattle.job_counts.specs.Counts.{AreWithin, no_counts, plus}
use Rattle.dexel_rays.specs.Findings.{findings}
use Rattle.dexel_rays.specs.Sets.{Sets}
use Rattle.ray_grid.specs.Grids.{GridSize}
use Rattle.ray_words.specs.Rays.{IsBelow, IsKept, KeptSets}
use Rattle.ray_words.specs.Rows.{kept_at}
use Rattle.job_model.specs.Tasks.{JobMove, PlanOf}
use Rattle.strip_marks.specs.declared.change.WordChange.{WordChange}
use Rattle.strip_marks.specs.Marks.{AreRays, HaveSameSets, IsChangeOn, among, points_at, possible_of, possible_there, ray_found, seen_on, sets_of, sure_of, sure_there}
use Rattle.strip_marks.specs.RayMarks.{HasSameSets, IsRayMarked}
use Rattle.strip_marks.specs.RowMarks.{AreRaysMarked, AreSetsAt, IsChangeFrom}
use Rattle.strip_marks.proofs.Counting.{found_within, sum_more, sum_over}
use Rattle.strip_marks.proofs.Lists.{ahead_by_ray, among_append, among_none, or_false, order_append, order_few, other_ray}

-- a ray that is not in the list
abbrev pub no_sets : KeptSets
no_sets = record { sets = record { stock = []; part = []; fixture = []; sure = []; possible = [] }; first = 0; count = 0 }

-- rays are the same as themselves, and as rays that are the same as those
pub same_self : (rays : List KeptSets) → HaveSameSets rays rays
same_self rays = record { many = refl; sets = λ n lt. refl; kept = λ n k lt h. h }

pub same_again : (a b c : List KeptSets) → HaveSameSets a b → HaveSameSets b c → HaveSameSets a c
same_again a b c h k = record {
  many = k.many ∙ h.many;
  sets = λ n lt. k.sets n (omega (arith, h.many)) ∙ h.sets n lt;
  kept = λ n w lt kept. k.kept n w (omega (arith, h.many)) (h.kept n w lt kept);
}

-- one ray of them has the same sets
pub same_with : (rays : List KeptSets) (n : ℕ) (ray : KeptSets) → n < length rays → HasSameSets (kept_at rays n) ray
    → HaveSameSets rays (set rays n ray)
same_with rays n ray lt h = record {
  many = length-set rays n ray;
  sets = λ m within.
      ⊎_elim
      (λ (e : m ≡ n). ap (λ k. sets_of (set rays n ray) k) e ∙ ap (λ (r : KeptSets). r.sets) (get_or-set_same rays n ray no_sets lt)
      ∙ h.sets ∙ ap (sets_of rays) (sym e))
      (λ (ne : m ≢ n). ap (λ (r : KeptSets). r.sets) (get_or-set_other rays n m ray no_sets ne))
      (cases_eq m n);
  kept = λ m k within kept.
      ⊎_elim
      (λ (e : m ≡ n).
      subst (λ (r : KeptSets). IsKept r k) (sym (ap (kept_at (set rays n ray)) e ∙ get_or-set_same rays n ray no_sets lt))
      (h.kept k (subst (λ (j : ℕ). IsKept (kept_at rays j) k) e kept)))
      (λ (ne : m ≢ n). subst (λ (r : KeptSets). IsKept r k) (sym (get_or-set_other rays n m ray no_sets ne)) kept)
      (cases_eq m n);
}

-- and so have all of them, and those that they are the same as
pub same_set : (before rays after : List KeptSets) (n : ℕ) (ray : KeptSets) → HaveSameSets before rays → n < length before
    → HasSameSets (kept_at rays n) ray → after ≡ set rays n ray → HaveSameSets before after
same_set before rays after n ray same lt h e =
    subst (λ (l : List KeptSets). HaveSameSets before l) (sym e)
    (same_again before rays (set rays n ray) same (same_with rays n ray (omega (arith, lt, same.many)) h))

-- a change on one of the rays is one on the same rays later
pub change_stays : (before after : List KeptSets) (change : WordChange) → HaveSameSets before after → IsChangeOn before change
    → IsChangeOn after change
change_stays before after change h on =
    let bound : length (sets_of before change.ray).stock ≡ length (sets_of after change.ray).stock = sym
    (ap (λ (d : Sets). length d.stock) (h.sets change.ray on.ray)) in
    record {
      ray = omega (arith, h.many, on.ray);
      kept = h.kept change.ray change.word on.ray on.kept;
      sure = subst (λ (b : ℕ). IsBelow b change.word change.sure) bound on.sure;
      possible = subst (λ (b : ℕ). IsBelow b change.word change.possible) bound on.possible;
    }

-- what is known of the rays of a strip is known of each
pub sets_at : (grid : GridSize) (strip : ℕ) (before mid : List KeptSets) (n : ℕ) → AreRays grid strip before → HaveSameSets before mid
    → n < length before
    → AreSetsAt grid strip n (sets_of mid n)
sets_at grid strip before mid n h same lt =
    subst (λ (d : Sets). AreSetsAt grid strip n d) (sym (same.sets n lt))
    (record { bound = h.bounds n lt; ordered = λ l. h.possible n l lt })

-- no ray is marked in an empty window
pub no_rays_to : (plan : PlanOf) (move : JobMove) (strip lo hi : ℕ) (rays after : List KeptSets) (changes : List WordChange)
    (counts : Counts) → lo ≡ hi → changes ≡ [] → counts ≡ no_counts
    → AreRaysMarked plan move strip rays after lo hi changes counts
no_rays_to plan move strip lo hi rays after changes counts same e z = record {
  new_sure = λ n l ge lt below. absurd (omega arith);
  new_possible = λ n l ge lt below. absurd (omega arith);
  each = subst (λ (c : List WordChange). All (IsChangeFrom after lo hi) c) (sym e) (All-nil (IsChangeFrom after lo hi));
  order = order_few changes (let none : length changes ≡ 0 = ap length e in omega arith);
  found = z ∙ ap (sum_over (ray_found plan move strip rays) lo) (let q : 0 ≡ hi - lo = omega arith in q);
}

module _ (plan : PlanOf) (move : JobMove) (strip lo n : ℕ) (before mid : List KeptSets) (ray : KeptSets) (changes added : List WordChange)
    (counts found : Counts)
    (rays : AreRays plan.grid strip before) (same : HaveSameSets before mid) (own : HasSameSets (kept_at mid n) ray) (from : lo ≤ n)
    (within : n < length before)
    (h : AreRaysMarked plan move strip before mid lo n changes counts)
    (next : IsRayMarked ray (sure_there plan move strip n) (possible_there plan move strip n) move.rapid n added found) where
  sets_are : ray.sets ≡ sets_of before n
  sets_are = own.sets ∙ same.sets n within

  points_are : length ray.sets.stock ≡ points_at plan.grid strip n
  points_are = ap (λ (d : Sets). length d.stock) sets_are ∙ (rays.bounds n within).stock

  after_mid : HaveSameSets mid (set mid n ray)
  after_mid = same_with mid n ray (omega (arith, same.many)) own

  -- the new changes are all of the next ray, and the others of rays before it
  new_elsewhere : (pick : WordChange → ℕ) (m l : ℕ) → m < n → among pick (changes ++ added) m l ≡ among pick changes m l
  new_elsewhere pick m l lt =
      among_append pick changes added m l
      ∙ ap (λ t. among pick changes m l || t) (among_none pick added m l
      (λ i d less. other_ray pick (get_or added i d) m l (λ e. omega (arith, e, (next.each i d less).number))))
      ∙ or_false (among pick changes m l)

  new_here : (pick : WordChange → ℕ) (l : ℕ) → among pick (changes ++ added) n l ≡ among pick added n l
  new_here pick l =
      among_append pick changes added n l
      ∙ ap (λ t. t || among pick added n l) (among_none pick changes n l
      (λ i d less. other_ray pick (get_or changes i d) n l (λ e. omega (arith, e, (h.each i d less).below))))

  old_stays : (i : ℕ) (d : WordChange) → i < length changes → IsChangeFrom (set mid n ray) lo (n + 1) (get_or changes i d)
  old_stays i d lt =
      let here = h.each i d lt in
      record {
        on = change_stays mid (set mid n ray) (get_or changes i d) after_mid here.on;
        from = here.from;
        below = omega
            (arith, here.below);
      }

  kept_here : (m : ℕ) → m ≡ n → kept_at (set mid n ray) m ≡ ray
  kept_here m e = ap (kept_at (set mid n ray)) e ∙ get_or-set_same mid n ray no_sets (omega (arith, same.many))

  new_stays : (i : ℕ) (d : WordChange) → i < length added → IsChangeFrom (set mid n ray) lo (n + 1) (get_or added i d)
  new_stays i d lt =
      let change = get_or added i d in
      let here = next.each i d lt in
      let own_ray = sym (kept_here change.ray here.number) in
      let size : length (set mid n ray) ≡ length mid = length-set mid n ray in
      record {
        on = record {
          ray = omega (arith, here.number, same.many);
          kept = subst (λ (r : KeptSets). IsKept r change.word) own_ray here.kept;
          sure = subst (λ (r : KeptSets). IsBelow (length r.sets.stock) change.word change.sure) own_ray here.sure;
          possible = subst (λ (r : KeptSets). IsBelow (length r.sets.stock) change.word change.possible) own_ray here.possible;
        };
        from = omega (arith, here.number);
        below = omega (arith, here.number);
      }

  found_here : found ≡ ray_found plan move strip before n
  found_here =
      next.found
      ∙ ap₂ (λ (d : Sets) (k : ℕ). findings (seen_on d (sure_there plan move strip n) (possible_there plan move strip n) move.rapid)
      (range_with_len 0 k)) sets_are points_are

  pub rays_more : (total : Counts) (after : List WordChange) → total ≡ plus counts found → after ≡ changes ++ added
      → AreRaysMarked plan move strip before (set mid n ray) lo (n + 1) after total
  rays_more total after is_total is_after =
      subst (λ (c : List WordChange). AreRaysMarked plan move strip before (set mid n ray) lo (n + 1) c total) (sym is_after)
      (record {
        new_sure = λ m l ge lt below.
            ⊎_elim
            (λ (less : m < n). new_elsewhere sure_of m l less ∙ h.new_sure m l ge less below)
            (λ (more : n ≤ m).
            let e : n ≡ m = omega arith in
            subst (λ (k : ℕ). l < points_at plan.grid strip k → among sure_of (changes ++ added) k l ≡
            (has (sets_of before k).stock l && (sure_there plan move strip k l && not (has (sets_of before k).sure l)))) e
            (λ here. new_here sure_of l ∙ next.new_sure l (omega (arith, points_are, here)) ∙ ap
            (λ (d : Sets). has d.stock l && (sure_there plan move strip n l && not (has d.sure l))) sets_are) below)
            (cases_lt m n);
        new_possible = λ m l ge lt below.
            ⊎_elim
            (λ (less : m < n). new_elsewhere possible_of m l less ∙ h.new_possible m l ge less below)
            (λ (more : n ≤ m).
            let e : n ≡ m = omega arith in
            subst (λ (k : ℕ). l < points_at plan.grid strip k → among possible_of (changes ++ added) k l ≡
            (has (sets_of before k).stock l && (possible_there plan move strip k l && not (has (sets_of before k).possible l)))) e
            (λ here. new_here possible_of l ∙ next.new_possible l (omega (arith, points_are, here)) ∙ ap
            (λ (d : Sets). has d.stock l && (possible_there plan move strip n l && not (has d.possible l))) sets_are) below)
            (cases_lt m n);
        each = All-append (IsChangeFrom (set mid n ray) lo (n + 1)) changes added old_stays new_stays;
        order = order_append changes added h.order next.order
            (λ i k d lt lt'. ahead_by_ray (get_or changes i d) (get_or added k d)
            (omega (arith, (h.each i d lt).below, (next.each k d lt').number)));
        found =
            is_total ∙ ap₂ plus h.found found_here
            ∙ sym (sum_more (ray_found plan move strip before) lo (n - lo) n (omega arith))
            ∙ ap (sum_over (ray_found plan move strip before) lo) (let q : n - lo + 1 ≡ n + 1 - lo = omega arith in q);
      })

-- what is found on a ray is within what 32 bits hold, and on many rays within that times their number
pub ray_within : (ray : KeptSets) (sure possible : ℕ → Bool) (rapid : Bool) (n : ℕ) (changes : List WordChange) (counts : Counts)
    → IsRayMarked ray sure possible rapid n changes counts → AreWithin (2 ^ 32 - 1) counts
ray_within ray sure possible rapid n changes counts h =
    subst (λ (c : Counts). AreWithin (2 ^ 32 - 1) c) (sym h.found)
    (found_within (seen_on ray.sets sure possible rapid) 0 (length ray.sets.stock) (2 ^ 32 - 1) (omega (arith, h.few)))
