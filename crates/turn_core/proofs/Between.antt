-- Steps take strips on and never back.
use Rattle.std.proofs.Common.{◌≡◌, ℕ, ◌+◌, ◌<◌, ◌≤◌, All, List, [], ◌∷◌, ◌++◌, length, map, get_or, set, take, drop, max, min, arith, refl, sym, ap, ◌∙◌, subst}
use Rattle.std.proofs.lemmas.List.{get_or-map, get_or-set_other, get_or-set_same, get_or_past, length-map, length-set, take-append-drop}
use Rattle.std.proofs.lemmas.Option.{slice_get-get_or}
use native.Mathlib.Decide.{dec_le}
use mathlib.Core.Logic.{dite}
use Rattle.ray_grid.specs.Strips.{strip_number}
use Rattle.edit_plan.specs.Queries.{IsQuery}
use Rattle.edit_plan.specs.declared.query.Ask.{Ask}
use Rattle.edit_plan.specs.declared.query.Ask.TheVariants.{Count, Probe}
use Rattle.edit_plan.specs.declared.query.Query.{Query}
use Rattle.job_model.specs.Tasks.{Job, PlanOf}
use Rattle.strip_journal.specs.Strips.{StripOf}
use Rattle.turn_core.specs.declared.step.Step.{Step}
use Rattle.turn_core.specs.declared.step.Step.TheVariants.{Ask as ask_step, Turn}
use Rattle.turn_core.specs.Turns.{IsStopped}
use Rattle.turn_core.specs.World.{AreBetween, AreOfPlan, AreStrips, AreUpTo, after_ask, after_step, after_steps, query_at, versions_of}
use Rattle.turn_core.proofs.Replaced.{plan_is}
use Rattle.turn_core.proofs.Steps.{after_more}
use Rattle.turn_core.proofs.Versions.{version_at, versions_set}

up_same : (vs : List ℕ) → AreUpTo vs vs
up_same vs = record { many = refl; each = λ k. omega arith }

up_through : (a b c : List ℕ) → AreUpTo a b → AreUpTo b c → AreUpTo a c
up_through a b c first second = record {
  many = second.many ∙ first.many;
  each = λ k. let low = first.each k in let high = second.each k in omega (arith, low, high);
}

-- what holds of each version, and of a new one at its place, holds of each after it is set there
set_each : (P : ℕ → ℕ → Type 0) (vs : List ℕ) (k x : ℕ) → ((j : ℕ) → P j (get_or vs j 0)) → P k x → (j : ℕ) → P j (get_or (set vs k x) j 0)
set_each P vs k x old new j =
    let far : (j ≡ k → ⊥) → P j (get_or (set vs k x) j 0) = λ no. subst (P j) (sym (get_or-set_other vs k j x 0 no)) (old j) in
    dite (dec_le j k)
    (λ a. dite (dec_le k j)
    (λ b.
    let e : k ≡ j = omega (arith, a, b) in
    dite (dec_le (length vs) k)
    (λ past.
    let none = get_or_past vs j 0 (omega (arith, e, past)) in
    let still = get_or_past (set vs k x) j 0 (let size = length-set vs k x in omega (arith, e, past, size)) in
    subst (P j) (none ∙ sym still) (old j))
    (λ inside.
    subst (λ n. P n (get_or (set vs k x) n 0)) e (subst (P k) (sym (get_or-set_same vs k x 0 (omega (arith, inside)))) new)))
    (λ no. far (λ e. absurd (omega (arith, e, no)))))
    (λ no. far (λ e. absurd (omega (arith, e, no))))

-- a version is raised, and stays below where it may come
set_above : (low vs : List ℕ) (k x : ℕ) → AreUpTo low vs → get_or low k 0 ≤ x → AreUpTo low (set vs k x)
set_above low vs k x up le = record {
  many = length-set vs k x ∙ up.many;
  each = set_each (λ j v. get_or low j 0 ≤ v) vs k x up.each le;
}

set_below : (vs high : List ℕ) (k x : ℕ) → AreUpTo vs high → x ≤ get_or high k 0 → AreUpTo (set vs k x) high
set_below vs high k x up le = record {
  many = up.many ∙ sym (length-set vs k x);
  each = set_each (λ j v. v ≤ get_or high j 0) vs k x up.each le;
}

-- all versions raised to one
raised_at : (version : ℕ) (vs : List ℕ) (k : ℕ) → k < length vs → get_or (map (λ v. max v version) vs) k 0 ≡ max (get_or vs k 0) version
raised_at version vs k lt = get_or-map (λ v. max v version) vs k 0 0 lt

all_up : (version : ℕ) (vs : List ℕ) → AreUpTo vs (map (λ v. max v version) vs)
all_up version vs = record {
  many = length-map vs (λ v. max v version);
  each = λ k.
      dite (dec_le (length vs) k)
      (λ past. let none = get_or_past vs k 0 past in omega (arith, none))
      (λ inside. let is = raised_at version vs k (omega (arith, inside)) in omega (arith, is));
}

-- no version raised yet
pub none_raised : (version : ℕ) (vs : List ℕ) → AreBetween vs (map (λ v. max v version) vs) vs
none_raised version vs = record { later = up_same vs; short = all_up version vs }

-- one strip on its way to a version
pub stopped_one : (strips : List StripOf) (k : ℕ) (x new : StripOf) (version top : ℕ) → k < length strips
    → IsStopped (get_or strips k x) new version → version ≤ top
    → AreBetween (versions_of strips) (set (versions_of strips) k top) (versions_of (set strips k new))
stopped_one strips k x new version top lt stopped le =
    let vs = versions_of strips in
    let size = length-map strips (λ (s : StripOf). s.done) in
    let old = version_at strips k x lt in
    let later = stopped.later in
    let short = stopped.short in
    let here = get_or-set_same vs k top 0 (omega (arith, lt, size)) in
    let on : AreUpTo vs (set vs k top) = set_above vs vs k top (up_same vs) (omega (arith, old, later, short, le)) in
    subst (λ (z : List ℕ). AreBetween vs (set vs k top) z) (sym (versions_set strips k new))
    (record {
      later = set_above vs vs k new.done (up_same vs) (omega (arith, old, later));
      short = set_below vs (set vs k top) k new.done on (omega (arith, here, short, le));
    })

-- one strip more on its way, of which each goes to that version
pub raised_one : (strips : List StripOf) (version k : ℕ) (x new : StripOf) (vs : List ℕ) → k < length strips
    → (get_or strips k x).done ≤ new.done → new.done ≤ max (get_or strips k x).done version
    → AreBetween vs (map (λ v. max v version) vs) (versions_of strips)
    → AreBetween vs (map (λ v. max v version) vs) (versions_of (set strips k new))
raised_one strips version k x new vs lt later short between =
    let size = length-map strips (λ (s : StripOf). s.done) in
    let many = between.later.many in
    let old = version_at strips k x lt in
    let low = between.later.each k in
    let high = between.short.each k in
    let top = raised_at version vs k (omega (arith, lt, size, many)) in
    subst (λ (z : List ℕ). AreBetween vs (map (λ v. max v version) vs) z) (sym (versions_set strips k new))
    (record {
      later = set_above vs (versions_of strips) k new.done between.later (omega (arith, low, old, later));
      short = set_below (versions_of strips) (map (λ v. max v version) vs) k new.done between.short (omega (arith, high, old, short, top));
    })

-- no version is past the last edit
record AreWithin (edits : ℕ) (vs : List ℕ) : Type 0 where
  each : (k : ℕ) → get_or vs k 0 ≤ edits

within_set : (edits : ℕ) (vs : List ℕ) (k x : ℕ) → AreWithin edits vs → x ≤ edits → AreWithin edits (set vs k x)
within_set edits vs k x within le = record { each = set_each (λ j v. v ≤ edits) vs k x within.each le }

within_all : (edits version : ℕ) (vs : List ℕ) → AreWithin edits vs → version ≤ edits → AreWithin edits (map (λ v. max v version) vs)
within_all edits version vs within le = record {
  each = λ k.
      dite (dec_le (length vs) k)
      (λ past.
      let size = length-map vs (λ v. max v version) in
      let none = get_or_past (map (λ v. max v version) vs) k 0 (omega (arith, past, size)) in omega (arith, none))
      (λ inside.
      let is = raised_at version vs k (omega (arith, inside)) in let old = within.each k in omega (arith, is, old, le));
}

-- after a step the versions are up from before, and still within
record IsUpWithin (edits : ℕ) (before after : List ℕ) : Type 0 where
  up : AreUpTo before after
  within : AreWithin edits after

ask_up : (plan : PlanOf) (version : ℕ) (ask : Ask) (vs : List ℕ) → AreWithin (length plan.edits) vs → version ≤ length plan.edits
    → IsUpWithin (length plan.edits) vs (after_ask plan version ask vs)
ask_up plan version (Probe ray l) vs within le =
    let k = strip_number plan.grid ray.family ray.i in
    let old = within.each k in
    record {
      up = set_above vs vs k (max (get_or vs k 0) version) (up_same vs) (omega arith);
      within = within_set (length plan.edits) vs k (max (get_or vs k 0) version) within (omega (arith, old, le));
    }
ask_up plan version Count vs within le = record {
  up = all_up version vs;
  within = within_all (length plan.edits) version vs within le;
}

-- no query is at a version past the last edit
asked_within : (plan : PlanOf) (queries : List Query) (n : ℕ) → All (IsQuery plan.grid (length plan.edits)) queries
    → (query_at queries n).version ≤ length plan.edits
asked_within plan queries n asks =
    let none : Query = record { version = 0; ask = Count } in
    dite (dec_le (length queries) n)
    (λ past. let is = ap (λ (q : Query). q.version) (get_or_past queries n none past) in omega (arith, is))
    (λ inside. (asks n none (omega (arith, inside))).version)

step_up : (plan : PlanOf) (queries : List Query) (vs : List ℕ) (step : Step) → All (IsQuery plan.grid (length plan.edits)) queries
    → AreWithin (length plan.edits) vs → IsUpWithin (length plan.edits) vs (after_step plan queries vs step)
step_up plan queries vs (Turn k) asks within =
    let old = within.each k in
    record {
      up = set_above vs vs k (min (get_or vs k 0 + 8) (length plan.edits)) (up_same vs) (omega (arith, old));
      within = within_set (length plan.edits) vs k (min (get_or vs k 0 + 8) (length plan.edits)) within (omega arith);
    }
step_up plan queries vs (ask_step n) asks within =
    ask_up plan (query_at queries n).version (query_at queries n).ask vs within (asked_within plan queries n asks)

steps_up : (plan : PlanOf) (queries : List Query) (vs : List ℕ) (steps : List Step) → All (IsQuery plan.grid (length plan.edits)) queries
    → AreWithin (length plan.edits) vs → IsUpWithin (length plan.edits) vs (after_steps plan queries vs steps)
steps_up plan queries vs [] asks within = record { up = up_same vs; within = within }
steps_up plan queries vs (step ∷ steps) asks within =
    let one = step_up plan queries vs step asks within in
    let rest = steps_up plan queries (after_step plan queries vs step) steps asks one.within in
    record { up = up_through vs _ _ one.up rest.up; within = rest.within }

after_both : (plan : PlanOf) (queries : List Query) (vs : List ℕ) (xs ys : List Step)
    → after_steps plan queries vs (xs ++ ys) ≡ after_steps plan queries (after_steps plan queries vs xs) ys
after_both plan queries vs [] ys = refl
after_both plan queries vs (x ∷ xs) ys = after_both plan queries (after_step plan queries vs x) xs ys

-- strips of a job are within its edits
strips_within : (plan : PlanOf) (job : Job) (strips : List StripOf) → AreOfPlan plan strips → AreStrips job strips
    → AreWithin (length plan.edits) (versions_of strips)
strips_within plan job strips of all = record {
  each = λ k.
      let none : StripOf = record { job = job; number = 0; done = 0 } in
      dite (dec_le (length strips) k)
      (λ past.
      let size = length-map strips (λ (s : StripOf). s.done) in
      let past_all = get_or_past (versions_of strips) k 0 (omega (arith, past, size)) in omega (arith, past_all))
      (λ inside.
      let lt : k < length strips = omega (arith, inside) in
      let is = get_or-map (λ (s : StripOf). s.done) strips k none 0 lt in
      let within = (all.each k (get_or strips k none) (slice_get-get_or strips k none lt)).within in
      let same : length job.plan.edits ≡ length plan.edits =
      ap (λ (p : PlanOf). length p.edits) (plan_is plan job strips k none of all lt) in
      omega (arith, is, within, same));
}

-- after a step that was done the strips are where it leads
pub asked_between : (plan : PlanOf) (job : Job) (queries : List Query) (before after : List StripOf) (step : Step)
    → All (IsQuery plan.grid (length plan.edits)) queries → AreOfPlan plan before → AreStrips job before
    → versions_of after ≡ after_step plan queries (versions_of before) step
    → AreBetween (versions_of before) (after_step plan queries (versions_of before) step) (versions_of after)
asked_between plan job queries before after step asks of all is =
    let high = after_step plan queries (versions_of before) step in
    let up = (step_up plan queries (versions_of before) step asks (strips_within plan job before of all)).up in
    subst (λ (z : List ℕ). AreBetween (versions_of before) high z) (sym is) (record { later = up; short = up_same high })

-- strips that were stopped at a step are between where they were at first and where all steps lead
pub stopped_at : (plan : PlanOf) (job : Job) (queries : List Query) (before now after : List StripOf) (steps : List Step) (k : ℕ)
    (x : Step) → k < length steps → All (IsQuery plan.grid (length plan.edits)) queries → AreOfPlan plan before → AreStrips job before
    → versions_of now ≡ after_steps plan queries (versions_of before) (take k steps)
    → AreBetween (versions_of now) (after_step plan queries (versions_of now) (get_or steps k x)) (versions_of after)
    → AreBetween (versions_of before) (after_steps plan queries (versions_of before) steps) (versions_of after)
stopped_at plan job queries before now after steps k x lt asks of all is between =
    let vs = versions_of before in
    let within = strips_within plan job before of all in
    let first = steps_up plan queries vs (take k steps) asks within in
    let more = steps_up plan queries vs (take (k + 1) steps) asks within in
    let rest = steps_up plan queries (after_steps plan queries vs (take (k + 1) steps)) (drop (k + 1) steps) asks more.within in
    let ahead = after_steps plan queries vs (take (k + 1) steps) in
    let next : after_step plan queries (versions_of now) (get_or steps k x) ≡ ahead =
    ap (λ (z : List ℕ). after_step plan queries z (get_or steps k x)) is ∙ after_more plan queries vs steps k x lt in
    let whole = sym (after_both plan queries vs (take (k + 1) steps) (drop (k + 1) steps))
    ∙ ap (after_steps plan queries vs) (take-append-drop (k + 1) steps) in
    record {
      later = up_through vs (versions_of now) (versions_of after) (subst (λ (z : List ℕ). AreUpTo vs z) (sym is) first.up) between.later;
      short = up_through (versions_of after) ahead (after_steps plan queries vs steps)
          (subst (λ (z : List ℕ). AreUpTo (versions_of after) z) next between.short)
          (subst (λ (z : List ℕ). AreUpTo ahead z) whole rest.up);
    }
