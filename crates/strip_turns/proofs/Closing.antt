-- With one pass, which holds nothing, each strip is home.
use Rattle.std.proofs.Common.{◌≡◌, ℕ, zero, suc, ◌+◌, ◌*◌, ◌^◌, ◌<◌, ◌≤◌, ⊎_elim, ◌⊎◌, inl, inr, List, [], ◌∷◌, ◌++◌, length, slice_get, Option, Some, None, arith, refl, sym, ap, ◌∙◌, subst, get_or, set, Bool, false}
use Rattle.std.proofs.Math.ListN.{length-append}
use Rattle.std.proofs.lemmas.Grind.{common_steps}
use Rattle.std.proofs.lemmas.List.{get_or-set_other}
use Rattle.std.proofs.lemmas.Option.{slice_get-get_or, slice_get_within}
use Rattle.std.specs.Mem.Slots.Ownership.{Filled}
use mathlib.Core.Logic.{dite}
use native.Mathlib.Decide.{ℕ_discrete}
use mathlib.Core.Option.{some, some-injective}
use lib.ListN.{get_elem?}
use Rattle.atomic_table.specs.Table.{Final, Seen}
use Rattle.edit_plan.specs.Limits.{most_edits}
use Rattle.job_model.specs.Tasks.{Job, PlanOf}
use Rattle.strip_journal.specs.Strips.{StripOf}
use Rattle.turn_core.specs.World.{AreOfPlan, AreStrips}
use Rattle.strip_turns.specs.declared.view.View.{View}
use Rattle.strip_turns.specs.declared.view.BoardStart.{BoardStart}
use Rattle.strip_turns.specs.Log.{tally, drew, did, strayed}
use Rattle.strip_turns.specs.Cards.{start_version, last}
use Rattle.strip_turns.specs.Sound.{held_in, IsSound, strip_word}
use Rattle.strip_turns.specs.Plays.{IsAlone}
use Rattle.strip_turns.specs.Closed.{IsReturnedStrip, IsHomeWord, AllHome, AllThere, AllOut, AreBoardStrips}
use Rattle.strip_turns.proofs.Totals.{total_at}
use Rattle.strip_turns.proofs.Taking.{there}
use Rattle.strip_turns.proofs.Logs.{seen_within}
use Rattle.strip_turns.proofs.Rosters.{some_is, some_none, named, alone}
use Rattle.strip_turns.proofs.Cases.{plan_of, number_of, job_of}

all_home_at : (card : BoardStart) (id : ℕ) (v : View) (c : BoardStart) (words : List ℕ) (slots : List (Option StripOf)) → v.card ≡ Some c
    → v.held ≡ None → IsAlone v → Final (Seen (IsSound card) id v) words slots → AllHome card v words slots
all_home_at card id v c words slots has idle is f =
    let s = f.0 in
    let h = f.1.0 in
    let at = f.1.1 in
    let only = alone card s.views id v h.roster at is.first is.out in record {
      many = sym f.3 ∙ h.strips;
      each = λ k lt.
          let lt' : k < length s.homes = (let q = f.3 in omega arith) in
          ⊎_elim
          (λ p. (
            p.0,
            f.4 k (Some p.0) p.1.there,
            record {
              of_case = p.1.of_case;
              seen =
                  (let a = total_at (λ u. tally (strayed k (start_version card k) p.0.done) u.log) s.views id v at in
                  let b = p.1.logged.strayed in
                  seen_within k (start_version card k) (start_version card k) p.0.done v.log (omega arith) p.1.logged.started);
              did = λ x. sym (only (λ u. tally (did k x) u.log) refl) ∙ p.1.logged.did x;
            },
            subst (λ (l : List ℕ). IsHomeWord l k p.0) f.2 p.1.word,
          ))
          (λ p.
          let a = only (λ u. held_in k u.held) refl in
          let b : held_in k v.held ≡ 0 = ap (held_in k) idle in
          let d = p.2.logged.held in absurd (omega arith))
          (h.places k lt');
      drawn = (get_or s.words 0 0, λ x. sym (only (λ u. tally (drew x) u.log) refl) ∙ h.drawn.once x);
    }

pub all_home : (card : BoardStart) (id : ℕ) (v : View) (c : BoardStart) (words : List ℕ) (slots : List (Option StripOf)) → v.card ≡ Some c
    → v.held ≡ None → IsAlone v → Final (Seen (IsSound card) id v) words slots → AllHome c v words slots
all_home card id v c words slots has idle is f =
    let e : card ≡ c = some_is card c (sym (named card f.0.views id v c f.1.0.roster f.1.1 has) ∙ has) in
    subst (λ z. AllHome z v words slots) e (all_home_at card id v c words slots has idle is f)

pub all_there : (c : BoardStart) (v : View) (words : List ℕ) (slots : List (Option StripOf)) → last c ≤ most_edits → AllHome c v words slots
    → AllThere words slots
all_there c v words slots few h = record {
  each = λ k lt. let e = h.each k lt in (e.0, e.1, e.3, (let within = e.2.of_case.within in omega arith));
}

-- the strips that were taken out are given in order
pub in_order : (c : BoardStart) (v : View) (words : List ℕ) (slots : List (Option StripOf)) (strips : List StripOf) (n : ℕ)
    → AllHome c v words slots → length slots ≡ n → AllOut slots strips n → AreBoardStrips c v strips
in_order c v words slots strips n h len out = record {
  many = out.many ∙ sym len ∙ h.many;
  each = λ k s at.
      let within = slice_get_within strips k s at in
      let many = out.many in
      let e = h.each k (omega arith) in
      subst (IsReturnedStrip c v k) (some_is e.0 s (some-injective (Some e.0) (Some s) (sym e.1 ∙ out.each k s at))) e.2;
}

-- they are the plan's
pub given_plan : (c : BoardStart) (plan : PlanOf) (v : View) (strips : List StripOf) → AreOfPlan c.plan c.strips → c.plan ≡ plan
    → AreBoardStrips c v strips → AreOfPlan plan strips
given_plan c plan v strips h is given =
    subst (λ (p : PlanOf). AreOfPlan p strips) is (record {
      many = given.many ∙ h.many;
      plans = λ k s at. plan_of c k s.done s h (given.each k s at).of_case;
      numbers = λ k s at. number_of c k s.done s h (given.each k s at).of_case;
    })

-- and the job's
pub given_job : (c : BoardStart) (job : Job) (v : View) (strips : List StripOf) → AreOfPlan c.plan c.strips → AreStrips job c.strips
    → AreBoardStrips c v strips → AreStrips job strips
given_job c job v strips h all given = record {
  many = given.many ∙ all.many;
  each = λ k s at.
      let case = (given.each k s at).of_case in
      let same : job.plan ≡ c.plan = ap (λ (j : Job). j.plan) (sym (job_of c job k s.done s all case)) ∙ plan_of c k s.done s h case in
      let edits : length job.plan.edits ≡ last c = ap (λ (p : PlanOf). length p.edits) same in
      let within = case.within in
      record { job_is = job_of c job k s.done s all case; number_is = number_of c k s.done s h case; within = omega arith };
}

-- the strip that is at a place, and its word
pub there_is : (words : List ℕ) (slots : List (Option StripOf)) (k : ℕ) (x : Option StripOf) → AllThere words slots → k < length slots
    → get_elem? slots k ≡ some x → (s : StripOf) × (x ≡ Some s) × IsHomeWord words k s × (s.done ≤ most_edits)
there_is words slots k x h lt at = let e = h.each k lt in (e.0, some-injective x (Some e.0) (sym at ∙ e.1), e.2, e.3)

-- what is read of its word is its version
pub word_is : (words : List ℕ) (slots : List (Option StripOf)) (k i found : ℕ) (x : Option StripOf) (s : StripOf) → AllThere words slots
    → k < length slots → get_elem? slots k ≡ some x → x ≡ Some s → i ≡ strip_word k → i < length words → get_elem? words i ≡ some found
    → (found ≡ (s.done + 1) * 2 ^ 40) × (s.done ≤ most_edits)
word_is words slots k i found x s h lt at is place low read =
    let t = there_is words slots k x h lt at in
    let same : t.0 ≡ s = some_is t.0 s (sym t.1 ∙ is) in
    let own : found ≡ get_or words i 0 = some-injective found (get_or words i 0) (sym read ∙ there words i low) in
    subst (λ (z : StripOf). (found ≡ (z.done + 1) * 2 ^ 40) × (z.done ≤ most_edits)) same
    (own ∙ ap (λ (n : ℕ). get_or words n 0) place ∙ t.2, t.3)

-- an element of a list with one more was there before, or is the one
one_more : {A : Type 0} (xs : List A) (y : A) (k : ℕ) (x : A) → slice_get (xs ++ y ∷ []) k ≡ Some x
    → (slice_get xs k ≡ Some x) ⊎ ((k ≡ length xs) × (y ≡ x))
one_more [] y zero x e = inr (refl, some_is y x e)
one_more [] y (suc k) x e = absurd (some_none x e)
one_more (z ∷ xs) y zero x e = inl e
one_more (z ∷ xs) y (suc k) x e = ⊎_elim inl (λ p. inr (let q = p.0 in omega arith, p.1)) (one_more xs y k x e)

pub all_out_push : (slots : List (Option StripOf)) (strips : List StripOf) (n : ℕ) (s : StripOf) → AllOut slots strips n
    → get_elem? slots n ≡ some (Some s) → AllOut slots (strips ++ s ∷ []) (n + 1)
all_out_push slots strips n s h there = record {
  many = length-append strips (s ∷ []) ∙ (let l = h.many in omega arith);
  each = λ k x at. ⊎_elim
      (λ old. h.each k x old)
      (λ p. ap (get_elem? slots) (p.0 ∙ h.many) ∙ there ∙ ap (λ z. some (Some z)) p.1)
      (one_more strips s k x at);
}

-- the marks of full slots, once one more was emptied
pub filled_after : (fs gs : List Bool) (i m n : ℕ) → gs ≡ set fs i false → n ≡ m → Filled fs i m → Filled gs (i + 1) n
filled_after fs gs i m n e same h =
    λ k low high. ap (λ l. get_or l k false) e ∙ get_or-set_other fs i k false false (λ q. omega arith) ∙ h k (omega arith) (omega arith)

emptied : (fs : List Bool) (k i : ℕ) → k ≡ i → get_or (set fs i false) k false ≡ false
emptied fs k i same = grind (arith, common_steps)

pub emptied_after : (fs gs : List Bool) (i : ℕ) → gs ≡ set fs i false → ((k : ℕ) → k < i → get_or fs k false ≡ false)
    → (k : ℕ) → k < i + 1 → get_or gs k false ≡ false
emptied_after fs gs i e h = λ k lt. dite (ℕ_discrete k i)
    (λ same. ap (λ l. get_or l k false) e ∙ emptied fs k i same)
    (λ ne. ap (λ l. get_or l k false) e ∙ get_or-set_other fs i k false false (λ q. ne (omega arith)) ∙ h k (omega arith))

-- each strip of a plan is of it
pub all_of_plan : (plan : PlanOf) (strips : List StripOf) → AreOfPlan plan strips
    → (k : ℕ) (d : StripOf) → k < length strips → (get_or strips k d).job.plan ≡ plan
all_of_plan plan strips are k d low = are.plans k (get_or strips k d) (slice_get-get_or strips k d low)
