-- Raising strips and asking draw no ticket.
use Rattle.std.proofs.Common.{◌≡◌, ℕ, suc, List, [], ◌∷◌, arith, refl, sym, ap, ◌∙◌}
use mathlib.Core.Option.{some, some-injective}
use lib.ListN.{get_elem?}
use Rattle.edit_plan.specs.declared.query.Query.{Query}
use Rattle.strip_turns.specs.declared.view.BoardStart.{BoardStart}
use Rattle.strip_turns.specs.declared.view.LogEntry.{LogEntry}
use Rattle.strip_turns.specs.Log.{tally, drew}
use Rattle.strip_turns.specs.Asks.{IsRise, count_asked, first_asked}
use Rattle.strip_turns.proofs.Logs.{tally_both}
use Rattle.strip_turns.proofs.Asking.{below_len}
use Rattle.worker_gate.specs.Asking.{IsAsking, more}
use Rattle.worker_gate.specs.Asking as asking

tally_zero : (f : LogEntry → ℕ) (es : List LogEntry) → ((i : ℕ) (e : LogEntry) → get_elem? es i ≡ some e → f e ≡ 0) → tally f es ≡ 0
tally_zero f [] h = refl
tally_zero f (e ∷ es) h = let a = h 0 e refl in let b = tally_zero f es (λ i x at. h (suc i) x at) in omega arith

pub rise_no_draw : (c : BoardStart) (version first count t : ℕ) (es : List LogEntry) → IsRise c version first count es → tally (drew t) es ≡ 0
rise_no_draw c version first count t es h = tally_zero (drew t) es (λ i e at.
    let r = h.each i (below_len es i count e at h.many) in ap (drew t) (some-injective e _ (sym at ∙ r.2)))

pub asking_no_draw : (c : BoardStart) (t : ℕ) (qs : List Query) (es : List LogEntry) → IsAsking c qs es → tally (drew t) es ≡ 0
asking_no_draw c t qs es asking.nothing = refl
asking_no_draw c t qs es (more ps q zs ys h r) =
    let a = asking_no_draw c t ps zs h in
    let b = rise_no_draw c q.version (first_asked c.plan q.ask) (count_asked c.plan q.ask) t ys r in
    let e = tally_both (drew t) zs ys in omega arith
