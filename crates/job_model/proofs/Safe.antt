-- A move that nothing is counted against keeps off.
use Rattle.std.proofs.Common.{◌≡◌, true, false, not, ℕ, ◌^◌, ◌<◌, ◌≤◌, ◌==◌, Bool, ◌&&◌, ◌||◌, List, ℤ, arith, refl, sym, subst, ⊎_elim}
use Rattle.std.specs.List.{All, Contains}
use Rattle.std.proofs.lemmas.Bool.{and_parts, cases_Bool, eqb-true}
use Rattle.std.proofs.Math.Pow.{pow_mono}
use Rattle.cutter_marks.proofs.Decided.{clear_is, clear_is_not_met, decides_sure, removed_is_met, sure_possible}
use Rattle.ray_grid.specs.Grids.{GridSize}
use Rattle.ray_grid.specs.Points.{IsPointOf, LatticePoint, lattice_of}
use Rattle.ray_grid.proofs.Listed.{listed_point}
use Rattle.dexel_rays.specs.Findings.{is_fixture_possible, is_part_possible, is_rapid_possible}
use Rattle.job_model.specs.Findings.{found_over, seen}
use Rattle.job_model.specs.Law.{SafeMoveKeepsOff}
use Rattle.job_model.specs.Meets.{LowerMeets, SomeMeets, UpperMeets}
use Rattle.job_model.specs.Points.{is_fixture, is_part, is_possible, is_stock, is_sure, some_sure}
use Rattle.job_model.specs.Tasks.{IsJobMove, JobMove, PlanOf}
use Rattle.job_model.proofs.Lists.{of_all, some_of, unnamed}

pub some_cells : (depth : ℕ) → 0 < 2 ^ depth
some_cells depth = let least : 2 ^ 0 ≤ 2 ^ depth = pow_mono {i = 0} {j = depth} (omega arith) in least

-- what a move is sure of its lower cutter meets; where it is not possible its upper cutter meets nothing
pub sure_met : (plan : PlanOf) (move : JobMove) (point : LatticePoint) → 0 < plan.slabs → IsJobMove move → is_sure plan move point ≡ true → LowerMeets move point
sure_met plan move point some valid sure =
    removed_is_met move.cutter plan.slabs move.sweep point.position (2 ^ plan.depth) valid.cutter some (some_cells plan.depth)
    ((decides_sure move.cutter plan.slabs move.sweep point.position (2 ^ plan.depth)).0 sure)

pub out_not_met : (plan : PlanOf) (move : JobMove) (point : LatticePoint) → 0 < plan.slabs → IsJobMove move → is_possible plan move point ≡ false → ¬ UpperMeets move point
out_not_met plan move point some valid out =
    clear_is_not_met move.cutter plan.slabs move.sweep point.position (2 ^ plan.depth) valid.cutter some (some_cells plan.depth) valid.sweep
    ((clear_is move.cutter plan.slabs move.sweep point.position (2 ^ plan.depth) valid.cutter some (some_cells plan.depth) valid.sweep).0 out)

-- what a move is sure of is possible too
pub sure_is_possible : (plan : PlanOf) (move : JobMove) (point : LatticePoint) → 0 < plan.slabs → IsJobMove move → is_sure plan move point ≡ true → is_possible plan move point ≡ true
sure_is_possible plan move point some valid sure =
    sure_possible move.cutter plan.slabs move.sweep point.position (2 ^ plan.depth) valid.cutter some (some_cells plan.depth) valid.sweep sure

-- where some of the moves is sure of a point, one of them meets it
pub some_meets : (plan : PlanOf) (moves : List JobMove) (point : LatticePoint) → 0 < plan.slabs → All IsJobMove moves → some_sure plan moves point ≡ true → SomeMeets moves point
some_meets plan moves point some valid sure =
    let found = some_of (λ move. is_sure plan move point) moves sure in
    record { move = found.0; among = found.1; met = sure_met plan found.0 point some (of_all IsJobMove moves found.0 valid found.1) found.2 }

pub in_either : (a b c : Bool) → (a || b) ≡ true → (a && c) ≡ false → (b && c) ≡ false → c ≡ false
in_either true b c h k l = k
in_either false true c h k l = l
in_either false false c h k l = cc

rapid_out : (rapid stock possible sure : Bool) → rapid ≡ true → stock ≡ true → sure ≡ false → (rapid && (stock && (possible && not sure))) ≡ false → possible ≡ false
rapid_out true true true true r s u h = cc
rapid_out true true true false r s u h = cc
rapid_out true true false sure r s u h = refl
rapid_out true false possible sure r s u h = cc
rapid_out false stock possible sure r s u h = cc

pub all_zero : (a b c : ℕ) → (a == 0 && (b == 0 && c == 0)) ≡ true → (a ≡ 0) × (b ≡ 0) × (c ≡ 0)
all_zero a b c h =
    let x = and_parts (a == 0) (b == 0 && c == 0) h in let y = and_parts (b == 0) (c == 0) x.1 in
    (eqb-true a 0 x.0, eqb-true b 0 y.0, eqb-true c 0 y.1)

pub listed : (grid : GridSize) (point : LatticePoint) → IsPointOf grid point → Contains (lattice_of grid) point
listed grid point of =
    subst (λ (p : List ℤ). Contains (lattice_of grid) record { ray = point.ray; l = point.l; position = p }) (sym of.position) (listed_point grid point.ray point.l of.ray of.index)

-- a move before it met a point of which it is not so that none was sure
pub met_before : (plan : PlanOf) (before : List JobMove) (point : LatticePoint) → 0 < plan.slabs → All IsJobMove before → (some_sure plan before point ≡ false → ⊥) → SomeMeets before point
met_before plan before point some valid not_none =
    ⊎_elim (λ sure. some_meets plan before point some valid sure) (λ none. absurd (not_none none)) (cases_Bool (some_sure plan before point))

pub safe_move_keeps_off : SafeMoveKeepsOff
safe_move_keeps_off job before move some ahead valid safe =
    let counts = found_over job (lattice_of job.plan.grid) before move in
    let none = all_zero counts.part_possible counts.fix_possible counts.rapid_possible safe in
    let see = seen job before move in let points = lattice_of job.plan.grid in
    record {
      solids = λ point of inside.
          let here = listed job.plan.grid point of in
          out_not_met job.plan move point some valid
          (in_either (is_part job point) (is_fixture job point) (is_possible job.plan move point) inside
          (unnamed (λ p. is_part_possible (see p)) points point none.0 here) (unnamed (λ p. is_fixture_possible (see p)) points point none.1 here));
      stock = λ point rapid of stock met.
          let here = listed job.plan.grid point of in
          met_before job.plan before point some ahead (λ gone. out_not_met job.plan move point some valid
          (rapid_out move.rapid (is_stock job point) (is_possible job.plan move point) (some_sure job.plan before point) rapid stock gone
          (unnamed (λ p. is_rapid_possible (see p)) points point none.2 here)) met);
    }
