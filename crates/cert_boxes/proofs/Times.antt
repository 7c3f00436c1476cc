-- The finest cells stand for the rational times.
use Rattle.std.proofs.Common.{◌≡◌, ℕ, ◌+◌, ◌-◌, ◌*◌, ◌^◌, ◌<◌, ◌≤◌, true, ◌&&◌, leb, ltb, List, arith, ap, sym, ◌∙◌}
use Rattle.std.specs.List.{list_all, list_any}
use Rattle.std.proofs.lemmas.Bool.{and_from, and_parts, le-leb, leb-true, lt-ltb, ltb-true}
use Rattle.std.proofs.lemmas.Nat.{pow-add}
use Rattle.std.proofs.Math.Nat.{le_of_mul-le-mul_left, mul-le-mul_left}
use Rattle.std.proofs.Math.Pow.{pow_mono}
use Rattle.space.specs.Sweeps.{IsTime}
use Rattle.bern_form.specs.Cells.{IsInCell}
use Rattle.bern_form.proofs.Exclusion.{cell_of}
use Rattle.ray_grid.specs.Grids.{GridSize}
use Rattle.ray_grid.specs.Points.{LatticePoint}
use Rattle.cert_lines.specs.Certificates.{is_cell_on}
use Rattle.cert_lines.specs.Spelling.{is_same_ray}
use Rattle.cert_lines.specs.declared.cell.CertCell.{CertCell}
use Rattle.cert_boxes.specs.Covering.{finest_in, is_among, is_covered, is_during, names}
use Rattle.cert_boxes.specs.Untouched.{NamesAt, TimesAreCovered}
use Rattle.cert_boxes.proofs.Covers.{all_at, all_from}
use Rattle.cert_boxes.proofs.Listed.{all_listed, any_listed, some_item}
use Rattle.cert_boxes.proofs.RowLemmas.{line_in_range}

-- the cells of a level have all the finest cells together
pub levels_fit : (q : ℕ) → q ≤ 10 → 2 ^ q * finest_in q ≡ 1024
levels_fit q few = let whole : q + (10 - q) ≡ 10 = omega arith in sym (pow-add 2 q (10 - q)) ∙ ap (λ n. 2 ^ n) whole

some_power : (n : ℕ) → 0 < 2 ^ n
some_power n = let some : 2 ^ 0 ≤ 2 ^ n = pow_mono {i = 0} {j = n} (omega arith) in some

-- a time of a finest cell is one of the cell that has it
first_end : (k D Q e a b : ℕ) → 0 < D → Q * D ≡ 1024 → k * D ≤ e → e * b ≤ a * 1024 → k * b ≤ a * Q
first_end k D Q e a b some whole low after =
    let one = mul-le-mul_left b low in
    let scale : a * (Q * D) ≡ a * 1024 = ap (λ n. a * n) whole in
    let scaled : D * (k * b) ≤ D * (a * Q) = omega arith in
    le_of_mul-le-mul_left {m = k * b} {n = a * Q} {k = D} scaled some

last_end : (k D Q e a b : ℕ) → 0 < D → Q * D ≡ 1024 → e < k * D + D → a * 1024 ≤ (e + 1) * b → a * Q ≤ (k + 1) * b
last_end k D Q e a b some whole high before =
    let next : e + 1 ≤ k * D + D = omega arith in
    let one = mul-le-mul_left b next in
    let scale : a * (Q * D) ≡ a * 1024 = ap (λ n. a * n) whole in
    let scaled : D * (a * Q) ≤ D * ((k + 1) * b) = omega arith in
    le_of_mul-le-mul_left {m = a * Q} {n = (k + 1) * b} {k = D} scaled some

during_time : (cell : CertCell) (e a b : ℕ) → cell.q ≤ 10 → is_during e cell ≡ true → IsInCell e 1024 a b → IsInCell cell.k (2 ^ cell.q) a b
during_time cell e a b few during time =
    let both = and_parts (leb (cell.k * finest_in cell.q) e) (ltb e (cell.k * finest_in cell.q + finest_in cell.q)) during in
    let low = leb-true (cell.k * finest_in cell.q) e both.0 in
    let high = ltb-true e (cell.k * finest_in cell.q + finest_in cell.q) both.1 in
    let whole = levels_fit cell.q few in let some = some_power (10 - cell.q) in record {
      denominator = time.denominator;
      after = first_end cell.k (finest_in cell.q) (2 ^ cell.q) e a b some whole low time.after;
      before = last_end cell.k (finest_in cell.q) (2 ^ cell.q) e a b some whole high time.before;
    }

-- a point that is covered is named at each time
pub named_at : (grid : GridSize) (cells : List CertCell) (point : LatticePoint) → list_all (is_cell_on grid) cells ≡ true → is_covered cells point ≡ true
    → (a b : ℕ) → IsTime a b → NamesAt cells point a b
named_at grid cells point on covered a b time =
    let at = cell_of a b 1024 time (omega arith) in
    let some = some_item (names point at.0) cells (all_at (λ e. list_any (names point e) cells) 0 1024 covered at.0 (omega arith) (let l = at.1 in omega arith)) in
    let cell = some.0 in
    let first = and_parts (is_same_ray cell.ray point.ray) (is_among point.l cell && is_during at.0 cell) some.2 in
    let last = and_parts (is_among point.l cell) (is_during at.0 cell) first.1 in
    let range = line_in_range grid cell (all_listed (is_cell_on grid) cells on cell some.1) in record {
      cell = cell;
      listed = some.1;
      same = first.0;
      among = last.0;
      during = during_time cell at.0 a b range.few last.1 at.2;
    }

-- the middle of a finest cell is in no other, so the cell that has that time has the finest cell
middle_after : (k D Q e : ℕ) → 0 < Q → Q * D ≡ 1024 → k * 2048 ≤ (2 * e + 1) * Q → k * D ≤ e
middle_after k D Q e some whole h =
    let scale : 2 * k * (Q * D) ≡ 2 * k * 1024 = ap (λ n. 2 * k * n) whole in
    let scaled : Q * (k * D * 2) ≤ Q * (2 * e + 1) = omega arith in
    let twice : k * D * 2 ≤ 2 * e + 1 = le_of_mul-le-mul_left {m = k * D * 2} {n = 2 * e + 1} {k = Q} scaled some in
    omega arith

middle_before : (k D Q e : ℕ) → 0 < Q → Q * D ≡ 1024 → (2 * e + 1) * Q ≤ (k + 1) * 2048 → e < k * D + D
middle_before k D Q e some whole h =
    let scale : 2 * (k + 1) * (Q * D) ≡ 2 * (k + 1) * 1024 = ap (λ n. 2 * (k + 1) * n) whole in
    let scaled : Q * (2 * e + 1) ≤ Q * ((k * D + D) * 2) = omega arith in
    let twice : 2 * e + 1 ≤ (k * D + D) * 2 = le_of_mul-le-mul_left {m = 2 * e + 1} {n = (k * D + D) * 2} {k = Q} scaled some in
    omega arith

pub covered_by_times : (grid : GridSize) (cells : List CertCell) (point : LatticePoint) → list_all (is_cell_on grid) cells ≡ true
    → ((a b : ℕ) → IsTime a b → NamesAt cells point a b) → is_covered cells point ≡ true
covered_by_times grid cells point on named =
    all_from (λ e. list_any (names point e) cells) 0 1024
    (λ e after before.
    let is = named (2 * e + 1) 2048 (omega arith, omega arith) in
    let cell = is.cell in let time = is.during in
    let range = line_in_range grid cell (all_listed (is_cell_on grid) cells on cell is.listed) in
    let whole = levels_fit cell.q range.few in let some = some_power cell.q in
    let low = middle_after cell.k (finest_in cell.q) (2 ^ cell.q) e some whole time.after in
    let high = middle_before cell.k (finest_in cell.q) (2 ^ cell.q) e some whole time.before in
    any_listed (names point e) cells cell is.listed
    (and_from (is_same_ray cell.ray point.ray) (is_among point.l cell && is_during e cell) is.same (and_from (is_among point.l cell) (is_during e cell) is.among
    (and_from (leb (cell.k * finest_in cell.q) e) (ltb e (cell.k * finest_in cell.q + finest_in cell.q)) (le-leb (cell.k * finest_in cell.q) e low) (lt-ltb e (cell.k * finest_in cell.q + finest_in cell.q) high)))))

pub times_are_covered : TimesAreCovered
times_are_covered = λ grid cells point on. (λ covered. named_at grid cells point on covered, λ named. covered_by_times grid cells point on named)
