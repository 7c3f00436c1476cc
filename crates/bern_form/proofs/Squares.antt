-- A grid whose coefficients share a strict sign has that sign on the whole square, ends included: each of its rows has it along the
-- line, so the form in time has it too.
use Rattle.std.proofs.Common.{◌≡◌, true, ℕ, ◌≤◌, ◌<◌, [], ◌∷◌, List, length, ℤ, pos, ◌<ℤ◌, arith, refl}
use Rattle.std.specs.Bool.{Decides}
use Rattle.std.specs.List.{All, list_all}
use Rattle.std.proofs.lemmas.Bool.Decides.{Decides-by_and}
use Rattle.bern_form.specs.Forms.{IsPlace, all_negative, all_positive, value1, value2}
use Rattle.bern_form.specs.Grids.{row, rows_negative, rows_positive, value21, value42}
use Rattle.bern_form.proofs.Decided.{decides_negative, decides_positive}
use Rattle.bern_form.proofs.HalfSigns.{all_five, all_three}
use Rattle.bern_form.proofs.Relations.{AllNegative, AllPositive}
use Rattle.bern_form.proofs.Signs.{negative1, negative2, negative4, positive1, positive2, positive4}

-- each row of the grid, by the tests
pub decides_rows_positive : (c : List (List ℤ)) → Decides (rows_positive c) (All AllPositive c)
decides_rows_positive c = Decides-by_and all_positive AllPositive (list_all all_positive) decides_positive refl (λ x xs. refl) c

pub decides_rows_negative : (c : List (List ℤ)) → Decides (rows_negative c) (All AllNegative c)
decides_rows_negative c = Decides-by_and all_negative AllNegative (list_all all_negative) decides_negative refl (λ x xs. refl) c

-- the lengths of the rows
pub record HasRows (n q : ℕ) (c : List (List ℤ)) : Type 0 where
  pub rows : n ≤ length c
  pub long : (k : ℕ) → k < n → q ≤ length (row c k)

row_positive : (n q k : ℕ) (c : List (List ℤ)) → HasRows n q c → k < n → rows_positive c ≡ true → AllPositive (row c k)
row_positive n q k c has l test = let some = has.rows in (decides_rows_positive c).0 test k [] (omega arith)

row_negative : (n q k : ℕ) (c : List (List ℤ)) → HasRows n q c → k < n → rows_negative c ≡ true → AllNegative (row c k)
row_negative n q k c has l test = let some = has.rows in (decides_rows_negative c).0 test k [] (omega arith)

pub tested_positive21 : (c : List (List ℤ)) (x y v w : ℕ) → HasRows 3 2 c → rows_positive c ≡ true → IsPlace x y → IsPlace v w → pos 0 <ℤ value21 c (pos x) (pos y) (pos v) (pos w)
tested_positive21 c x y v w has test time place =
    let z = λ (k : ℕ). value1 (row c k) (pos v) (pos w) in
    let each = λ (k : ℕ) (l : k < 3). positive1 (row c k) v w (has.long k l) (row_positive 3 2 k c has l test) place in
    positive2 (z 0 ∷ z 1 ∷ z 2 ∷ []) x y (omega arith) (all_three (λ z. pos 0 <ℤ z) (z 0) (z 1) (z 2) (each 0 (omega arith)) (each 1 (omega arith)) (each 2 (omega arith))) time

pub tested_negative21 : (c : List (List ℤ)) (x y v w : ℕ) → HasRows 3 2 c → rows_negative c ≡ true → IsPlace x y → IsPlace v w → value21 c (pos x) (pos y) (pos v) (pos w) <ℤ pos 0
tested_negative21 c x y v w has test time place =
    let z = λ (k : ℕ). value1 (row c k) (pos v) (pos w) in
    let each = λ (k : ℕ) (l : k < 3). negative1 (row c k) v w (has.long k l) (row_negative 3 2 k c has l test) place in
    negative2 (z 0 ∷ z 1 ∷ z 2 ∷ []) x y (omega arith) (all_three (λ z. z <ℤ pos 0) (z 0) (z 1) (z 2) (each 0 (omega arith)) (each 1 (omega arith)) (each 2 (omega arith))) time

pub tested_positive42 : (c : List (List ℤ)) (x y v w : ℕ) → HasRows 5 3 c → rows_positive c ≡ true → IsPlace x y → IsPlace v w → pos 0 <ℤ value42 c (pos x) (pos y) (pos v) (pos w)
tested_positive42 c x y v w has test time place =
    let z = λ (k : ℕ). value2 (row c k) (pos v) (pos w) in
    let each = λ (k : ℕ) (l : k < 5). positive2 (row c k) v w (has.long k l) (row_positive 5 3 k c has l test) place in
    positive4 (z 0 ∷ z 1 ∷ z 2 ∷ z 3 ∷ z 4 ∷ []) x y (omega arith)
    (all_five (λ z. pos 0 <ℤ z) (z 0) (z 1) (z 2) (z 3) (z 4) (each 0 (omega arith)) (each 1 (omega arith)) (each 2 (omega arith)) (each 3 (omega arith)) (each 4 (omega arith))) time

pub tested_negative42 : (c : List (List ℤ)) (x y v w : ℕ) → HasRows 5 3 c → rows_negative c ≡ true → IsPlace x y → IsPlace v w → value42 c (pos x) (pos y) (pos v) (pos w) <ℤ pos 0
tested_negative42 c x y v w has test time place =
    let z = λ (k : ℕ). value2 (row c k) (pos v) (pos w) in
    let each = λ (k : ℕ) (l : k < 5). negative2 (row c k) v w (has.long k l) (row_negative 5 3 k c has l test) place in
    negative4 (z 0 ∷ z 1 ∷ z 2 ∷ z 3 ∷ z 4 ∷ []) x y (omega arith)
    (all_five (λ z. z <ℤ pos 0) (z 0) (z 1) (z 2) (z 3) (z 4) (each 0 (omega arith)) (each 1 (omega arith)) (each 2 (omega arith)) (each 3 (omega arith)) (each 4 (omega arith))) time
