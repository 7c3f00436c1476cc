-- Lists that are read item by item.
use Rattle.std.proofs.Common.{◌≡◌, ℕ, ◌+◌, ◌<◌, ◌≤◌, List, [], ◌∷◌, ◌++◌, length, get_or, drop, map, Option, Some, None, is_some, true, false, Result, Ok, Err, refl, sym, ap, ◌∙◌, arith, append_assoc}
use Rattle.std.proofs.lemmas.List.{drop_more, drop-map, at_drop_all, append-nil, length-map}
use Rattle.std.proofs.lemmas.Bool.{false≢true}
use Rattle.std.proofs.lemmas.Bool.Decides.{nat_tests}
use Rattle.toml.specs.Data.{Data, as_array, as_integer, as_table}
use Rattle.toml.specs.View.{items_view, view}
use Rattle.toml.specs.declared.value.Value.{Value}
use Rattle.setup_keys.specs.declared.fault.SetupFault.{SetupFault}
use Rattle.std.specs.Option.{option_and_then, option_map}
use Rattle.setup_file.specs.Reads.{◌>>=◌, all_of, each, numbers_among, numbers_in, values_listed}

-- the values of a list of the code's are those that it shows
pub values_listed-view : (vs : List Value) → values_listed (items_view vs) ≡ map view vs
values_listed-view [] = refl
values_listed-view (v ∷ vs) = ap (λ xs. view v ∷ xs) (values_listed-view vs)

-- the values from an index on, of which the first is at the index
pub view_drop : (vs : List Value) (i : ℕ) (v : Value) → i < length vs → v ≡ get_or vs i v → drop i (map view vs) ≡ view v ∷ drop (i + 1) (map view vs)
view_drop vs i v lt is =
    drop-map view i vs ∙ ap (map view) (drop_more vs i v lt) ∙ ap (λ w. view w ∷ map view (drop (i + 1) vs)) (sym is)
    ∙ ap (λ xs. view v ∷ xs) (sym (drop-map view (i + 1) vs))

-- what was read so far, before what is read of the rest
abbrev pub joined : {B : Type 0} → List B → Result (List B) SetupFault → Result (List B) SetupFault
joined so_far (Ok rest) = Ok (so_far ++ rest)
joined so_far (Err fault) = Err fault

pub joined-none : {B : Type 0} (r : Result (List B) SetupFault) → r ≡ joined [] r
joined-none (Ok ys) = refl
joined-none (Err fault) = refl

joined-one : {B : Type 0} (ys : List B) (y : B) (rest : Result (List B) SetupFault) → joined ys (rest >>= (λ zs. Ok (y ∷ zs))) ≡ joined (ys ++ y ∷ []) rest
joined-one ys y (Ok zs) = ap Ok (sym (append_assoc ys (y ∷ []) zs))
joined-one ys y (Err fault) = refl

-- one more item is read
pub each-more : {A B : Type 0} (read : A → Result B SetupFault) (due : Result (List B) SetupFault) (rest after : List A) (x : A) (ys : List B) (y : B)
    → due ≡ joined ys (each read rest) → rest ≡ x ∷ after → read x ≡ Ok y → due ≡ joined (ys ++ y ∷ []) (each read after)
each-more read due rest after x ys y so_far cut is =
    so_far ∙ ap (λ xs. joined ys (each read xs)) cut ∙ ap (λ r. joined ys (r >>= (λ z. each read after >>= (λ zs. Ok (z ∷ zs))))) is
    ∙ joined-one ys y (each read after)

-- an item has a fault
pub each-stops : {A B : Type 0} (read : A → Result B SetupFault) (due : Result (List B) SetupFault) (rest after : List A) (x : A) (ys : List B) (fault : SetupFault)
    → due ≡ joined ys (each read rest) → rest ≡ x ∷ after → read x ≡ Err fault → due ≡ Err fault
each-stops read due rest after x ys fault so_far cut is =
    so_far ∙ ap (λ xs. joined ys (each read xs)) cut ∙ ap (λ r. joined ys (r >>= (λ z. each read after >>= (λ zs. Ok (z ∷ zs))))) is

-- no item is left
pub each-done : {A B : Type 0} (read : A → Result B SetupFault) (due : Result (List B) SetupFault) (all : List A) (i : ℕ) (ys : List B)
    → due ≡ joined ys (each read (drop i all)) → length all ≤ i → due ≡ Ok ys
each-done read due all i ys so_far over =
    so_far ∙ ap (joined ys) (at_drop_all (each read) all i over) ∙ ap Ok (append-nil ys)

-- what was found so far, before what is found in the rest
abbrev pub found : {B : Type 0} → List B → Option (List B) → Option (List B)
found so_far (Some rest) = Some (so_far ++ rest)
found so_far None = None

pub found-none : {B : Type 0} (r : Option (List B)) → r ≡ found [] r
found-none (Some ys) = refl
found-none None = refl

found-one : {B : Type 0} (ys : List B) (y : B) (rest : Option (List B)) → found ys (option_map (λ zs. y ∷ zs) rest) ≡ found (ys ++ y ∷ []) rest
found-one ys y (Some zs) = ap Some (sym (append_assoc ys (y ∷ []) zs))
found-one ys y None = refl

-- one more item is of the kind
pub all_of-more : {A B : Type 0} (kind : A → Option B) (due : Option (List B)) (rest after : List A) (x : A) (ys : List B) (y : B)
    → due ≡ found ys (all_of kind rest) → rest ≡ x ∷ after → kind x ≡ Some y → due ≡ found (ys ++ y ∷ []) (all_of kind after)
all_of-more kind due rest after x ys y so_far cut is =
    so_far ∙ ap (λ xs. found ys (all_of kind xs)) cut
    ∙ ap (λ r. found ys (option_and_then (λ z. option_map (λ zs. z ∷ zs) (all_of kind after)) r)) is ∙ found-one ys y (all_of kind after)

-- an item is not of the kind
pub all_of-stops : {A B : Type 0} (kind : A → Option B) (due : Option (List B)) (rest after : List A) (x : A) (ys : List B)
    → due ≡ found ys (all_of kind rest) → rest ≡ x ∷ after → kind x ≡ None → due ≡ None
all_of-stops kind due rest after x ys so_far cut is =
    so_far ∙ ap (λ xs. found ys (all_of kind xs)) cut ∙ ap (λ r. found ys (option_and_then (λ z. option_map (λ zs. z ∷ zs) (all_of kind after)) r)) is

-- no item is left
pub all_of-done : {A B : Type 0} (kind : A → Option B) (due : Option (List B)) (all : List A) (i : ℕ) (ys : List B)
    → due ≡ found ys (all_of kind (drop i all)) → length all ≤ i → due ≡ Some ys
all_of-done kind due all i ys so_far over =
    so_far ∙ ap (found ys) (at_drop_all (all_of kind) all i over) ∙ ap Some (append-nil ys)

some_one : {B : Type 0} (o : Option B) (r : Option (List B)) → is_some o ≡ true → is_some (option_and_then (λ y. option_map (λ ys. y ∷ ys) r) o) ≡ is_some r
some_one (Some y) (Some ys) h = refl
some_one (Some y) None h = refl
some_one None r h = absurd (false≢true h)

some_none : {B : Type 0} (o : Option B) (r : Option (List B)) → is_some o ≡ false → is_some (option_and_then (λ y. option_map (λ ys. y ∷ ys) r) o) ≡ false
some_none (Some y) r h = absurd (false≢true (sym h))
some_none None r h = refl

-- whether all values from an index on are tables, by the first of them
pub tables-more : (vs : List Value) (i : ℕ) (v : Value) → i < length vs → v ≡ get_or vs i v → is_some (as_table (view v)) ≡ true
    → is_some (all_of as_table (drop i (map view vs))) ≡ is_some (all_of as_table (drop (i + 1) (map view vs)))
tables-more vs i v lt is tabled =
    ap (λ xs. is_some (all_of as_table xs)) (view_drop vs i v lt is) ∙ some_one (as_table (view v)) (all_of as_table (drop (i + 1) (map view vs))) tabled

pub tables-stop : (vs : List Value) (i : ℕ) (v : Value) → i < length vs → v ≡ get_or vs i v → is_some (as_table (view v)) ≡ false
    → is_some (all_of as_table (drop i (map view vs))) ≡ false
tables-stop vs i v lt is other =
    ap (λ xs. is_some (all_of as_table xs)) (view_drop vs i v lt is) ∙ some_none (as_table (view v)) (all_of as_table (drop (i + 1) (map view vs))) other

-- the whole numbers of a list that the code has as values
pub numbers_in-list : (n : ℕ) (value : Data) (vs : List Value) → Some (items_view vs) ≡ as_array value → numbers_in n value ≡ numbers_among n (map view vs)
numbers_in-list n value vs is =
    ap (λ o. option_and_then (numbers_among n) (option_map values_listed o)) (sym is) ∙ ap (numbers_among n) (values_listed-view vs)

pub numbers_among-other : (n : ℕ) (vs : List Value) → (length vs ≡ n → ⊥) → numbers_among n (map view vs) ≡ None
numbers_among-other n vs other = let same = length-map vs view in grind (arith, nat_tests)

pub numbers_among-same : (n : ℕ) (vs : List Value) → length vs ≡ n → numbers_among n (map view vs) ≡ all_of as_integer (map view vs)
numbers_among-same n vs is = let same = length-map vs view in grind (arith, nat_tests)
