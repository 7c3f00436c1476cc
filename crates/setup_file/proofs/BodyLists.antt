-- Lists of planes and of bodies: what is judged before their items, and their items.
use Rattle.std.proofs.Common.{◌≡◌, ℤ, List, ◌∷◌, map, Option, Some, None, is_some, true, false, Result, Ok, Err, refl, sym, ap, ◌∙◌}
use Rattle.std.proofs.lemmas.Bool.{false≢true}
use Rattle.std.specs.Option.{option_map}
use Rattle.toml.specs.Data.{Data, as_array, as_table}
use Rattle.toml.specs.View.{items_view, view}
use Rattle.toml.specs.declared.value.Value.{Value}
use Rattle.ray_shapes.specs.declared.plane.Plane.{Plane}
use Rattle.setup_keys.specs.declared.fault.SetupEnd.{SetupEnd}
use Rattle.setup_keys.specs.declared.fault.SetupEnd.TheVariants.{Refused, NoMemory}
use Rattle.setup_keys.specs.declared.fault.SetupFault.{SetupFault}
use Rattle.setup_keys.specs.declared.fault.SetupFault.TheVariants.{SetupKey}
use Rattle.setup_keys.specs.declared.key.KeyName.{KeyName}
use Rattle.setup_file.specs.declared.body_list.BodyList.{BodyList}
use Rattle.setup_file.specs.Bodies.{as_many, bodies_of, body_of, plane_of, planes_of}
use Rattle.setup_file.specs.Limits.{most_planes}
use Rattle.setup_file.specs.Reads.{◌>>=◌, EndsSetup, all_of, each, of_kind, values_listed}
use Rattle.setup_file.proofs.Listed.{each-stops, joined, values_listed-view}

-- the planes of the values of a list
abbrev planes_among : KeyName → List Data → Result (List Plane) SetupFault
planes_among key values = as_many key 1 most_planes values >>= (λ _. each (plane_of key) values)

planes_of-list : (key : KeyName) (value : Data) (vs : List Value) → Some (items_view vs) ≡ as_array value → planes_of key value ≡ planes_among key (map view vs)
unfolding planes_of
planes_of-list key value vs is =
    ap (λ o. of_kind key (option_map values_listed o) >>= (λ values. planes_among key values)) (sym is) ∙ ap (planes_among key) (values_listed-view vs)

-- there are too few or too many planes
pub planes-miscounted : (key : KeyName) (value : Data) (vs : List Value) (fault : SetupFault) → Some (items_view vs) ≡ as_array value
    → Err fault ≡ as_many key 1 most_planes (map view vs) → planes_of key value ≡ Err fault
planes-miscounted key value vs fault is count =
    planes_of-list key value vs is ∙ ap (λ r. r >>= (λ _. each (plane_of key) (map view vs))) (sym count)

-- their number is allowed
pub planes-counted : (key : KeyName) (value : Data) (vs ws : List Value) (n : ℤ) → Some (items_view vs) ≡ as_array value
    → Ok n ≡ as_many key 1 most_planes (map view vs) → ws ≡ vs → planes_of key value ≡ each (plane_of key) (map view ws)
planes-counted key value vs ws n is count same =
    planes_of-list key value vs is ∙ ap (λ r. r >>= (λ _. each (plane_of key) (map view vs))) (sym count) ∙ ap (λ xs. each (plane_of key) (map view xs)) (sym same)

-- the bodies of the values of a list, of which each is a table
abbrev bodies_counted : BodyList → List Data → Result (List (List Plane)) SetupFault
bodies_counted list values = as_many list.key list.least list.most values >>= (λ _. each (body_of list) values)

abbrev bodies_among : BodyList → List Data → Result (List (List Plane)) SetupFault
bodies_among list values = of_kind list.key (all_of as_table values) >>= (λ _. bodies_counted list values)

bodies_of-list : (list : BodyList) (value : Data) (vs : List Value) → Some (items_view vs) ≡ as_array value → bodies_of list value ≡ bodies_among list (map view vs)
unfolding bodies_of
bodies_of-list list value vs is =
    ap (λ o. of_kind list.key (option_map values_listed o) >>= (λ values. bodies_among list values)) (sym is) ∙ ap (bodies_among list) (values_listed-view vs)

of_kind-none : {A B : Type 0} (key : KeyName) (o : Option A) (rest : Result B SetupFault) → is_some o ≡ false → (of_kind key o >>= (λ _. rest)) ≡ Err (SetupKey key)
of_kind-none key (Some y) rest h = absurd (false≢true (sym h))
of_kind-none key None rest h = refl

of_kind-some : {A B : Type 0} (key : KeyName) (o : Option A) (rest : Result B SetupFault) → is_some o ≡ true → (of_kind key o >>= (λ _. rest)) ≡ rest
of_kind-some key (Some y) rest h = refl
of_kind-some key None rest h = absurd (false≢true h)

-- an item is no table
pub bodies-untabled : (list : BodyList) (value : Data) (vs : List Value) → Some (items_view vs) ≡ as_array value
    → is_some (all_of as_table (map view vs)) ≡ false → bodies_of list value ≡ Err (SetupKey list.key)
bodies-untabled list value vs is other =
    bodies_of-list list value vs is ∙ of_kind-none list.key (all_of as_table (map view vs)) (bodies_counted list (map view vs)) other

bodies-tabled : (list : BodyList) (value : Data) (vs : List Value) → Some (items_view vs) ≡ as_array value
    → is_some (all_of as_table (map view vs)) ≡ true → bodies_of list value ≡ bodies_counted list (map view vs)
bodies-tabled list value vs is tabled =
    bodies_of-list list value vs is ∙ of_kind-some list.key (all_of as_table (map view vs)) (bodies_counted list (map view vs)) tabled

-- there are too few or too many bodies
pub bodies-miscounted : (list : BodyList) (value : Data) (vs : List Value) (fault : SetupFault) → Some (items_view vs) ≡ as_array value
    → is_some (all_of as_table (map view vs)) ≡ true → Err fault ≡ as_many list.key list.least list.most (map view vs) → bodies_of list value ≡ Err fault
bodies-miscounted list value vs fault is tabled count =
    bodies-tabled list value vs is tabled ∙ ap (λ r. r >>= (λ _. each (body_of list) (map view vs))) (sym count)

-- their number is allowed
pub bodies-counted : (list : BodyList) (value : Data) (vs ws : List Value) (n : ℤ) → Some (items_view vs) ≡ as_array value
    → is_some (all_of as_table (map view vs)) ≡ true → Ok n ≡ as_many list.key list.least list.most (map view vs) → ws ≡ vs
    → bodies_of list value ≡ each (body_of list) (map view ws)
bodies-counted list value vs ws n is tabled count same =
    bodies-tabled list value vs is tabled ∙ ap (λ r. r >>= (λ _. each (body_of list) (map view vs))) (sym count)
    ∙ ap (λ xs. each (body_of list) (map view xs)) (sym same)

-- reading an item ends with a fault or when out of memory
pub each-ends : {A B : Type 0} (read : A → Result B SetupFault) (due : Result (List B) SetupFault) (rest after : List A) (x : A) (ys : List B) (stop : SetupEnd)
    → due ≡ joined ys (each read rest) → rest ≡ x ∷ after → EndsSetup (read x) stop → EndsSetup due stop
each-ends read due rest after x ys (Refused fault) so_far cut is = each-stops read due rest after x ys fault so_far cut is
each-ends read due rest after x ys NoMemory so_far cut is = tt
