-- The keys of the code's tables.
use Rattle.std.proofs.Common.{◌≡◌, ℕ, ◌+◌, ◌<◌, not, ◌||◌, Bool, true, false, List, [], ◌∷◌, length, get_or, drop, map, Option, Some, None, String, Global, string_bytes, refl, sym, ap, ◌∙◌}
use Rattle.std.proofs.Common.{cond, find}
use Rattle.std.proofs.lemmas.List.{drop_more}
use Rattle.std.specs.List.{cons_option, filter_map}
use Rattle.std.specs.Option.{option_to_list}
use Rattle.toml.specs.Data.{Data, Members, as_array, as_table}
use Rattle.toml.specs.Data as datas
use Rattle.toml.specs.View.{view}
use Rattle.setup_file.proofs.Listed.{values_listed-view, view_drop}
use Rattle.std.specs.List.{list_any}
use Rattle.toml.specs.View.{items_view, members_view}
use Rattle.toml.specs.declared.value.Value.{Value}
use Rattle.setup_keys.specs.declared.key.KeyName.{KeyName}
use Rattle.setup_keys.specs.Keys.{is_known}
use Rattle.setup_keys.specs.declared.key.KeyName.TheVariants as keys
use Rattle.setup_file.specs.Reads.{entry_at, values_listed}
use Rattle.setup_file.specs.Unknown.{has_unknown, tables_in, tables_named}

-- a table holds an unknown key where some key of its map is unknown
pub has_unknown-view : (key : KeyName) (es : List (String Global × Value))
    → has_unknown key (members_view es) ≡ list_any (λ (name : String Global). not (is_known key (string_bytes name))) (map (λ e. e.0) es)
has_unknown-view key [] = refl
has_unknown-view key (e ∷ es) = ap (λ b. not (is_known key (string_bytes e.0)) || b) (has_unknown-view key es)

or_false : (b c : Bool) → ((b || false) || c) ≡ (b || c)
or_false true c = refl
or_false false c = refl

any-one : {B : Type 0} (test : B → Bool) (o : Option B) (rest : List B) → list_any test (cons_option o rest) ≡ (list_any test (option_to_list o) || list_any test rest)
any-one test (Some t) rest = sym (or_false (test t) (list_any test rest))
any-one test None rest = refl

-- whether some table among the values from an index on holds an unknown key, by the first of them
pub unknown-more : (key : KeyName) (vs : List Value) (i : ℕ) (v : Value) → i < length vs → v ≡ get_or vs i v
    → list_any (has_unknown key) (filter_map as_table (drop i (map view vs)))
    ≡ (list_any (has_unknown key) (option_to_list (as_table (view v))) || list_any (has_unknown key) (filter_map as_table (drop (i + 1) (map view vs))))
unknown-more key vs i v lt is =
    ap (λ xs. list_any (has_unknown key) (filter_map as_table xs)) (view_drop vs i v lt is)
    ∙ any-one (has_unknown key) (as_table (view v)) (filter_map as_table (drop (i + 1) (map view vs)))

-- the first of a list that passes a test is its item at an index, or among the rest
pub find-here : {A : Type 0} (test : A → Bool) (xs : List A) (i : ℕ) (d : A) → i < length xs → test (get_or xs i d) ≡ true
    → find test (drop i xs) ≡ Some (get_or xs i d)
find-here test xs i d lt passes =
    ap (find test) (drop_more xs i d lt) ∙ ap (λ b. cond b (Some (get_or xs i d)) (find test (drop (i + 1) xs))) passes

pub find-more : {A : Type 0} (test : A → Bool) (xs : List A) (i : ℕ) (d : A) → i < length xs → test (get_or xs i d) ≡ false
    → find test (drop i xs) ≡ find test (drop (i + 1) xs)
find-more test xs i d lt fails =
    ap (find test) (drop_more xs i d lt) ∙ ap (λ b. cond b (Some (get_or xs i d)) (find test (drop (i + 1) xs))) fails

-- the tables of a list
pub tables_in-array : (d : Data) (vs : List Value) → Some (items_view vs) ≡ as_array d → tables_in (Some d) ≡ filter_map as_table (map view vs)
tables_in-array (datas.array ds) vs is =
    let same : ds ≡ items_view vs = cc in
    ap (λ xs. filter_map as_table (values_listed xs)) same ∙ ap (filter_map as_table) (values_listed-view vs)
tables_in-array (datas.string s) vs is = cc
tables_in-array (datas.integer z) vs is = cc
tables_in-array (datas.float x) vs is = cc
tables_in-array (datas.boolean b) vs is = cc
tables_in-array (datas.datetime t) vs is = cc
tables_in-array (datas.table ms) vs is = cc

-- a table other than the whole setup is at its key
pub tables_named-other : (key : KeyName) (setup : Members) → (key ≡ keys.Setup → ⊥) → tables_named setup key ≡ tables_in (entry_at key setup)
tables_named-other keys.Setup setup other = absurd (other refl)
tables_named-other _ setup other = refl
