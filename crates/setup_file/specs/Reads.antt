-- How the value at a key is read and judged: each reader gives a value, or its first fault.
use Rattle.std.specs.Prelude.{◌≡◌, ℕ, ℤ, int_le, ◌==◌, ◌&&◌, Bool, if◌then◌else◌}
use Rattle.std.specs.Prelude.{List, [], ◌∷◌, length, Option, Some, None, option_and_then, Result, Ok, Err}
use Rattle.std.specs.Option.{option_map}
use Rattle.toml.specs.Data.{Data, Items, no_items, item, Members, get_member, as_array, as_integer, as_table}
use Rattle.setup_keys.specs.declared.fault.SetupEnd.{SetupEnd}
use Rattle.setup_keys.specs.declared.fault.SetupEnd.TheVariants.{Refused, NoMemory}
use Rattle.setup_keys.specs.declared.fault.SetupFault.{SetupFault}
use Rattle.setup_keys.specs.declared.fault.SetupFault.TheVariants.{SetupKey, SetupRange}
use Rattle.setup_keys.specs.declared.key.KeyName.{KeyName}
use Rattle.setup_keys.specs.Keys.{name_of}

infixl 10 ◌>>=◌
-- what is read after something that has no fault
abbrev pub ◌>>=◌ : {A B : Type 0} → Result A SetupFault → (A → Result B SetupFault) → Result B SetupFault
Ok x >>= next = next x
Err fault >>= next = Err fault

-- what each item of a list gives, in order, or the first fault
abbrev pub each : {A B : Type 0} → (A → Result B SetupFault) → List A → Result (List B) SetupFault
each read [] = Ok []
each read (x ∷ xs) = do
  y ← read x
  ys ← each read xs
  Ok (y ∷ ys)

-- a value of the kind that the key has; where there is none, the key is refused
abbrev pub of_kind : {A : Type 0} → KeyName → Option A → Result A SetupFault
of_kind key (Some value) = Ok value
of_kind key None = Err (SetupKey key)

-- a number, where the test holds; else it is reported as out of the key's range
abbrev pub only_if : Bool → KeyName → ℤ → Result ℤ SetupFault
only_if holds key number = if holds then Ok number else Err (SetupRange key number)

-- a number from the least to the most of a range
abbrev pub is_between : ℤ → ℤ → ℤ → Bool
is_between least most number = int_le least number && int_le number most

abbrev pub ranged : KeyName → ℤ → ℤ → ℤ → Result ℤ SetupFault
ranged key least most number = only_if (is_between least most number) key number

-- the value at a key of a table
abbrev pub entry_at : KeyName → Members → Option Data
entry_at key table = get_member (name_of key) table

-- the table at a key
abbrev pub table_at : KeyName → Members → Result Members SetupFault
table_at key table = of_kind key (option_and_then as_table (entry_at key table))

-- the whole number at a key, within its range
abbrev pub number_at : KeyName → ℤ → ℤ → Members → Result ℤ SetupFault
number_at key least most table = of_kind key (option_and_then as_integer (entry_at key table)) >>= ranged key least most

-- the values of a list, in order
abbrev pub values_listed : Items → List Data
values_listed no_items = []
values_listed (item value rest) = value ∷ values_listed rest

abbrev pub list_in : Data → Option (List Data)
list_in value = option_map values_listed (as_array value)

-- what all items of a list are, where each of them is one
abbrev pub all_of : {A B : Type 0} → (A → Option B) → List A → Option (List B)
all_of kind [] = Some []
all_of kind (x ∷ xs) = option_and_then (λ y. option_map (λ ys. y ∷ ys) (all_of kind xs)) (kind x)

-- the whole numbers of a list of `count` of them
abbrev pub numbers_among : ℕ → List Data → Option (List ℤ)
numbers_among count values = if length values == count then all_of as_integer values else None

abbrev pub numbers_in : ℕ → Data → Option (List ℤ)
numbers_in count value = option_and_then (numbers_among count) (list_in value)

abbrev pub numbers_at : ℕ → KeyName → Members → Result (List ℤ) SetupFault
numbers_at count key table = of_kind key (option_and_then (numbers_in count) (entry_at key table))

-- a refusal is the first fault; running out of memory needs no condition
abbrev pub EndsSetup : {A : Type 0} → Result A SetupFault → SetupEnd → Type 0
EndsSetup due (Refused fault) = due ≡ Err fault
EndsSetup due NoMemory = Unit {0}
