-- The text of a setup's fault.
use Rattle.std.specs.Prelude.{ℕ, ℤ, List, ◌++◌, codes}
use Rattle.std.specs.Fmt.{signed_decimal}
use Rattle.setup_keys.specs.Keys.{key_text}
use Rattle.setup_keys.specs.declared.fault.SetupFault.{SetupFault}
use Rattle.setup_keys.specs.declared.fault.SetupFault.TheVariants.{SetupSyntax, SetupKey, SetupRange}
use Rattle.setup_keys.specs.declared.key.KeyName.{KeyName}

-- the key where a fault is
abbrev pub key_place : KeyName → List ℕ
key_place key = codes "setup " ++ key_text key

-- the key, and the number that is out of its range
abbrev pub range_text : KeyName → ℤ → List ℕ
range_text key value = key_place key ++ codes ": SetupRange " ++ signed_decimal value

-- the key, where there is one, the fault's name, and the number that is out of range
abbrev pub setup_fault_text : SetupFault → List ℕ
setup_fault_text SetupSyntax = codes "setup: SetupSyntax"
setup_fault_text (SetupKey key) = key_place key ++ codes ": SetupKey"
setup_fault_text (SetupRange key value) = range_text key value
