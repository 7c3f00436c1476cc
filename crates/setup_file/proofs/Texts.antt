-- What a text that is read, or refused, says of the setup.
use Rattle.std.proofs.Common.{◌≡◌, ℕ, List, Bool, true, false, cond, Option, Some, None, Err, refl, ap, ◌∙◌}
use Rattle.std.specs.Str.{IsUtf8, is_utf8}
use Rattle.std.proofs.lemmas.Str.{IsUtf8-from_is_utf8, is_utf8-from_IsUtf8}
use Rattle.toml.specs.Data.{Members}
use Rattle.toml.specs.Parse.{parse_document}
use Rattle.setup_keys.specs.declared.fault.SetupFault.TheVariants.{SetupSyntax}
use Rattle.setup_file.specs.Setups.{setup_by, setup_in, setup_of}

-- a text that is a table says what the table says
pub setup_of-read : (bytes : List ℕ) (table : Members) → IsUtf8 bytes → parse_document bytes ≡ Some table → setup_of bytes ≡ setup_in table
setup_of-read bytes table text parsed = ap setup_by (ap (λ b. cond b (parse_document bytes) None) (is_utf8-from_IsUtf8 bytes text) ∙ parsed)

by_test : (b : Bool) (parsed : Option Members) → (b ≡ true → parsed ≡ None) → cond b parsed None ≡ None
by_test true parsed h = h refl
by_test false parsed h = refl

-- a text that is none is refused
pub setup_of-refused : (bytes : List ℕ) → (IsUtf8 bytes → parse_document bytes ≡ None) → setup_of bytes ≡ Err SetupSyntax
setup_of-refused bytes h = ap setup_by (by_test (is_utf8 bytes) (parse_document bytes) (λ e. h (IsUtf8-from_is_utf8 bytes e)))
