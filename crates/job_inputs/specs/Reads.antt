-- What a call leaves of the shelf that it reads. The first three arguments name what is seen of the shelf.
use Rattle.std.specs.Prelude.{◌≡◌, ℕ, Bool, true, false, Option}
use Rattle.vf_io.specs.Causes.{Rose, one_more_failure}
use Rattle.vf_io.specs.Files.{Files}

-- The files stay. A call that failed is reported as such: where it ends by a fault of reading one failed, where it doesn't none did.
pub record ReadsOnce {S : Type 0} (files : S → Option Files) (faults : S → ℕ) (failures : S → Option ℕ)
    (failed : Bool) (old new : S) : Type 0 where
  pub kept : files new ≡ files old
  pub rose : failed ≡ true → Rose (faults old) (faults new)
  pub one : failed ≡ true → failures new ≡ one_more_failure (failures old)
  pub calm : failed ≡ false → failures new ≡ failures old
