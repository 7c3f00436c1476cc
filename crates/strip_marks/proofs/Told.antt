-- What a clause says of a value that may be there, where it is known to be, or not to be.
use Rattle.std.proofs.Common.{◌≡◌, false, Option, None, Some, IfNone, IfSome, subst}
use Rattle.std.specs.Option.{is_some}

pub some_told : {A : Type 0} (P : A → Type 0) (o : Option A) (x : A) → IfSome o P → o ≡ Some x → P x
some_told {A} P o x h e = subst (λ (w : Option A). IfSome w P) e h

pub none_told : {A : Type 0} (P : Type 0) (o : Option A) → IfNone o P → is_some o ≡ false → P
none_told P None h e = h
none_told P (Some x) h e = cc
