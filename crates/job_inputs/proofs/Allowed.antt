-- What may be read before a read may be read after it.
use Rattle.std.proofs.Common.{ℕ, List, Option, Some, None, IfSome, ◌↔◌}

pub allowed_on : {N : Type 0} (name : N → List ℕ) (before after : List ℕ → Type 0) (file : Option N) → ((n : List ℕ) → before n ↔ after n)
    → IfSome file (λ one. before (name one)) → IfSome file (λ one. after (name one))
allowed_on name before after None same may = tt
allowed_on name before after (Some one) same may = (same (name one)).0 may

-- what may be read after two reads is what might be read before
pub allows_on : (before middle after : List ℕ → Type 0) → ((n : List ℕ) → before n ↔ middle n) → ((n : List ℕ) → middle n ↔ after n)
    → (n : List ℕ) → before n ↔ after n
allows_on before middle after first last n = (λ may. (last n).0 ((first n).0 may), λ may. (first n).1 ((last n).1 may))
