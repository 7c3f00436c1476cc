-- A front of the bytes was written.
use Rattle.std.proofs.Common.{◌≡◌, ℕ, ◌++◌, ◌-◌, List, [], Option, Some, None, length, take, drop, sym, ap, ◌∙◌, subst, append_assoc, append-nil, take-append-drop}
use Rattle.std.proofs.lemmas.List.{take_rest}
use Rattle.std.proofs.Math.Seq.{take-append_seam}
use Rattle.std.proofs.KnownBytes.{Appends-kept}
use Rattle.std.specs.Io.KnownBytes.{Appends, Keeps}
use Rattle.vf_io.specs.Bytes.{AppendsFront}

-- known bytes that grew by none are kept
pub Keeps-from_nil : (old new : Option (List ℕ)) → Appends old new [] → Keeps old new
Keeps-from_nil None new grown = tt
Keeps-from_nil (Some told) None grown = absurd grown
Keeps-from_nil (Some told) (Some more) grown = grown ∙ append-nil told

-- what was done is a front of all, and nothing was written since
pub AppendsFront-done : (old mid new : Option (List ℕ)) (all done rest : List ℕ) → all ≡ done ++ rest → Appends old mid done → Keeps mid new → AppendsFront old new all
AppendsFront-done old mid new all done rest split written kept =
    let front : take (length done) all ≡ done = ap (take (length done)) split ∙ take-append_seam done rest in
    (length done, subst (Appends old new) (sym front) (Appends-kept old mid new done written kept))

-- n more bytes are done
pub split_later : (all done rest : List ℕ) (n : ℕ) → all ≡ done ++ rest → all ≡ (done ++ take n rest) ++ take (length rest - n) (drop n rest)
split_later all done rest n split =
    split ∙ ap (λ r. done ++ r) (sym (take-append-drop n rest)) ∙ sym (append_assoc done (take n rest) (drop n rest)) ∙ ap (λ r. (done ++ take n rest) ++ r) (sym (take_rest rest n))
