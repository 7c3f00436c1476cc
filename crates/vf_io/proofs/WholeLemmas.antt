-- One more piece read of a file, and one more line put of a text.
use Rattle.std.proofs.Common.{◌≡◌, ℕ, ◌+◌, ◌++◌, min, take, length, arith, List, [], ◌∷◌, Option, Some, None, IfSome, sym, ap, ◌∙◌, append_assoc, subst}
use Rattle.std.proofs.lemmas.List.{flat_map_more, take-append-le, take_min}
use Rattle.std.proofs.Math.Seq.{take-append-add}
use Rattle.std.specs.Io.KnownBytes.{Appends}
use Rattle.std.specs.Prelude.{flat_map}
use Rattle.std.proofs.KnownBytes.{Appends-trans}
use Rattle.vf_io.specs.Bytes.{AddsPieces, AppendsFront}
use Rattle.vf_io.specs.Pieces.{pieces_of}
use Rattle.vf_io.specs.Whole.{HasPut, StopsInPiece}

-- where the bytes that were left are known, these of them were read, and what follows them is left
abbrev pub HasRead : Option (List ℕ) → List ℕ → Option (List ℕ) → Type 0
HasRead before read now = IfSome before (λ told. (left : List ℕ) × (now ≡ Some left) × (read ++ left ≡ told))

-- Some lines of the text were put, and the rest of it is left.
pub record PutSoFar (written_old written_new : Option (List ℕ)) (pieces_old pieces_new : Option (List (List ℕ))) (text rest : List ℕ) : Type 0 where
  pub whole : List (List ℕ)
  pub order : pieces_of text ≡ whole ++ pieces_of rest
  pub bytes : text ≡ flat_map (λ piece. piece) whole ++ rest
  pub put : HasPut written_old written_new pieces_old pieces_new whole

-- known pieces that grew, and grew again
pub AddsPieces-append : (old mid new : Option (List (List ℕ))) (xs ys : List (List ℕ)) → AddsPieces old mid xs → AddsPieces mid new ys → AddsPieces old new (xs ++ ys)
AddsPieces-append None mid new xs ys first then = tt
AddsPieces-append (Some told) mid new xs ys first then =
    let known : new ≡ Some ((told ++ xs) ++ ys) = rw first at then in
    known ∙ ap Some (append_assoc told xs ys)

-- one more line was put
pub PutSoFar-more : (written_old written_mid written_new : Option (List ℕ)) (pieces_old pieces_mid pieces_new : Option (List (List ℕ))) (text rest line behind : List ℕ)
    → PutSoFar written_old written_mid pieces_old pieces_mid text rest → pieces_of rest ≡ line ∷ pieces_of behind → rest ≡ line ++ behind
    → Appends written_mid written_new line → AddsPieces pieces_mid pieces_new (line ∷ []) → PutSoFar written_old written_new pieces_old pieces_new text behind
PutSoFar-more wo wm wn po pm pn text rest line behind so_far first whole written put = record {
  whole = so_far.whole ++ line ∷ [];
  order = so_far.order ∙ ap (λ more. so_far.whole ++ more) first ∙ sym (append_assoc so_far.whole (line ∷ []) (pieces_of behind));
  bytes = so_far.bytes ∙ ap (λ more. flat_map (λ piece. piece) so_far.whole ++ more) whole ∙ sym (append_assoc (flat_map (λ piece. piece) so_far.whole) line behind) ∙ ap (λ front. front ++ behind) (flat_map_more (λ piece. piece) [] so_far.whole line);
  put = record {
    written = subst (λ front. Appends wo wn front) (flat_map_more (λ piece. piece) [] so_far.whole line) (Appends-trans wo wm wn (flat_map (λ piece. piece) so_far.whole) line so_far.put.written written);
    put = AddsPieces-append po pm pn so_far.whole (line ∷ []) so_far.put.put put;
  };
}

-- a front of the next line was written, so a front of the text was
pub PutSoFar-front : (written_old written_mid written_new : Option (List ℕ)) (pieces_old pieces_mid : Option (List (List ℕ))) (text rest line behind : List ℕ)
    → PutSoFar written_old written_mid pieces_old pieces_mid text rest → rest ≡ line ++ behind → AppendsFront written_mid written_new line → AppendsFront written_old written_new text
PutSoFar-front wo wm wn po pm text rest line behind so_far cut written =
    let whole = flat_map (λ piece. piece) so_far.whole in
    let n = min written.0 (length line) in
    let line_front : take n (line ++ behind) ≡ take written.0 line = take-append-le n line behind (omega arith) ∙ take_min written.0 line in
    let front : take (length whole + n) text ≡ whole ++ take written.0 line =
    ap (λ t. take (length whole + n) t) (so_far.bytes ∙ ap (λ r. whole ++ r) cut) ∙ take-append-add whole (line ++ behind) n ∙ ap (λ f. whole ++ f) line_front in
    (length whole + n, subst (λ (f : List ℕ). Appends wo wn f) (sym front) (Appends-trans wo wm wn whole (take written.0 line) so_far.put.written written.1))

-- and no piece is put after that line
pub PutSoFar-stops : (written_old written_mid written_new : Option (List ℕ)) (pieces_old pieces_mid pieces_new : Option (List (List ℕ))) (text rest line behind : List ℕ)
    → PutSoFar written_old written_mid pieces_old pieces_mid text rest → pieces_of rest ≡ line ∷ pieces_of behind → AppendsFront written_mid written_new line
    → AddsPieces pieces_mid pieces_new (line ∷ []) → StopsInPiece written_old written_new pieces_old pieces_new (pieces_of text)
PutSoFar-stops wo wm wn po pm pn text rest line behind so_far first written put = record {
  whole = so_far.whole;
  failed = line;
  left = pieces_of behind;
  length = written.0;
  order = so_far.order ∙ ap (λ more. so_far.whole ++ more) first;
  written = Appends-trans wo wm wn (flat_map (λ piece. piece) so_far.whole) (take written.0 line) so_far.put.written written.1;
  put = AddsPieces-append po pm pn so_far.whole (line ∷ []) so_far.put.put put;
}
