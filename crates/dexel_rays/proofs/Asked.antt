-- A move that is tested for no more than what is wanted finds and adds what it would if it were tested for all.
use Rattle.std.proofs.Common.{◌≡◌, Bool, true, false, not, ◌&&◌, ◌||◌, IsTrue, refl, sym, ap, ap₂, ◌∙◌, if◌then◌else◌}
use Rattle.dexel_rays.specs.Findings.{Seen, met}
use Rattle.dexel_rays.specs.Asked.{is_wanted, is_sure_only, Agree}
use Rattle.dexel_rays.proofs.Laws.{no_more, outside_meets_none, point, stock_gone}

same_met : (a b c S P s p s' p' r : Bool) → s' ≡ s → p' ≡ p → met (point a b c S P s' p' r) ≡ met (point a b c S P s p r)
same_met a b c S P s p s' p' r es ep = ap₂ (λ x y. met (point a b c S P x y r)) es ep

-- the eight rules
pub agree_met : (a b c S P s p s' p' r : Bool) → (IsTrue S → IsTrue P) → Agree (point a b c S P s p r) s' p' → met (point a b c S P s' p' r) ≡ met (point a b c S P s p r)
agree_met a true c S P s p s' p' r i e = same_met a true c S P s p s' p' r (e.same_sure refl) (e.same_possible refl refl)
agree_met a false true S P s p s' p' r i e = same_met a false true S P s p s' p' r (e.same_sure refl) (e.same_possible refl refl)
agree_met false false false S P s p s' p' r i e =
    outside_meets_none false false false S P s' p' r refl ∙ sym (outside_meets_none false false false S P s p r refl)
agree_met true false false false false s p s' p' r i e = same_met true false false false false s p s' p' r (e.same_sure refl) (e.same_possible refl refl)
agree_met true false false false true s p s' p' true i e = same_met true false false false true s p s' p' true (e.same_sure refl) (e.same_possible refl refl)
agree_met true false false false true s p s' p' false i e =
    let same = e.same_sure refl in
    let old = stock_gone true p in
    let new = stock_gone true p' in
    cc
agree_met true false false true true s p s' p' r i e =
    let old_sure = stock_gone true s in
    let new_sure = stock_gone true s' in
    let old_possible = stock_gone true p in
    let new_possible = stock_gone true p' in
    cc
agree_met true false false true false s p s' p' r i e = let none = i refl in cc

-- what is new of the stock
pub agree_new_sure : (a b c S P s p s' p' r : Bool) → Agree (point a b c S P s p r) s' p' → (a && (s' && not S)) ≡ (a && (s && not S))
agree_new_sure false b c S P s p s' p' r e = refl
agree_new_sure true b c true P s p s' p' r e = no_more s' ∙ sym (no_more s)
agree_new_sure true true c false P s p s' p' r e = ap (λ x. x && true) (e.same_sure refl)
agree_new_sure true false true false P s p s' p' r e = ap (λ x. x && true) (e.same_sure refl)
agree_new_sure true false false false P s p s' p' r e = ap (λ x. x && true) (e.same_sure refl)

pub agree_new_possible : (a b c S P s p s' p' r : Bool) → (IsTrue S → IsTrue P) → Agree (point a b c S P s p r) s' p'
    → (a && (p' && not P)) ≡ (a && (p && not P))
agree_new_possible false b c S P s p s' p' r i e = refl
agree_new_possible true b c S true s p s' p' r i e = no_more p' ∙ sym (no_more p)
agree_new_possible true true c S false s p s' p' r i e = ap (λ x. x && true) (e.same_possible refl refl)
agree_new_possible true false true S false s p s' p' r i e = ap (λ x. x && true) (e.same_possible refl refl)
agree_new_possible true false false false false s p s' p' r i e = ap (λ x. x && true) (e.same_possible refl refl)
agree_new_possible true false false true false s p s' p' r i e = let none = i refl in cc

-- what is new makes the same union as all marks
pub new_is_all : (before mark : Bool) → (before || (mark && not before)) ≡ (before || mark)
new_is_all true mark = refl
new_is_all false true = refl
new_is_all false false = refl

taken : (w x y : Bool) → IsTrue w → x ≡ y → (w && x) ≡ y
taken true x y t e = e
taken false x y t e = cc

-- the marks that are wanted agree with all marks; here by whether the point is wanted, and for 'sure' only
pub asked_agree : (p : Seen) (wanted only sure possible : Bool) → wanted ≡ is_wanted p → only ≡ is_sure_only p → sure ≡ (wanted && p.sure)
    → possible ≡ (wanted && (if only then p.sure else p.possible)) → Agree p sure possible
asked_agree p wanted only sure possible iw io is ip = record {
  same_sure = λ w. is ∙ taken wanted p.sure p.sure (iw ∙ w) refl;
  same_possible = λ w o. ip ∙ taken wanted (if only then p.sure else p.possible) p.possible (iw ∙ w) (ap (λ x. if x then p.sure else p.possible) (io ∙ o));
}
