-- Numbers that are read one by one.
use Rattle.std.proofs.Common.{◌≡◌, ℕ, ℤ, pos, ◌<◌, ◌++◌, List, [], ◌∷◌, Bool, true, false, not, ◌||◌, length, map, drop, get_or, Result, Ok, Err, MatchResult, arith, refl, sym, ap, ◌∙◌, ◌+◌, ◌≤◌, subst, append_assoc, append-nil, add-one, drop-cons, length-append, if◌then◌else◌}
use Rattle.std.proofs.Math.ListN.{drop_of_length-le}
use Rattle.std.specs.List.{list_any}
use Rattle.std.specs.Result.{result_unwrap_or}
use Rattle.cl_lines.specs.declared.fault.ClWhy.{ClWhy}
use Rattle.cl_lines.specs.declared.fault.ClWhy.TheVariants.{NumberSyntax, NumberRange}
use Rattle.cl_lines.specs.declared.number.Unit.{Unit}
use Rattle.cl_lines.specs.declared.number.NumberFault.{NumberFault}
use Rattle.cl_lines.specs.declared.number.NumberFault.TheVariants.{Syntax, Range}
use Rattle.cl_records.specs.Values.{is_no_number, is_out_of_range, read_as_kind, reads_of, values_of}
use Rattle.cl_records.specs.Ranges.{IsKind, AreKinds}
use Rattle.cl_records.specs.declared.kind.Kind.{Kind}

-- what the reads that are left make of the values that were read
abbrev pub goes_on : List ℤ → Bool → List (Result ℤ NumberFault) → Result (List ℤ) ClWhy
goes_on values in_range reads =
    if list_any is_no_number reads then Err NumberSyntax
    else (if not in_range || list_any is_out_of_range reads then Err NumberRange
    else Ok (values ++ map (λ read. result_unwrap_or read (pos 0)) reads))

pub goes_on-value : (values : List ℤ) (in_range : Bool) (value : ℤ) (reads : List (Result ℤ NumberFault)) → goes_on values in_range (Ok value ∷ reads) ≡ goes_on (values ++ value ∷ []) in_range reads
goes_on-value values in_range value reads = rw (append_assoc values (value ∷ []) (map (λ read. result_unwrap_or read (pos 0)) reads)) refl

pub goes_on-range : (values : List ℤ) (in_range : Bool) (reads : List (Result ℤ NumberFault)) → goes_on values in_range (Err Range ∷ reads) ≡ goes_on (values ++ pos 0 ∷ []) false reads
goes_on-range values true reads = refl
goes_on-range values false reads = refl

pub goes_on-syntax : (values : List ℤ) (in_range : Bool) (reads : List (Result ℤ NumberFault)) → goes_on values in_range (Err Syntax ∷ reads) ≡ Err NumberSyntax
goes_on-syntax values in_range reads = refl

pub goes_on-end : (values : List ℤ) → goes_on values true [] ≡ Ok values
goes_on-end values = rw (append-nil values) refl

-- one more value after values of their kinds
pub AreKinds-push : (kinds : List Kind) (values : List ℤ) (none : Kind) (value : ℤ) → length values < length kinds → IsKind (get_or kinds (length values) none) value → AreKinds kinds values → AreKinds kinds (values ++ value ∷ [])
AreKinds-push [] values none value short is so_far = absurd (omega arith)
AreKinds-push (kind ∷ kinds) [] none value short is so_far = (is, tt)
AreKinds-push (kind ∷ kinds) (first ∷ values) none value short is so_far = (so_far.0, AreKinds-push kinds values none value (omega arith) is so_far.1)

no-parameters : (unit : Unit) (kinds : List Kind) → reads_of unit kinds [] ≡ []
no-parameters unit [] = refl
no-parameters unit (kind ∷ kinds) = refl

-- the numbers before the place i were read, and those that are left make the rest
pub record ReadsOn (unit : Unit) (kinds : List Kind) (parameters : List (List ℕ)) (i : ℕ) (values : List ℤ) (in_range : Bool) (left : List (List ℕ)) : Type 0 where
  pub same : goes_on values in_range (reads_of unit (drop i kinds) left) ≡ values_of (reads_of unit kinds parameters)
  pub count : length values ≡ i
  pub fit : in_range ≡ true → AreKinds kinds values

next-read : (unit : Unit) (kinds : List Kind) (i : ℕ) (none : Kind) (text : List ℕ) (left : List (List ℕ)) → i < length kinds → reads_of unit (drop i kinds) (text ∷ left) ≡ read_as_kind unit (get_or kinds i none) text ∷ reads_of unit (drop (i + 1) kinds) left
next-read unit kinds i none text left within =
    ap (λ l. reads_of unit l (text ∷ left)) (drop-cons kinds i none within ∙ ap (λ k. get_or kinds i none ∷ drop k kinds) (sym (add-one i)))

pub ReadsOn-value : (unit : Unit) (kinds : List Kind) (parameters : List (List ℕ)) (i : ℕ) (none : Kind) (values : List ℤ) (in_range : Bool) (text : List ℕ) (left : List (List ℕ)) (value : ℤ)
    → i < length kinds → read_as_kind unit (get_or kinds i none) text ≡ Ok value → IsKind (get_or kinds i none) value
    → ReadsOn unit kinds parameters i values in_range (text ∷ left) → ReadsOn unit kinds parameters (i + 1) (values ++ value ∷ []) in_range left
ReadsOn-value unit kinds parameters i none values in_range text left value within is kind so_far =
    let reads = reads_of unit (drop (i + 1) kinds) left in
    record {
      same = sym (goes_on-value values in_range value reads) ∙ ap (λ r. goes_on values in_range (r ∷ reads)) (sym is) ∙ ap (goes_on values in_range) (sym (next-read unit kinds i none text left within)) ∙ so_far.same;
      count = length-append values (value ∷ []) ∙ ap (λ n. n + 1) so_far.count;
      fit = λ true_range. AreKinds-push kinds values none value (omega (arith, so_far.count)) (subst (λ n. IsKind (get_or kinds n none) value) (sym so_far.count) kind) (so_far.fit true_range);
    }

pub ReadsOn-range : (unit : Unit) (kinds : List Kind) (parameters : List (List ℕ)) (i : ℕ) (none : Kind) (values : List ℤ) (in_range : Bool) (text : List ℕ) (left : List (List ℕ))
    → i < length kinds → read_as_kind unit (get_or kinds i none) text ≡ Err Range
    → ReadsOn unit kinds parameters i values in_range (text ∷ left) → ReadsOn unit kinds parameters (i + 1) (values ++ pos 0 ∷ []) false left
ReadsOn-range unit kinds parameters i none values in_range text left within is so_far =
    let reads = reads_of unit (drop (i + 1) kinds) left in
    record {
      same = sym (goes_on-range values in_range reads) ∙ ap (λ r. goes_on values in_range (r ∷ reads)) (sym is) ∙ ap (goes_on values in_range) (sym (next-read unit kinds i none text left within)) ∙ so_far.same;
      count = length-append values (pos 0 ∷ []) ∙ ap (λ n. n + 1) so_far.count;
      fit = λ true_range. absurd (cc);
    }

-- one that is no number ends the reading
pub ReadsOn-syntax : (unit : Unit) (kinds : List Kind) (parameters : List (List ℕ)) (i : ℕ) (none : Kind) (values : List ℤ) (in_range : Bool) (text : List ℕ) (left : List (List ℕ))
    → i < length kinds → read_as_kind unit (get_or kinds i none) text ≡ Err Syntax
    → ReadsOn unit kinds parameters i values in_range (text ∷ left) → values_of (reads_of unit kinds parameters) ≡ Err NumberSyntax
ReadsOn-syntax unit kinds parameters i none values in_range text left within is so_far =
    let reads = reads_of unit (drop (i + 1) kinds) left in
    sym so_far.same ∙ ap (goes_on values in_range) (next-read unit kinds i none text left within) ∙ ap (λ r. goes_on values in_range (r ∷ reads)) is

-- where no parameter is left, the values are those that were read
pub ReadsOn-end : (unit : Unit) (kinds : List Kind) (parameters : List (List ℕ)) (i : ℕ) (values : List ℤ) (in_range : Bool) (left : List (List ℕ)) → left ≡ [] → ReadsOn unit kinds parameters i values in_range left → goes_on values in_range [] ≡ values_of (reads_of unit kinds parameters)
ReadsOn-end unit kinds parameters i values in_range left none so_far =
    ap (goes_on values in_range) (sym (ap (reads_of unit (drop i kinds)) none ∙ no-parameters unit (drop i kinds))) ∙ so_far.same

-- and so they are where no kind is left
pub ReadsOn-all : (unit : Unit) (kinds : List Kind) (parameters : List (List ℕ)) (i : ℕ) (values : List ℤ) (in_range : Bool) (left : List (List ℕ)) → length kinds ≤ i → ReadsOn unit kinds parameters i values in_range left → goes_on values in_range [] ≡ values_of (reads_of unit kinds parameters)
ReadsOn-all unit kinds parameters i values in_range left all so_far =
    ap (λ l. goes_on values in_range (reads_of unit l left)) (sym (drop_of_length-le kinds all)) ∙ so_far.same

pub ends : (result : Result (List ℤ) ClWhy) (values : List ℤ) (in_range : Bool) (whole : Result (List ℤ) ClWhy) → goes_on values in_range [] ≡ whole
    → MatchResult result (λ v. (in_range ≡ true) × (v ≡ values)) (λ why. (in_range ≡ false) × (why ≡ NumberRange)) → MatchResult result (λ v. whole ≡ Ok v) (λ why. whole ≡ Err why)
ends (Ok v) values in_range whole same end = sym same ∙ ap (λ b. goes_on values b []) end.0 ∙ goes_on-end values ∙ ap Ok (sym end.1)
ends (Err why) values in_range whole same end = sym same ∙ ap (λ b. goes_on values b []) end.0 ∙ ap Err (sym end.1)
