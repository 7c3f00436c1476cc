-- How a call ends: what is due to a command is its report, or the refusal of what stopped it.
use Rattle.std.proofs.Common.{◌≡◌, ◌⊎◌, ℕ, List, Option, Some, None, Result, Ok, Err, true, false, IfSome, IfOk, inl, inr, refl, ap, subst, sym, ⊎_elim, rules}
use Rattle.std.specs.Io.KnownBytes.{Keeps}
use Rattle.vf_io.specs.Files.{Files}
use Rattle.report_text.specs.Refusals.{refusal_of}
use Rattle.input_faults.specs.declared.fault.Fault.{Fault}
use Rattle.clverify.specs.Commands.{Command, certify_move, check_cert, list_moves, mark_moves, save_stock, self_test, verify_moves}
use Rattle.clverify.specs.Due.{command_due}
use Rattle.clverify.specs.Reply.{Due, IsVerdict, refused, usage_due}
use Rattle.job_inputs.specs.Inputs.{is_read_fault}
use Rattle.clverify.specs.Headline.{Answers, Hands, IsComplete, IsDue}
use Rattle.clverify.specs.Outside.{WritesAnswer}
use Rattle.clverify.specs.Settled.{IsReport, MayEnd, Settles, answer_seen}
use Rattle.clverify.specs.Truth.{HasNoFindings, IsTrueText, TellsTruth}
use Rattle.clverify.specs.declared.reply.Reply.{Reply}
use Rattle.clverify.specs.declared.status.Status.{Status}
use Rattle.clverify.specs.declared.status.Status.TheVariants as ends
use Rattle.input_faults.specs.declared.stopped.Stopped.{Stopped}
use Rattle.input_faults.specs.declared.stopped.Stopped.TheVariants.{Refused, ReadFault, NoMemory}

-- where it isn't known what is due, less is claimed of an answer
unknown_answer : (status : Status) (d : Due) (old new : Option (List ℕ)) → Answers status (Some d) old new → Answers status None old new
unknown_answer ends.Clean d old new h = tt
unknown_answer ends.Findings d old new h = tt
unknown_answer ends.Usage d old new h = tt
unknown_answer (ends.Refused fault) d old new h = tt
unknown_answer ends.ReadFault d old new h = h
unknown_answer ends.WriteFault d old new h = tt
unknown_answer ends.NoMemory d old new h = h

unknown_hands : (status : Status) (d : Due) (old new : Option (List ℕ)) (before after : Option (List (List ℕ))) → Hands status (Some d) old new before after → Hands status None old new before after
unknown_hands ends.Clean d old new before after h = tt
unknown_hands ends.Findings d old new before after h = tt
unknown_hands ends.Usage d old new before after h = tt
unknown_hands (ends.Refused fault) d old new before after h = tt
unknown_hands ends.ReadFault d old new before after h = h
unknown_hands ends.WriteFault d old new before after h = tt
unknown_hands ends.NoMemory d old new before after h = h

keeps_known : (known : Option (List ℕ)) → Keeps known known
keeps_known None = tt
keeps_known (Some bytes) = refl

-- what is written of an answer is what is due, where that is this answer
module _ {K : Type 0} (written : K → Option (List ℕ)) (pieces : K → Option (List (List ℕ))) (faults : K → ℕ) (status : Status) (old new : K) where
  writes_due : (d : Due) (due : Option Due) → IfSome due (λ other. other ≡ d) → WritesAnswer written pieces faults status (Some d) old new → WritesAnswer written pieces faults status due old new
  writes_due d None same h = record {
    answer = unknown_answer status d (written old) (written new) h.answer;
    hands = unknown_hands status d (written old) (written new) (pieces old) (pieces new) h.hands;
    rose = h.rose;
  }
  writes_due d (Some other) same h = subst (λ (x : Due). WritesAnswer written pieces faults status (Some x) old new) (sym same) h

  -- nothing was written
  keeps_all : new ≡ old → Keeps (written old) (written new)
  keeps_all same = subst (λ (x : K). Keeps (written old) (written x)) (sym same) (keeps_known (written old))

  -- after a fault of reading, and when out of memory
  nothing_read : (due : Option Due) → status ≡ ends.ReadFault → new ≡ old → WritesAnswer written pieces faults status due old new
  nothing_read due fault same = record {
    answer = subst (λ (s : Status). Answers s due (written old) (written new)) (sym fault) (keeps_all same);
    hands = subst (λ (s : Status). Hands s due (written old) (written new) (pieces old) (pieces new)) (sym fault) (ap pieces same);
    rose = λ failed. let e : ends.ReadFault ≡ ends.WriteFault = cc in cc;
  }

  nothing_found : (due : Option Due) → status ≡ ends.NoMemory → new ≡ old → WritesAnswer written pieces faults status due old new
  nothing_found due memory same = record {
    answer = subst (λ (s : Status). Answers s due (written old) (written new)) (sym memory) (keeps_all same);
    hands = subst (λ (s : Status). Hands s due (written old) (written new) (pieces old) (pieces new)) (sym memory) (ap pieces same);
    rose = λ failed. let e : ends.NoMemory ≡ ends.WriteFault = cc in cc;
  }

  -- a report that is settled is the answer that is due
  pub answers_due : (report : Result Reply Stopped) (due : Option Due) → IfSome due (IsReport report) → Settles written pieces faults report status old new → WritesAnswer written pieces faults status due old new
  answers_due (Ok answer) due same h = writes_due (answer_seen answer) due same h.0
  answers_due (Err (Refused fault)) due same h = writes_due (refused fault) due same h.0
  answers_due (Err ReadFault) due same h = nothing_read due h.0 h.1
  answers_due (Err NoMemory) due same h = nothing_found due h.0 h.1

-- the answer that is due to a command over known files is known
refusal_due : (files : Files) (command : Command) (fault : Fault) → IfSome (command_due (Some files) command) (λ d. d ≡ refused fault) → command_due (Some files) command ≡ Some (refused fault)
refusal_due files (list_moves file) fault same = ap (λ d. Some d) same
refusal_due files (mark_moves file question) fault same = ap (λ d. Some d) same
refusal_due files (verify_moves call) fault same = ap (λ d. Some d) same
refusal_due files (self_test number) fault same = ap (λ d. Some d) same
refusal_due files (certify_move call) fault same = ap (λ d. Some d) same
refusal_due files (check_cert call) fault same = ap (λ d. Some d) same
refusal_due files (save_stock call) fault same = ap (λ d. Some d) same

-- a text that is true with a status is true as a front, which says nothing of a status
true_in_front : (status : Status) (files : Files) (command : Command) (text : List ℕ) → IsTrueText status files command text → IsTrueText ends.WriteFault files command text
true_in_front status files (list_moves file) text h = (tt, h.1)
true_in_front status files (mark_moves file question) text h = (tt, h.1)
true_in_front status files (verify_moves call) text h = record {
  task = h.task;
  stands_for = h.stands_for;
  reports_truly = record { facts = h.reports_truly.facts; report = h.reports_truly.report; is_true = h.reports_truly.is_true; ends = tt };
}
true_in_front status files (self_test number) text h = record { facts = h.facts; summary = h.summary; is_true = h.is_true; ends = tt }
true_in_front status files (certify_move call) text h = record {
  asked = h.asked;
  found = h.found;
  certifies_truly = record {
    made = h.certifies_truly.made;
    answer = h.certifies_truly.answer;
    is_true = h.certifies_truly.is_true;
    none = h.certifies_truly.none;
    ends = tt;
  };
}
true_in_front status files (save_stock call) text h = (tt, h.1)
true_in_front status files (check_cert call) text h = record {
  given = h.given;
  found = h.found;
  judges_truly = record {
    verdict = h.judges_truly.verdict;
    answer = h.judges_truly.answer;
    is_due = h.judges_truly.is_due;
    untouched = h.judges_truly.untouched;
    ends = tt;
  };
}

-- a listing, and marks, that are true come without findings
pub without_findings : (files : Option Files) (report : Result Reply Stopped) (P : Files → List ℕ → Type 0) → IfOk report (λ answer. answer.status ≡ ends.Clean)
    → IfSome files (λ told. IfOk report (λ answer. P told answer.text.items)) → IfSome files (λ told. IfOk report (λ answer. HasNoFindings answer.status × P told answer.text.items))
without_findings None report P clean so = tt
without_findings (Some told) (Ok answer) P clean so = (subst HasNoFindings (sym clean) tt, so)
without_findings (Some told) (Err stopped) P clean so = tt

-- what is written of a report that is settled is true, where the report is
module _ {K : Type 0} (written : K → Option (List ℕ)) (pieces : K → Option (List (List ℕ))) (faults : K → ℕ) (old new : K) (command : Command) where
  -- at Clean
  clean_text : (files : Files) (report : Result Reply Stopped) → IfOk report (λ answer. IsTrueText answer.status files command answer.text.items) → Settles written pieces faults report ends.Clean old new
      → TellsTruth ends.Clean (Some files) (Some command) (written old) (written new)
  clean_text files (Ok answer) true_text h =
      (answer.text.items, subst (λ (s : Status). IsTrueText s files command answer.text.items) (sym h.0.answer.0) true_text, h.0.answer.1)
  clean_text files (Err (Refused fault)) true_text h = let e = h.0.answer.0 in cc
  clean_text files (Err ReadFault) true_text h = let e = h.0 in cc
  clean_text files (Err NoMemory) true_text h = let e = h.0 in cc

  -- with findings
  findings_text : (files : Files) (report : Result Reply Stopped) → IfOk report (λ answer. IsTrueText answer.status files command answer.text.items) → Settles written pieces faults report ends.Findings old new
      → TellsTruth ends.Findings (Some files) (Some command) (written old) (written new)
  findings_text files (Ok answer) true_text h =
      (answer.text.items, subst (λ (s : Status). IsTrueText s files command answer.text.items) (sym h.0.answer.0) true_text, h.0.answer.1)
  findings_text files (Err (Refused fault)) true_text h = let e = h.0.answer.0 in cc
  findings_text files (Err ReadFault) true_text h = let e = h.0 in cc
  findings_text files (Err NoMemory) true_text h = let e = h.0 in cc

  -- after a fault of writing
  front_text : (files : Files) (report : Result Reply Stopped) → IfSome (command_due (Some files) command) (IsReport report) → IfOk report (λ answer. IsTrueText answer.status files command answer.text.items)
      → Settles written pieces faults report ends.WriteFault old new → TellsTruth ends.WriteFault (Some files) (Some command) (written old) (written new)
  front_text files (Ok answer) due true_text h = (answer.text.items, inl (true_in_front answer.status files command answer.text.items true_text), h.0.answer)
  front_text files (Err (Refused fault)) due true_text h =
      (refusal_of fault, inr record { fault = fault; is_due = refusal_due files command fault due; is_line = refl }, h.0.answer)
  front_text files (Err ReadFault) due true_text h = let e = h.0 in cc
  front_text files (Err NoMemory) due true_text h = let e = h.0 in cc

  pub tells_truth : (status : Status) (files : Option Files) (report : Result Reply Stopped) → IfSome (command_due files command) (IsReport report)
      → IfSome files (λ told. IfOk report (λ answer. IsTrueText answer.status told command answer.text.items)) → Settles written pieces faults report status old new
      → TellsTruth status files (Some command) (written old) (written new)
  tells_truth ends.Clean (Some files) report due true_text h = clean_text files report true_text h
  tells_truth ends.Findings (Some files) report due true_text h = findings_text files report true_text h
  tells_truth ends.WriteFault (Some files) report due true_text h = front_text files report due true_text h
  tells_truth ends.Usage (Some files) report due true_text h = tt
  tells_truth (ends.Refused fault) (Some files) report due true_text h = tt
  tells_truth ends.ReadFault (Some files) report due true_text h = tt
  tells_truth ends.NoMemory (Some files) report due true_text h = tt
  tells_truth ends.Clean None report due true_text h = tt
  tells_truth ends.Findings None report due true_text h = tt
  tells_truth ends.WriteFault None report due true_text h = tt
  tells_truth ends.Usage None report due true_text h = tt
  tells_truth (ends.Refused fault) None report due true_text h = tt
  tells_truth ends.ReadFault None report due true_text h = tt
  tells_truth ends.NoMemory None report due true_text h = tt

-- no report is settled by the usage line
not_usage : (whole status : Status) → IsVerdict whole → MayEnd whole status → status ≡ ends.Usage → ⊥
not_usage ends.Clean status verdict may usage = grind rules
not_usage ends.Findings status verdict may usage = grind rules
not_usage ends.Usage status verdict may usage = absurd verdict
not_usage (ends.Refused fault) status verdict may usage = absurd verdict
not_usage ends.ReadFault status verdict may usage = absurd verdict
not_usage ends.WriteFault status verdict may usage = absurd verdict
not_usage ends.NoMemory status verdict may usage = absurd verdict

refused_not_usage : (fault : Fault) (status : Status) → MayEnd (ends.Refused fault) status → status ≡ ends.Usage → ⊥
refused_not_usage fault status may usage = grind rules

module _ {K : Type 0} (written : K → Option (List ℕ)) (pieces : K → Option (List (List ℕ))) (faults : K → ℕ) (status : Status) (old new : K) where
  pub settled_not_usage : (report : Result Reply Stopped) → IfOk report (λ answer. IsVerdict answer.status) → Settles written pieces faults report status old new → status ≡ ends.Usage → ⊥
  settled_not_usage (Ok answer) verdict h usage = not_usage answer.status status verdict h.1 usage
  settled_not_usage (Err (Refused fault)) verdict h usage = refused_not_usage fault status h.1 usage
  settled_not_usage (Err ReadFault) verdict h usage = let e = h.0 in cc
  settled_not_usage (Err NoMemory) verdict h usage = let e = h.0 in cc

-- the usage line comes whole
pub usage_complete : (status : Status) (old new : Option (List ℕ)) → Answers status (Some usage_due) old new
    → (status ≡ ends.Usage) ⊎ (status ≡ ends.WriteFault) → (status ≡ ends.WriteFault → ⊥) → IsComplete status (Some usage_due) old new
usage_complete status old new answered may calm =
    ⊎_elim (λ usage. inr (subst (λ (s : Status). IsDue s (Some usage_due) old new) (sym usage)
    (subst (λ (s : Status). Answers s (Some usage_due) old new) usage answered)))
    (λ failed. absurd (calm failed)) may

-- an answer that ends by no fault outside is the whole one, or none when out of memory
pub complete_from : (status : Status) (due : Option Due) (old new : Option (List ℕ)) → Answers status due old new
    → (status ≡ ends.ReadFault → ⊥) → (status ≡ ends.WriteFault → ⊥) → IsComplete status due old new
complete_from ends.Clean due old new answered read written = inr answered
complete_from ends.Findings due old new answered read written = inr answered
complete_from ends.Usage due old new answered read written = inr answered
complete_from (ends.Refused fault) due old new answered read written = inr answered
complete_from ends.ReadFault due old new answered read written = absurd (read refl)
complete_from ends.WriteFault due old new answered read written = absurd (written refl)
complete_from ends.NoMemory due old new answered read written = inl refl

-- no answer ends by a fault of reading
not_read_fault : (whole status : Status) → IsVerdict whole → MayEnd whole status → status ≡ ends.ReadFault → ⊥
not_read_fault ends.Clean status verdict may fault = grind rules
not_read_fault ends.Findings status verdict may fault = grind rules
not_read_fault ends.Usage status verdict may fault = absurd verdict
not_read_fault (ends.Refused fault) status verdict may failed = absurd verdict
not_read_fault ends.ReadFault status verdict may fault = absurd verdict
not_read_fault ends.WriteFault status verdict may fault = absurd verdict
not_read_fault ends.NoMemory status verdict may fault = absurd verdict

refused_not_read_fault : (fault : Fault) (status : Status) → MayEnd (ends.Refused fault) status → status ≡ ends.ReadFault → ⊥
refused_not_read_fault fault status may failed = grind rules

-- where a report is settled by a fault of reading, a file couldn't be read
module _ {K : Type 0} (written : K → Option (List ℕ)) (pieces : K → Option (List (List ℕ))) (faults : K → ℕ) (status : Status) (old new : K) where
  pub settled_read_fault : (report : Result Reply Stopped) → IfOk report (λ answer. IsVerdict answer.status) → Settles written pieces faults report status old new
      → status ≡ ends.ReadFault → is_read_fault report ≡ true
  settled_read_fault (Ok answer) verdict h failed = absurd (not_read_fault answer.status status verdict h.1 failed)
  settled_read_fault (Err (Refused fault)) verdict h failed = absurd (refused_not_read_fault fault status h.1 failed)
  settled_read_fault (Err ReadFault) verdict h failed = refl
  settled_read_fault (Err NoMemory) verdict h failed = let e = h.0 in cc

  -- where one is settled by another status, none failed to be read
  pub settled_calm : (report : Result Reply Stopped) → Settles written pieces faults report status old new → (status ≡ ends.ReadFault → ⊥) → is_read_fault report ≡ false
  settled_calm (Ok answer) h calm = refl
  settled_calm (Err (Refused fault)) h calm = refl
  settled_calm (Err ReadFault) h calm = absurd (calm h.0)
  settled_calm (Err NoMemory) h calm = refl
