-- A move's line is its head, its counts, and whether it is safe by them.
use Rattle.std.proofs.Common.{◌≡◌, ◌∙◌, ◌++◌, ℕ, List, Result, Ok, Err, OnOk, Bool, codes, if◌then◌else◌, append_assoc, ap, sym}
use Rattle.report_text.specs.Listing.{move_head}
use Rattle.report_text.specs.Report.{counts_text, safe_text}
use Rattle.report_text.proofs.report.write_found.Goals as goal
use Rattle.report_text.proofs.report.write_found.Goals.{then-is_safe, else-is_safe}

-- what was written after the head and the counts
behind : {T E : Type 0} (result : Result T E) (page first mid new head counts end safe : List ℕ) → OnOk result (new ≡ mid ++ end) → mid ≡ first ++ counts → first ≡ page ++ head → end ≡ safe
    → OnOk result (new ≡ page ++ ((head ++ counts) ++ safe))
behind (Err fault) page first mid new head counts end safe written is was last = tt
behind (Ok done) page first mid new head counts end safe written is was last =
    written ∙ ap (λ front. front ++ end) (is ∙ ap (λ front. front ++ counts) was) ∙ ap (λ e. ((page ++ head) ++ counts) ++ e) last
    ∙ ap (λ front. front ++ safe) (append_assoc page head counts) ∙ append_assoc page (head ++ counts) safe

pub returns : goal.returns
returns c =
    let found = c.args.found.now in
    let word : Bool → List ℕ = λ safe. if safe then codes " safe" else codes " unsafe" in
    let last : c.if-is_safe.text.now ≡ word c.is_safe.result =
    elim c.if-is_safe.branch [
      | then-is_safe w ↦ ap (λ text. text.now) w.text-is ∙ ap word (sym w.if-is_safe.true)
      | else-is_safe w ↦ ap (λ text. text.now) w.text-is ∙ ap word (sym w.if-is_safe.false)
    ] in
    behind c.text.result c.args.page.now c.write_head.new.page c.write_counts.new.page c.text.new.self (move_head found.number found.line found.rapid) (counts_text found.counts) c.if-is_safe.text.now (safe_text found.counts)
    c.text.ensures c.in_ok-write_counts.ensures c.in_ok-write_head.ensures (last ∙ ap word c.is_safe.ensures)
