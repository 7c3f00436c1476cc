-- A task that was read is the one that a call's files stand for, and so is what is saved of its stock.
use Rattle.std.proofs.Common.{◌≡◌, ℕ, All, List, ◌∷◌, ◌++◌, Option, Some, None, Result, Ok, Err, IfOk, IfSome, ap, subst, sym}
use Rattle.std.specs.Borrow.{Bor}
use Rattle.std.specs.Option.{option_to_list}
use Rattle.std.proofs.lemmas.List.Elements.{All-head, All-tail}
use Rattle.call_words.specs.Seen.{word_seen}
use Rattle.clverify.specs.Asked.{save_seen}
use Rattle.clverify.specs.declared.commands.save.SaveWords.{SaveWords}
use Rattle.vf_io.specs.Files.{Files}
use Rattle.vf_io.specs.declared.answers.NoMemory.{NoMemory}
use Rattle.input_faults.specs.declared.fault.Fault.{Fault}
use Rattle.input_faults.specs.declared.stopped.Stopped.{Stopped}
use Rattle.input_faults.specs.declared.stopped.Stopped.TheVariants as stops
use Rattle.job_report.specs.Remaining.{remaining_stock}
use Rattle.job_report.specs.Tasks.{IsTask, Task}
use Rattle.job_report.specs.TrueStock.{IsTrueRemainder}
use Rattle.job_report.proofs.Remaining.{true_remainder}
use Rattle.job_inputs.specs.Inputs.{GivesInput}
use Rattle.stock_file.specs.Reading.{stock_of}
use Rattle.stock_file.specs.Saved.{IsSaved, Saved}
use Rattle.clverify.specs.Commands.Save.{IsTrueSaving, SaveCall, SavesTruly, save_due, saved, saved_names, stock_answered, task_to_save}
use Rattle.clverify.specs.Reply.{answer_of}
use Rattle.clverify.specs.Settled.{IsReport}
use Rattle.clverify.specs.declared.reply.Reply.{Reply}

-- the stock of a task that is the same
pub stock_made : (done : Result Saved NoMemory) (made task : Task) → IfOk done (λ stock. stock ≡ remaining_stock made.job) → made ≡ task
    → IfOk done (λ stock. stock ≡ remaining_stock task.job)
stock_made done made task stock same = subst (λ (t : Task). IfOk done (λ stock. stock ≡ remaining_stock t.job)) same stock

-- which is valid too
pub task_saved : (done : Result Saved NoMemory) (made task : Task) → IsTask made → made ≡ task → IfOk done (λ _. IsTask task)
task_saved (Ok stock) made task valid same = subst IsTask same valid
task_saved (Err memory) made task valid same = tt

-- the text of what is left of a valid task's stock is a true one
pub saves_truly : (report : Result Reply Stopped) (task : Task) (stock : Saved) → stock ≡ remaining_stock task.job → IsTask task
    → IsReport report (stock_answered stock) → IfOk report (λ answer. stock_of answer.text.items ≡ Ok stock) → IfOk report (λ _. IsSaved stock)
    → IfOk report (λ answer. SavesTruly task answer.text.items)
saves_truly (Ok answer) task stock same valid due stands_for is_saved = record {
  stock = stock;
  is_text = sym (ap (λ d. d.text) due);
  stands_for = stands_for;
  is_true = subst (IsTrueRemainder task.job) (sym same) (true_remainder task.job valid.plan (subst IsSaved same is_saved));
}
saves_truly (Err stopped) task stock same valid due stands_for is_saved = tt

-- what is answered of the task is what is due
pub answer_of_stock : (files : Option Files) (call : SaveCall) (task : Task) (report : Result Reply Stopped)
    → IfSome files (λ told. task_to_save call told ≡ Ok task) → IsReport report (saved task) → IfSome files (λ told. IsReport report (save_due call told))
answer_of_stock None call task report read due = tt
answer_of_stock (Some told) call task report read due = subst (λ (input : Result Task Fault). IsReport report (answer_of saved input)) (sym read) due

-- it is true of what the files stand for
pub true_of_stock : (files : Option Files) (call : SaveCall) (task : Task) (report : Result Reply Stopped)
    → IfSome files (λ told. task_to_save call told ≡ Ok task) → IfOk report (λ answer. SavesTruly task answer.text.items)
    → IfSome files (λ told. IfOk report (λ answer. IsTrueSaving call told answer.text.items))
true_of_stock None call task report read truly = tt
true_of_stock (Some told) call task (Ok answer) read truly = record { task = task; stands_for = read; saves_truly = truly }
true_of_stock (Some told) call task (Err stopped) read truly = tt

-- what stops the reading is the refusal that is due
pub fault_of_stock : (files : Option Files) (call : SaveCall) (stopped : Stopped)
    → IfSome files (λ told. GivesInput {T = Task} (Err stopped) (task_to_save call told)) → IfSome files (λ told. IsReport (Err stopped) (save_due call told))
fault_of_stock None call stopped read = tt
fault_of_stock (Some told) call (stops.Refused fault) read = ap (answer_of saved) read
fault_of_stock (Some told) call stops.ReadFault read = tt
fault_of_stock (Some told) call stops.NoMemory read = tt

-- what a call may read: each of its files
module _ (P : List ℕ → Type 0) (said : SaveWords) (all : All P (saved_names (save_seen said))) where
  abbrev more_files : List (List ℕ)
  more_files = option_to_list (word_seen said.more.stock) ++ option_to_list (word_seen said.more.script)

  may_read_more : All P more_files
  may_read_more = All-tail P said.setup.now more_files (All-tail P said.file.now (said.setup.now ∷ more_files) all)

  pub may_read_setup : P said.setup.now
  may_read_setup = All-head P said.setup.now more_files (All-tail P said.file.now (said.setup.now ∷ more_files) all)

  pub may_read_stock : IfSome said.more.stock (λ name. P name.now)
  may_read_stock = first_may said.more.stock may_read_more
    where
      first_may : (stock : Option (Bor (List ℕ))) → All P (option_to_list (word_seen stock) ++ option_to_list (word_seen said.more.script))
          → IfSome stock (λ name. P name.now)
      first_may None may = tt
      first_may (Some name) may = All-head P name.now (option_to_list (word_seen said.more.script)) may
