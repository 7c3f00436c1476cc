use Rattle.std.proofs.Common.{◌∙◌, ℕ, List, IfSome, length, ap, subst, Option}
use Rattle.vf_io.specs.Memory.{contents_at}
use Rattle.vf_io.specs.Reading.{TakesBytes}
use Rattle.vf_io.specs.Shelved.{unread_bytes, listed_files}
use Rattle.vf_io.proofs.ShelvedLemmas.{unread_bytes-next}
use Rattle.vf_io.proofs.memory_shelf.MemShelfShelf.next.Goals as goal

pub returns-clause-bytes : goal.returns-clause-bytes
returns-clause-bytes c =
    let mid = c.count_call.new.self in
    let bytes = c.contents.ensures.bytes ∙ ap (λ files. contents_at (listed_files files) mid.file) c.deref.ensures.value in
    let read = unread_bytes-next mid c.move_on.new.self c.contents.result.now c.behind-bytes.result.now c.copy_front-count.new.buffer c.copy_front-count.result (length c.args.buffer.now) c.if-not-self.false c.move_on.ensures.moved bytes c.behind-bytes.ensures c.requires c.move_on.ensures.small c.contents.ensures.small c.copy_front-count.ensures.count c.copy_front-count.ensures.front in
    λ opened. subst (λ (told : Option (List ℕ)). IfSome told (λ b. TakesBytes b (unread_bytes c.move_on.new.self) c.copy_front-count.new.buffer c.copy_front-count.result)) (ap unread_bytes c.count_call.ensures.counted) read
