use Rattle.std.proofs.Common.{◌∙◌, ◌||◌, ap, sym}
use Rattle.vf_io.specs.Memory.{is_absent}
use Rattle.vf_io.specs.Shelved.{file_list}
use Rattle.vf_io.proofs.FindLemmas.{is_absent-place}
use Rattle.vf_io.proofs.ShelvedLemmas.{IsPlaceOf-counted, unread_bytes-opened}
use Rattle.vf_io.proofs.memory_shelf.MemShelfShelf.open.Goals as goal

pub returns-in-Some-clause-rest : goal.returns-in-Some-clause-rest
returns-in-Some-clause-rest c =
    let counted = c.count_call-failing.ensures.counted in
    let place = IsPlaceOf-counted c.args.self.now c.count_call-failing.new.self c.deref.result.now c.args.name.now c.in-Some.file counted c.deref.ensures.value c.in-Some.ensures in
    unread_bytes-opened _ _ _ _ _ counted c.begin.ensures place

pub returns-in-Some-clause-failed : goal.returns-in-Some-clause-failed
returns-in-Some-clause-failed c =
    let counted = c.count_call-failing.ensures.counted in
    let place = IsPlaceOf-counted c.args.self.now c.count_call-failing.new.self c.deref.result.now c.args.name.now c.in-Some.file counted c.deref.ensures.value c.in-Some.ensures in
    sym (ap (λ b. b || is_absent (file_list c.args.self.now) c.args.name.now) (sym c.if-not-failing.ensures.fails) ∙ is_absent-place _ _ _ place)
