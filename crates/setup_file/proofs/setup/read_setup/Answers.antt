use Rattle.std.proofs.Common.{false, IsTrue}
use Rattle.setup_file.proofs.Texts.{setup_of-read, setup_of-refused}
use Rattle.setup_file.proofs.setup.read_setup.Goals as goal

pub returns-in-Ok-clause-ok : goal.returns-in-Ok-clause-ok
returns-in-Ok-clause-ok c = rw (setup_of-read c.args.bytes.now _ c.in-Ok.ensures.ok.0 c.in-Ok.ensures.ok.1) c.read_table.ensures.ok

pub returns-in-Ok-clause-refused : goal.returns-in-Ok-clause-refused
returns-in-Ok-clause-refused c = rw (setup_of-read c.args.bytes.now _ c.in-Ok.ensures.ok.0 c.in-Ok.ensures.ok.1) c.read_table.ensures.refused

no : IsTrue false → ⊥
no h = cc

pub returns-else-is_memory-clause-refused : goal.returns-else-is_memory-clause-refused
returns-else-is_memory-clause-refused c = setup_of-refused c.args.bytes.now (c.in-Err.ensures.refused (λ m. no (c.if-is_memory.ensures.1 m)))
