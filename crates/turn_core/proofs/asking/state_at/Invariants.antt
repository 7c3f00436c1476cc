use Rattle.turn_core.proofs.asking.state_at.Given as goal

abbrev pub ghosts-counted_state : goal.ghosts-counted_state
ghosts-counted_state a = record { name = a.blank.name; parts = a.blank.parts }
