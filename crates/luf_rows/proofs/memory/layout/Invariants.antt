use Rattle.luf_rows.proofs.memory.layout.Given as goal

abbrev pub ghosts-lay : goal.ghosts-lay
ghosts-lay g a = record { name = a.blank.name; parts = a.blank.parts }
