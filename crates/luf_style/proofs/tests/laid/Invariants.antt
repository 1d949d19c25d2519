use Rattle.luf_style.proofs.tests.laid.Given as goal

abbrev pub ghosts-lay_doc : goal.ghosts-lay_doc
ghosts-lay_doc g a = record { name = a.blank.name; parts = a.blank.parts }
