use Rattle.store_vectors.proofs.stores.each_call_succeeds.Given as goal

-- the ledger is that of the blank
abbrev pub ghosts-take_calls : goal.ghosts-take_calls
ghosts-take_calls g a = record { name = a.blank.name; parts = a.blank.parts }
