use Rattle.rdm_bins.proofs.shelf.Shelf.first_in_bin_before.Given as goal

abbrev pub ghost-first_chained : goal.ghost-first_chained
ghost-first_chained g a = g.T.Shelved.bin_of
