-- The logs of ports one after the other.
use Rattle.std.specs.Prelude.{List, [], ◌∷◌, ◌++◌, reverse}
use Rattle.rdm_model.specs.declared.entry.Entry.{Entry}
use Rattle.rdm_port.specs.Views.{PortView}

-- the entries of ports, in the order of the ports and of their making
unfoldable pub joined : List PortView → List Entry
joined [] = []
joined (p ∷ ps) = reverse p.log ++ joined ps
