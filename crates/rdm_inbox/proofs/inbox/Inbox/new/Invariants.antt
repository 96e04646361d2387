use Rattle.rdm_inbox.proofs.inbox.Inbox.new.Given as goal

abbrev pub ghosts-opened_line : goal.ghosts-opened_line
ghosts-opened_line a = record { port = a._port; ports = a._ports; size = a.size }
