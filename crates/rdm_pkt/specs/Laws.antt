-- What is known of every packet and its bytes, as statements.
use Rattle.std.specs.Prelude.{◌≡◌, ℕ, List}
use Rattle.rdm_pkt.specs.declared.Packet.{Packet}
use Rattle.rdm_pkt.specs.Grammar.{Spells}

-- a packet has one spelling at most
abbrev pub OneSpelling : Type 0
OneSpelling = (p : Packet) (a b : List ℕ) → Spells p a → Spells p b → a ≡ b

-- bytes spell one packet at most
abbrev pub OnePacket : Type 0
OnePacket = (p q : Packet) (bytes : List ℕ) → Spells p bytes → Spells q bytes → p ≡ q
