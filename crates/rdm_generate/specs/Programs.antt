-- The programs of a generated job, as lists of JSON values.
use Rattle.std.specs.Prelude.{ℕ, ◌+◌, ◌%◌, List, [], ◌∷◌, ◌++◌, length, map, sum_by}
use Rattle.std.specs.List.{range_with_len}
use Rattle.serde_json.specs.Data.{Data}
use Rattle.rdm_generate.specs.declared.draws.Message.{Message}
use Rattle.rdm_generate.specs.Instructions.{open_json, insert_json, fill_json, zero_json, empty_recv_json, recv_json, send_json, wait_json}

-- the ports, one for each rank
unfoldable pub ports : List ℕ
ports = range_with_len 0 8

-- the identifier of a port's life
abbrev pub connid_of : (port : ℕ) → ℕ
connid_of port = port + 1

-- the life of each port is inserted, that of the rank itself too
abbrev pub inserts : List ℕ → List Data
inserts ps = map (λ p. insert_json p (connid_of p)) ps

-- an empty receive from each port
abbrev pub empty_recvs : (tag : ℕ) → List ℕ → List Data
empty_recvs tag ps = map (λ p. empty_recv_json p tag) ps

-- an empty send to each port
abbrev pub empty_sends : (tag : ℕ) → List ℕ → List Data
empty_sends tag ps = map (λ p. send_json p 0 0 tag) ps

-- every rank sends an empty message to every rank, and waits until all that it sent and received so far is complete
abbrev pub round_of : (tag completions : ℕ) → List Data
round_of tag completions = empty_recvs tag ports ++ empty_sends tag ports ++ wait_json completions ∷ []

-- each message has a tag of its own
abbrev pub tag_of : Message → ℕ
tag_of m = 1000 + m.number

-- the bytes of messages together
abbrev pub total_of : List Message → ℕ
total_of ms = sum_by (λ (m : Message). m.len) ms

-- a receive for each message, in ranges that follow one another
abbrev pub recvs_from : (at : ℕ) → List Message → List Data
recvs_from at [] = []
recvs_from at (m ∷ ms) = recv_json at m.len (tag_of m) ∷ recvs_from (at + m.len) ms

-- a send of each message, from ranges that follow one another
abbrev pub sends_from : (at : ℕ) → List Message → List Data
sends_from at [] = []
sends_from at (m ∷ ms) = send_json m.to at m.len (tag_of m) ∷ sends_from (at + m.len) ms

-- a rank opens its life, inserts those of all ports, makes a region to send from and one to receive in, takes part in two rounds
-- of empty messages, and then receives what is sent to it and sends what is its own
unfoldable pub program_of : (seed rank : ℕ) → (received sent : List Message) → List Data
program_of seed rank received sent =
    open_json (connid_of rank) ∷ [] ++ inserts ports ++ fill_json (total_of sent) (seed % 256) ∷ [] ++ zero_json (total_of received) ∷ [] ++ round_of 1 16
    ++ round_of 2 32 ++ recvs_from 0 received ++ sends_from 0 sent ++ wait_json (32 + length received + length sent) ∷ []
