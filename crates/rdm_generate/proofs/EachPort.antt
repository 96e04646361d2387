-- One value for each port, in order.
use Rattle.std.proofs.Common.{◌≡◌, ℕ, ◌+◌, List, [], ◌∷◌, ◌++◌, map, ap, ◌∙◌, append_assoc, zero-add}
use Rattle.std.proofs.lemmas.List.FromFn.{map-range_with_len_more}
use Rattle.std.specs.List.{range_with_len}
use Rattle.serde_json.specs.Data.{Data}
use Rattle.rdm_generate.specs.Programs.{ports}

-- the value of the next port goes last
pub next_port : (f : ℕ → Data) (start old new : List Data) (d : Data) (k : ℕ) → old ≡ start ++ map f (range_with_len 0 k) → d ≡ f k → new ≡ old ++ d ∷ [] → new ≡ start ++ map f (range_with_len 0 (k + 1))
next_port f start old new d k so_far is pushed =
    rw (pushed, is, so_far, map-range_with_len_more f 0 k k (zero-add k)) (append_assoc start (map f (range_with_len 0 k)) (f k ∷ []))

-- after the last port, each has its value
pub all_ports : (f : ℕ → Data) (start new : List Data) (k : ℕ) → new ≡ start ++ map f (range_with_len 0 k) → k ≡ 8 → new ≡ start ++ map f ports
unfolding ports
all_ports f start new k so_far last = so_far ∙ ap (λ n. start ++ map f (range_with_len 0 n)) last
