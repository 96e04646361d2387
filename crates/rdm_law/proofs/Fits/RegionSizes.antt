-- Regions keep the sizes that they were registered with, since each receive lies in its region.
use Rattle.std.proofs.Common.{◌≡◌, ℕ, zero, suc, ◌+◌, ◌≤◌, List, [], ◌∷◌, ◌++◌, map, length, get_or, take, drop, Option, Some, None, refl, arith, inl, inr, sym, ◌∙◌, ap, subst, length-append, length-take, length-drop, le_of_eq}
use Rattle.std.proofs.lemmas.List.{map-append, length-replicate}
use Rattle.rdm_lists.specs.Lists.{Member}
use Rattle.rdm_num.specs.declared.request.RecvReq.{RecvReq}
use Rattle.rdm_model.specs.Deeds.{Deed}
use Rattle.rdm_model.specs.Beginnings.{Messages}
use Rattle.rdm_model.specs.Jobs.{len_max}
use Rattle.rdm_model.specs.Matches.{Receive, receives}
use Rattle.rdm_model.specs.Receives.{RecvEnd, Filled, Withdrawn, Gone, ended_recv, recv_ends, recv_ends_by, receive_numbered}
use Rattle.rdm_model.specs.Regions.{put, change_at, kept_bytes, written_by, after_end, after_ends, region_by, regions}
use Rattle.rdm_law.proofs.Fits.RegionsFit.{AllDidFit, reg_fits, sizes, AllRangesFit, IsWithin, receives_within, get_or-sizes}
use Rattle.rdm_lists.proofs.Members.{member-append_cases, member-map, find_member}

-- what is put within a list leaves its length
put_length : (at : ℕ) (bytes region : List ℕ) → at + length bytes ≤ length region → length (put at bytes region) ≡ length region
unfolding put
put_length at bytes region h =
    let a = length-append (take at region ++ bytes) (drop (at + length bytes) region) in
    let b = length-append (take at region) bytes in
    let c = length-take at region in
    let d = length-drop (at + length bytes) region in
    omega arith

-- what is put within one of the regions leaves all sizes
pub change_at_sizes : (at : ℕ) (bytes : List ℕ) (n : ℕ) (rs : List (List ℕ)) → at + length bytes ≤ get_or (map length rs) n 0
    → map length (change_at (put at bytes) n rs) ≡ map length rs
unfolding change_at
change_at_sizes at bytes n [] h = refl
change_at_sizes at bytes zero (r ∷ rs) h = ap (λ (k : ℕ). k ∷ map length rs) (put_length at bytes r h)
change_at_sizes at bytes (suc n) (r ∷ rs) h = ap (λ (ks : List ℕ). length r ∷ ks) (change_at_sizes at bytes n rs h)

-- what an end writes fits into the receive's range
pub written_length : (ms : Messages) (e : RecvEnd) (req : RecvReq) → length (written_by ms e req) ≤ req.len
unfolding written_by kept_bytes
written_length ms (Filled p) req = let a = length-take req.len (ms.bytes p.message.life p.message.no.0) in omega arith
written_length ms (Withdrawn n) req = omega arith
written_length ms (Gone n) req = le_of_eq (length-replicate req.len 0)

-- the receives lie in regions of these sizes
abbrev pub AllWithin : List ℕ → List Receive → Type 0
AllWithin ns recvs = (r : Receive) → Member r recvs → IsWithin ns r

-- one end leaves all sizes
after_end_sizes : (ms : Messages) (e : RecvEnd) (recvs : List Receive) (o : Option Receive) (rs : List (List ℕ)) → ((r : Receive) → o ≡ Some r → Member r recvs)
    → AllWithin (map length rs) recvs → map length (after_end ms e o rs) ≡ map length rs
unfolding after_end
after_end_sizes ms e recvs None rs is within = refl
after_end_sizes ms e recvs (Some r) rs is within =
    let a = within r (is r refl) in
    let b = written_length ms e r.req in
    change_at_sizes r.req.at (written_by ms e r.req) r.req.region.0 rs (omega arith)

-- the receive of a number is one of the receives
numbered_member : (recvs : List Receive) (n : ℕ) (r : Receive) → receive_numbered recvs n ≡ Some r → Member r recvs
unfolding receive_numbered
numbered_member recvs n r h = (find_member _ r recvs h).0

-- ends in order leave all sizes
after_ends_sizes : (ms : Messages) (recvs : List Receive) (es : List RecvEnd) (rs : List (List ℕ)) → AllWithin (map length rs) recvs
    → map length (after_ends ms recvs es rs) ≡ map length rs
unfolding after_ends
after_ends_sizes ms recvs [] rs within = refl
after_ends_sizes ms recvs (e ∷ es) rs within =
    let one = after_end_sizes ms e recvs (receive_numbered recvs (ended_recv e)) rs (λ r h. numbered_member recvs (ended_recv e) r h) within in
    after_ends_sizes ms recvs es (after_end ms e (receive_numbered recvs (ended_recv e)) rs) (subst (λ (ns : List ℕ). AllWithin ns recvs) (sym one) within) ∙ one

-- the sizes of the regions are those that they were registered with, by any account of the messages
pub region_sizes : (first : ℕ) (ms : Messages) (log : List Deed) → AllRangesFit log → map length (regions first ms log) ≡ sizes log
unfolding regions sizes
region_sizes first ms [] fit = refl
region_sizes first ms (d ∷ before) fit =
    let ends = recv_ends_by first ms.head d before (recv_ends first ms.head before) in
    let was = region_sizes first ms before fit.0 in
    let recvs = receives (d ∷ before) in
    let within : AllWithin (map length (regions first ms before)) recvs = λ r m. subst (λ (ns : List ℕ). IsWithin ns r) (sym was) (receives_within d before r fit m) in
    map-append length (after_ends ms recvs ends (regions first ms before)) (region_by d)
    ∙ ap (λ (ns : List ℕ). ns ++ map length (region_by d)) (after_ends_sizes ms recvs ends (regions first ms before) within ∙ was)

-- the length of a region, by any account
pub region_size : (first : ℕ) (ms : Messages) (log : List Deed) (n : ℕ) → AllRangesFit log → length (get_or (regions first ms log) n []) ≡ get_or (sizes log) n 0
region_size first ms log n fit = get_or-sizes (regions first ms log) n ∙ ap (λ (ns : List ℕ). get_or ns n 0) (region_sizes first ms log fit)

-- an element, or zero, is within what bounds all elements
get_or_bound : (ns : List ℕ) (n top : ℕ) → ((k : ℕ) → Member k ns → k ≤ top) → get_or ns n 0 ≤ top
get_or_bound [] n top h = omega arith
get_or_bound (k ∷ ns) zero top h = h k (inl refl)
get_or_bound (k ∷ ns) (suc n) top h = get_or_bound ns n top (λ x m. h x (inr m))

-- each size is that of a region that was registered
size_member : (ports : ℕ) (log : List Deed) (k : ℕ) → AllDidFit ports log → Member k (sizes log) → k ≤ len_max
unfolding sizes
size_member ports [] k fit m = elim m [ ]
size_member ports (d ∷ before) k fit m =
    elim (member-append_cases k (sizes before) (map length (region_by d)) m) [
      | inl a ↦ size_member ports before k fit.0 a
      | inr a ↦ (let r = member-map length k (region_by d) a in let h = (reg_fits ports d r.0 fit.1 r.1).1 in let e = r.2 in omega arith)
    ]

-- no region is longer than the longest
pub size_bound : (ports : ℕ) (log : List Deed) (n : ℕ) → AllDidFit ports log → get_or (sizes log) n 0 ≤ len_max
size_bound ports log n fit = get_or_bound (sizes log) n len_max (λ k m. size_member ports log k fit m)
