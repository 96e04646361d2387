-- Read lists and first parts that packets carry.
use Rattle.std.proofs.Common.{◌≡◌, ℕ, ◌<◌, ◌≤◌, ◌^◌, true, List, length, arith}
use Rattle.std.specs.Prelude.{IfSome, nat_le, nat_lt, ◌&&◌, unwrap_or}
use Rattle.std.proofs.lemmas.Bool.{and_parts, eqb-true}
use Rattle.std.proofs.lemmas.Bool.Decides.{nat_tests}
use Rattle.rdm_num.specs.declared.lists.IovEntry.{IovEntry}
use Rattle.rdm_num.specs.declared.numbers.OpId.{OpId}
use Rattle.rdm_pkt.specs.declared.Form.{Form}
use Rattle.rdm_pkt.specs.declared.Form.TheVariants.{Eager, Medium, LongCts, LongRead, Runt}
use Rattle.rdm_pkt.specs.Grammar.{iov_fits, form_fits, packet_fits}
use Rattle.rdm_pkt.specs.Heads.{shape_of, size_of, head_of}
use Rattle.rdm_model.specs.Grants.{first_part_in}
use Rattle.rdm_rx.specs.Asking.{read_length, read_list_in, IsReadList}
use Rattle.rdm_rx.specs.Laws.{PacketHeadsFit, FirstPartsFit}

-- a list that fits a message is as long as it
fitting_length : (iov : List IovEntry) (size : ℕ) → iov_fits iov size ≡ true → read_length iov ≡ size
unfolding iov_fits
fitting_length iov size h = eqb-true _ _ ((and_parts _ _ h).1)

-- the list of a message that is read is one that packets carry
pub fitting_list : (iov : List IovEntry) (size : ℕ) → iov_fits iov size ≡ true → size < 2 ^ 64 → IsReadList iov
fitting_list iov size h s =
    let l = fitting_length iov size h in
    (rw l h, omega (arith, l, s))

-- so is that of a form that fits
pub read_form_list : (form : Form) (size : ℕ) (send : OpId) (iov : List IovEntry) → form ≡ LongRead size send iov → form_fits form ≡ true → size < 2 ^ 64 → IsReadList iov
unfolding form_fits
read_form_list form size send iov is h s = fitting_list iov size (rw is at h) s

-- so is that of any form that fits, if it has one
form_list : (form : Form) → form_fits form ≡ true → size_of form < 2 ^ 64 → IfSome (read_list_in (shape_of form)) IsReadList
unfolding form_fits size_of shape_of read_list_in
form_list (Eager bytes) h s = search
form_list (Medium size offset bytes) h s = search
form_list (LongCts size send credits bytes) h s = search
form_list (LongRead size send iov) h s = fitting_list iov size h s
form_list (Runt size send iov runt offset bytes) h s = fitting_list iov size (and_parts _ _ (and_parts _ _ (and_parts _ _ (and_parts _ _ h).0).0).0).0 s

-- the head of each packet that opens a message is one that packets carry
pub heads_fit : PacketHeadsFit
unfolding packet_fits head_of
heads_fit = λ number tag confirm opt form h s. form_list form (and_parts _ _ h).1 s

-- the first part of a form that fits is not longer than its message
first_part : (form : Form) → form_fits form ≡ true → unwrap_or (first_part_in form) 0 ≤ size_of form
unfolding form_fits size_of first_part_in
first_part (Eager bytes) h = omega arith
first_part (Medium size offset bytes) h = omega arith
first_part (LongCts size send credits bytes) h =
    let some : (nat_le 1 (length bytes) && nat_lt (length bytes) size) ≡ true = (and_parts _ (nat_le 1 credits) h).0 in
    let q : nat_lt (length bytes) size ≡ true = (and_parts (nat_le 1 (length bytes)) (nat_lt (length bytes) size) some).1 in
    grind (arith, nat_tests, q)
first_part (LongRead size send iov) h = omega arith
first_part (Runt size send iov runt offset bytes) h = omega arith

-- so is that of a packet that opens a message
pub first_parts_fit : FirstPartsFit
unfolding packet_fits head_of
first_parts_fit = λ number tag confirm opt form h. first_part form (and_parts _ _ h).1
