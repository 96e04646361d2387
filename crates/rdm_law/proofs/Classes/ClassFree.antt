-- What arrives passes each test that asks more than lives.
use Rattle.std.proofs.Common.{◌≡◌, ℕ, false, List, refl}
use Rattle.rdm_num.specs.declared.numbers.Life.{Life}
use Rattle.rdm_pkt.specs.declared.Packet.TheVariants.{Rtm, Cts, CtsData, Eor, Handshake, Receipt}
use Rattle.rdm_wire.specs.declared.Datagram.{Datagram}
use Rattle.rdm_model.specs.declared.job.Job.{Job}
use Rattle.rdm_model.specs.declared.entry.Entry.{Entry}
use Rattle.rdm_model.specs.Deeds.{Deed, Item, Spelled, Gives}
use Rattle.rdm_model.specs.ClassFacts.{class_facts}
use Rattle.rdm_model.specs.Classes.{is_mismatch, is_no_op}
use Rattle.rdm_law.proofs.Accounts.Arrives.{Arrives, arriving_scene}
use Rattle.rdm_law.proofs.Classes.ClassGrants.{cts_op_free, cts_agrees, data_agrees}
use Rattle.rdm_law.proofs.Classes.ClassLives.{AllFree}
use Rattle.rdm_law.proofs.Classes.ClassSources.{well_formed, is_known}
use Rattle.rdm_law.proofs.Classes.ClassKeys.{bad_key_free}
use Rattle.rdm_law.proofs.Classes.ClassOverlap.{overlap_free}
use Rattle.rdm_law.proofs.Classes.ClassHeads.{rtm_agrees, shake_agrees}
use Rattle.rdm_law.proofs.Classes.ClassData.{data_op_free, given_op_free}
use Rattle.rdm_law.proofs.Classes.ClassEnds.{end_has_op, end_agrees}
use Rattle.rdm_law.proofs.Classes.ClassReceipts.{receipt_has_op, receipt_agrees}

-- what arrives names a live operation
has_op : (job : Job) (history : List Entry) (to from : Life) (item : Item) (d : Datagram) → Arrives job history to from item d → (ports : ℕ) (port_log : List Deed)
    → is_no_op (class_facts (arriving_scene job history to ports port_log)) from item ≡ false
unfolding is_no_op
has_op job history to from (Spelled (Cts send recv size connid)) d a ports port_log = cts_op_free job history to from send recv size connid d ports port_log a
has_op job history to from (Spelled (CtsData recv offset connid bytes)) d a ports port_log = data_op_free job history to from recv offset connid bytes d a ports port_log
has_op job history to from (Spelled (Eor send recv connid)) d a ports port_log = end_has_op job history to from send recv connid d ports port_log a
has_op job history to from (Spelled (Receipt number connid)) d a ports port_log = receipt_has_op job history to from number connid d ports port_log a
has_op job history to from (Gives data') d a ports port_log = given_op_free job history to from data' d a ports port_log
has_op job history to from _ d a ports port_log = refl

-- what arrives agrees with what came before
agrees : (job : Job) (history : List Entry) (to from : Life) (item : Item) (d : Datagram) → Arrives job history to from item d → (ports : ℕ) (port_log : List Deed)
    → is_mismatch (class_facts (arriving_scene job history to ports port_log)) from item ≡ false
unfolding is_mismatch
agrees job history to from (Spelled (Rtm number tag confirm opt form)) d a ports port_log = rtm_agrees job history to from number tag confirm opt form d a ports port_log
agrees job history to from (Spelled (CtsData recv offset connid bytes)) d a ports port_log = data_agrees job history to from recv offset connid bytes d ports port_log a
agrees job history to from (Spelled (Cts send recv size connid)) d a ports port_log = cts_agrees job history to from send recv size connid d ports port_log a
agrees job history to from (Spelled (Eor send recv connid)) d a ports port_log = end_agrees job history to from send recv connid d ports port_log a
agrees job history to from (Spelled (Receipt number connid)) d a ports port_log = receipt_agrees job history to from number connid d ports port_log a
agrees job history to from (Spelled (Handshake words connid raw)) d a ports port_log = shake_agrees job history to from words connid raw d a ports port_log
agrees job history to from _ d a ports port_log = refl

-- what arrives passes each test
pub all_free : (job : Job) → AllFree job
all_free job history to from item d a ports port_log =
    record {
      well_formed = well_formed job history to from item d a.taken;
      known = is_known job history to from item d a.played a.taken;
      good_key = bad_key_free job history to from item d a ports port_log;
      has_op = has_op job history to from item d a ports port_log;
      agrees = agrees job history to from item d a ports port_log;
      new = overlap_free job history to from item d a ports port_log;
    }
