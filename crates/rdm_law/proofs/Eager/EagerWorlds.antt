-- What goes out of the ports of an eager job: messages in one packet each, and handshakes, from the one life of a port to that of another.
use Rattle.std.proofs.Common.{◌≡◌, ℕ, List, Some, None, IsTrue, refl, sym, ◌∙◌, ap, subst}
use Rattle.rdm_lists.specs.Lists.{Member}
use Rattle.rdm_num.specs.declared.numbers.Connid.{Connid}
use Rattle.rdm_num.specs.declared.numbers.Life.{Life}
use Rattle.rdm_pkt.specs.Grammar.{spelling}
use Rattle.rdm_pkt.proofs.ReadRtm.{packet_is_read}
use Rattle.rdm_wire.specs.declared.Datagram.{Datagram}
use Rattle.rdm_wire.specs.declared.Body.TheVariants.{Between}
use Rattle.rdm_model.specs.declared.job.Job.{Job}
use Rattle.rdm_model.specs.declared.entry.Entry.{Entry}
use Rattle.rdm_model.specs.Deeds.{Item, Spelled, Asks, Gives, Garbled, open_life, of_life}
use Rattle.rdm_model.specs.Beginnings.{rank_of, own_of, life_at, port_count}
use Rattle.rdm_model.specs.Jobs.{is_fair, law_ops}
use Rattle.rdm_model.specs.Scenes.{Scene, scene, deeds_at}
use Rattle.rdm_model.specs.Sends.{Sent, sends}
use Rattle.rdm_model.specs.Going.{Goes, going}
use Rattle.rdm_model.specs.Local.{heard_by, own_scene, Local}
use Rattle.rdm_model.specs.Worlds.{load_of}
use Rattle.rdm_law.specs.Worlds.{TookOnce}
use Rattle.rdm_law.proofs.Lives.Lives.{life_of, opened_scene}
use Rattle.rdm_law.proofs.Fits.Fitting.{AllHandledFit, CanGo}
use Rattle.rdm_law.proofs.Fits.SmallBytes.{bytes_by_fit}
use Rattle.rdm_law.proofs.Fits.RegionsFit.{MessagesFit}
use Rattle.rdm_law.proofs.Fits.SentFits.{SentFits, sent_fits}
use Rattle.rdm_law.proofs.Fits.FairJobs.{JobFits, fair_job}
use Rattle.rdm_law.proofs.Played.GoesWell.{life_fits, life_goes, closed_goes, goes_well}
use Rattle.rdm_law.proofs.Eager.EagerDeeds.{IsEagerLoad, deeds_with_pools}
use Rattle.rdm_law.proofs.Eager.EagerDues.{IsEagerGoing}
use Rattle.rdm_law.proofs.Eager.EagerGoes.{eager_due}
use Rattle.rdm_law.proofs.Eager.EagerPorts.{EagerJob, IsEagerBody, AreEagerHandles, open_is, life_eager}

-- what goes out of the open life of an eager port
goes_of_life : (job : Job) (lives : ℕ → Connid) (logs : ℕ → List Entry) (port : ℕ) (c : Connid) (log : List Entry) (to : Life) (item : Item) → JobFits job → EagerJob job lives
    → ((p : ℕ) → Local job p (logs p)) → TookOnce logs port log → Local job port log → AllHandledFit log → AreEagerHandles lives job.limits.first log
    → open_life (deeds_at job port log) ≡ Some c → going (own_scene job port (deeds_at job port log)) ≡ Some (Goes to item) → IsEagerGoing (own_of job (life_of port c)) lives to item
unfolding own_of heard_by
goes_of_life job lives logs port c log to item fair plain local had l fit h is goes =
    let own = own_of job (life_of port c) in
    let port_log = deeds_at job port log in
    let mine = of_life c port_log in
    let deeds = deeds_with_pools job.limits (rank_of job port).limits lives mine (life_eager job lives logs port c log plain local had l h) in
    let t = life_goes (port_count job) own port_log mine to item (subst (λ (s : Scene). going s ≡ Some (Goes to item)) (opened_scene job port c port_log is) goes) in
    let fits = life_fits job port log c fair l fit in
    let ms = heard_by own.limits.first mine in
    let bytes : MessagesFit ms = λ source k. bytes_by_fit own.limits.first mine source k fits.taken in
    let sent : (s : Sent) → Member s (sends own ms mine) → SentFits own s = sent_fits (port_count job) own ms mine bytes fits.deeds_fit in
    eager_due own lives ms mine t.0 to item deeds refl sent t.1 t.2

-- the datagram that goes
eager_load : (lives : ℕ → Connid) (first : ℕ) (d : Datagram) (from to : Connid) (item : Item) → from ≡ lives d.src.0 → to ≡ lives d.dst.0 → IsEagerLoad first item → CanGo item
    → IsEagerBody lives first d (Between from to (load_of item))
unfolding load_of
eager_load lives first d from to (Spelled p) a b h can = (a, b, (p, packet_is_read p (spelling p) (can, refl), h))
eager_load lives first d from to (Asks ask) a b h can = h
eager_load lives first d from to (Gives g) a b h can = h
eager_load lives first d from to Garbled a b h can = absurd h

-- what goes out of an eager port, where a life of it is open
open_goes : (job : Job) (lives : ℕ → Connid) (logs : ℕ → List Entry) (port : ℕ) (log : List Entry) (to : Life) (item : Item) (c : Connid) (d : Datagram) → IsTrue (is_fair law_ops job)
    → EagerJob job lives → ((p : ℕ) → Local job p (logs p)) → TookOnce logs port log → Local job port log → AllHandledFit log → AreEagerHandles lives job.limits.first log
    → open_life (deeds_at job port log) ≡ Some c → going (own_scene job port (deeds_at job port log)) ≡ Some (Goes to item) → d.src.0 ≡ port → d.dst.0 ≡ to.port.0
    → IsEagerBody lives job.limits.first d (Between c to.connid (load_of item))
unfolding own_of
open_goes job lives logs port log to item c d fair plain local had l fit h is goes src dst =
    let goes_to = goes_of_life job lives logs port c log to item (fair_job job fair) plain local had l fit h is goes in
    let from_is = open_is job lives port log c plain is ∙ ap lives (sym src) in
    let to_is : to.connid ≡ lives d.dst.0 = goes_to.0 ∙ ap lives (sym dst) in
    eager_load lives job.limits.first d c to.connid item from_is to_is goes_to.1 (goes_well job fair port log to item l fit goes)

-- where no life is open nothing goes
pub any_goes : (job : Job) (lives : ℕ → Connid) (logs : ℕ → List Entry) (port : ℕ) (log : List Entry) (to : Life) (item : Item) (d : Datagram) → IsTrue (is_fair law_ops job)
    → EagerJob job lives → ((p : ℕ) → Local job p (logs p)) → TookOnce logs port log → Local job port log → AllHandledFit log → AreEagerHandles lives job.limits.first log
    → going (own_scene job port (deeds_at job port log)) ≡ Some (Goes to item) → d.src.0 ≡ port → d.dst.0 ≡ to.port.0
    → IsEagerBody lives job.limits.first d (Between (own_scene job port (deeds_at job port log)).own.life.connid to.connid (load_of item))
unfolding own_scene scene own_of life_at
any_goes job lives logs port log to item d fair plain local had l fit h goes src dst =
    (elim (open_life (deeds_at job port log)) as (λ o. open_life (deeds_at job port log) ≡ o
    → IsEagerBody lives job.limits.first d (Between (life_at port o).connid to.connid (load_of item))) [
      | None ↦ λ is. absurd (closed_goes (own_scene job port (deeds_at job port log)) to item is goes)
      | Some c ↦ λ is. open_goes job lives logs port log to item c d fair plain local had l fit h is goes src dst
    ]) refl
