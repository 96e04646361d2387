-- The instructions that are read fit, where the ports that they name are ranks.
use Rattle.std.proofs.Common.{◌≡◌, ℕ, true, Option, Some, None, codes, Ok, refl}
use Rattle.std.proofs.lemmas.Bool.{and_from}
use Rattle.serde_json.specs.Data.{Data}
use Rattle.rdm_num.specs.declared.request.Want.{Want}
use Rattle.rdm_model.specs.declared.answer.OpName.{OpName}
use Rattle.rdm_model.specs.declared.answer.OpName.TheVariants as op
use Rattle.rdm_model.specs.declared.job.Instr.{Instr}
use Rattle.rdm_model.specs.declared.job.Instr.TheVariants as instr
use Rattle.rdm_model.specs.Jobs.{instr_fits, range_fits, option_fits, want_fits, is_rank_or_none}
use Rattle.rdm_json.specs.declared.refusal.Reason.{Reason}
use Rattle.rdm_json.specs.declared.refusal.Reason.TheVariants.{Shape}
use Rattle.rdm_json.specs.declared.value.Form.TheVariants as form
use Rattle.rdm_json.specs.Results.{present}
use Rattle.rdm_json.specs.Values.{known, number, optional, text, is_set}
use Rattle.rdm_script.specs.declared.fields.Version.{Version}
use Rattle.rdm_script.specs.Contents.{as_length, content_of}
use Rattle.rdm_script.specs.Instructions.{as_port, open_of, insert_of, reg_of, send_of, want_of, recv_of, cancel_of, note_of, await_of, wait_of, close_of, word_of, said, instr_of}
use Rattle.rdm_script.specs.Ranges.{as_u32, written_of, as_parts}
use Rattle.rdm_script.specs.Programs.{port_named}
use Rattle.rdm_json.proofs.Chains.{gave, passed, given}
use Rattle.rdm_script.proofs.Numbers.{number-fits, optional-fits, as_u32-fits, as_length-fits}
use Rattle.rdm_script.proofs.Contents.{content_of-is}
use Rattle.rdm_script.proofs.WrittenRanges.{written_of-fits, as_parts-fits}

-- what is read of a tag and of ignored bits fits
want_of-fits : (tag ignore : Option ℕ) (want : Option Want) → option_fits tag ≡ true → option_fits ignore ≡ true → want_of tag ignore ≡ Ok want → want_fits want ≡ true
unfolding option_fits want_fits
want_of-fits None None None t g h = refl
want_of-fits None None (Some want) t g h = cc
want_of-fits None (Some ignore) want t g h = cc
want_of-fits (Some tag) None None t g h = cc
want_of-fits (Some tag) None (Some want) t g h = let is : record { tag = tag; ignore = 0 } ≡ want = cc in rw (← is) (and_from _ _ t refl)
want_of-fits (Some tag) (Some ignore) None t g h = cc
want_of-fits (Some tag) (Some ignore) (Some want) t g h = let is : record { tag = tag; ignore = ignore } ≡ want = cc in rw (← is) (and_from _ _ t g)

module _ (ports : ℕ) (d : Data) (i : Instr) where
  -- the instruction fits, where the port that it names is a rank
  abbrev FitsNamed : Type 0
  FitsNamed = is_rank_or_none ports (port_named i) ≡ true → instr_fits ports i ≡ true

  open_fits : open_of d ≡ Ok i → FitsNamed
  unfolding instr_fits
  open_fits h named =
      let (_, h) = passed (known form.Open d) _ i h in
      let (n, _, h) = gave (number (codes "connid") d) _ i h in
      let (connid, c, h) = gave (as_u32 n) _ i h in
      let is : instr.OpenLife (record { 0 = connid }) ≡ i = cc in
      rw (← is) (as_u32-fits n connid c)

  insert_fits : insert_of d ≡ Ok i → FitsNamed
  unfolding instr_fits is_rank_or_none
  insert_fits h named =
      let (_, h) = passed (known form.Insert d) _ i h in
      let (p, _, h) = gave (number (codes "port") d) _ i h in
      let (n, _, h) = gave (number (codes "connid") d) _ i h in
      let (port, _, h) = gave (as_u32 p) _ i h in
      let (connid, c, h) = gave (as_u32 n) _ i h in
      let is : instr.Insert (record { port = record { 0 = port }; connid = record { 0 = connid } }) ≡ i = cc in
      rw (← is) (and_from _ _ (rw (← is) at named) (as_u32-fits n connid c))

  reg_fits : reg_of d ≡ Ok i → FitsNamed
  unfolding instr_fits
  reg_fits h named =
      let (content, c, h) = gave (content_of d) _ i h in
      let is : instr.Reg content ≡ i = cc in
      let fit = content_of-is d content c in
      rw (← is) (and_from _ _ fit.short fit.bytes)

  send_fits : (version : Version) → send_of version d ≡ Ok i → FitsNamed
  unfolding instr_fits is_rank_or_none
  send_fits version h named =
      let (written, w, h) = gave (written_of version d) _ i h in
      let (t, _, h) = gave (number (codes "to") d) _ i h in
      let (tag, g, h) = gave (optional (codes "tag") d) _ i h in
      let (cq_data, q, h) = gave (optional (codes "data") d) _ i h in
      let (confirm, _, h) = gave (is_set (codes "confirm") d) _ i h in
      let (to, _, h) = gave (as_u32 t) _ i h in
      let (parts, p, h) = gave (as_parts written) _ i h in
      let is = given {E = Reason} (instr.Send (record { to = record { 0 = to }; parts = parts; tag = tag; cq_data = cq_data; confirm = confirm })) i h in
      rw (← is)
      (and_from _ _
      (and_from _ _ (and_from _ _ (rw (← is) at named) (as_parts-fits written parts (written_of-fits version d written w) p)) (optional-fits (codes "tag") d tag g))
      (optional-fits (codes "data") d cq_data q))

  recv_fits : recv_of d ≡ Ok i → FitsNamed
  unfolding instr_fits range_fits
  recv_fits h named =
      let (_, h) = passed (known form.Recv d) _ i h in
      let (f, _, h) = gave (optional (codes "from") d) _ i h in
      let (r, _, h) = gave (number (codes "region") d) _ i h in
      let (place, a, h) = gave (number (codes "at") d) _ i h in
      let (l, _, h) = gave (number (codes "len") d) _ i h in
      let (tag, g, h) = gave (optional (codes "tag") d) _ i h in
      let (ignore, n, h) = gave (optional (codes "ignore") d) _ i h in
      let (want, w, h) = gave (want_of tag ignore) _ i h in
      let (from, _, h) = gave (as_port f) _ i h in
      let (region, s, h) = gave (as_u32 r) _ i h in
      let (len, e, h) = gave (as_length l) _ i h in
      let is = given {E = Reason} (instr.Recv (record { from = from; region = record { 0 = region }; at = place; len = len; want = want })) i h in
      rw (← is)
      (and_from _ _
      (and_from _ _ (rw (← is) at named) (and_from _ _ (and_from _ _ (as_u32-fits r region s) (number-fits (codes "at") d place a)) (as_length-fits l len e)))
      (want_of-fits tag ignore want (optional-fits (codes "tag") d tag g) (optional-fits (codes "ignore") d ignore n) w))

  cancel_fits : cancel_of d ≡ Ok i → FitsNamed
  unfolding instr_fits
  cancel_fits h named =
      let (_, h) = passed (known form.Cancel d) _ i h in
      let (recv, r, h) = gave (number (codes "recv") d) _ i h in
      let is : instr.Cancel (record { 0 = recv }) ≡ i = cc in
      rw (← is) (number-fits (codes "recv") d recv r)

  note_fits : note_of d ≡ Ok i → FitsNamed
  unfolding instr_fits is_rank_or_none
  note_fits h named =
      let (_, h) = passed (known form.Note d) _ i h in
      let (t, _, h) = gave (number (codes "to") d) _ i h in
      let (what, w, h) = gave (number (codes "what") d) _ i h in
      let (to, _, h) = gave (as_u32 t) _ i h in
      let is : instr.Note (record { 0 = to }) what ≡ i = cc in
      rw (← is) (and_from _ _ (rw (← is) at named) (number-fits (codes "what") d what w))

  await_fits : await_of d ≡ Ok i → FitsNamed
  unfolding instr_fits is_rank_or_none
  await_fits h named =
      let (_, h) = passed (known form.Await d) _ i h in
      let (f, _, h) = gave (number (codes "from") d) _ i h in
      let (what, w, h) = gave (number (codes "what") d) _ i h in
      let (from, _, h) = gave (as_u32 f) _ i h in
      let is : instr.Await (record { 0 = from }) what ≡ i = cc in
      rw (← is) (and_from _ _ (rw (← is) at named) (number-fits (codes "what") d what w))

  wait_fits : wait_of d ≡ Ok i → FitsNamed
  unfolding instr_fits
  wait_fits h named =
      let (_, h) = passed (known form.Wait d) _ i h in
      let (count, c, h) = gave (number (codes "count") d) _ i h in
      let is : instr.Wait count ≡ i = cc in
      rw (← is) (number-fits (codes "count") d count c)

  close_fits : close_of d ≡ Ok i → FitsNamed
  unfolding instr_fits
  close_fits h named =
      let (_, h) = passed (known form.Close d) _ i h in
      let is : instr.CloseLife ≡ i = cc in
      rw (← is) refl

  said_fits : (version : Version) (word : OpName) → said version word d ≡ Ok i → FitsNamed
  said_fits version op.Open h = open_fits h
  said_fits version op.Insert h = insert_fits h
  said_fits version op.Reg h = reg_fits h
  said_fits version op.Send h = send_fits version h
  said_fits version op.Recv h = recv_fits h
  said_fits version op.Cancel h = cancel_fits h
  said_fits version op.Note h = note_fits h
  said_fits version op.Await h = await_fits h
  said_fits version op.Wait h = wait_fits h
  said_fits version op.Close h = close_fits h

  -- an instruction that is read fits, where the port that it names is a rank
  pub instr_of-fits : (version : Version) → instr_of version d ≡ Ok i → FitsNamed
  instr_of-fits version h =
      let (written, _, h) = gave (text (codes "op") d) _ i h in
      let (word, _, h) = gave (present Shape (word_of written)) _ i h in
      said_fits version word h
