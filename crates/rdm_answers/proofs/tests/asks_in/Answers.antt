use Rattle.std.proofs.Common.{◌<◌, ◌^◌, arith}
use Rattle.rdm_rx.proofs.ReadLists.{read_form_list}
use Rattle.rdm_answers.proofs.tests.asks_in.Goals as goal

pub new-requires : goal.new-requires
new-requires g c =
    let x = c.in-LongRead in
    let s : x.msg_length < 2 ^ 64 = omega arith in
    read_form_list c.args.form.now x.msg_length x.send_id x.iov x.is c.requires s
