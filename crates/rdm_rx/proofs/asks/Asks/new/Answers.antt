use Rattle.std.proofs.Common.{◌≡◌, ◌-◌, ◌∙◌, ap, arith, length}
use Rattle.rdm_model.specs.Reads.{asks_from}
use Rattle.rdm_rx.specs.Asking.{padded_list}
use Rattle.rdm_rx.proofs.Padding.{padded_asks, padded_length, padded_ends, fitting_ends}
use Rattle.rdm_rx.proofs.asks.Asks.new.Goals as goal

pub invariant_of-result : goal.invariant_of-result
invariant_of-result c =
    let iov = c.args.iov.now in
    let count = 4 - length iov in
    let p : c.padded.result ≡ padded_list iov = c.padded.ensures ∙ ap padded_list c.as_slice.ensures.items in
    let l = padded_length iov count in
    rw p (record {
      ends = padded_ends iov count (fitting_ends iov _ c.requires.0);
      few_bytes = (let r = c.requires.1 in omega (arith, l, r));
    })

pub returns : goal.returns
returns c =
    let iov = c.args.iov.now in
    let p : c.padded.result ≡ padded_list iov = c.padded.ensures ∙ ap padded_list c.as_slice.ensures.items in
    ap (λ ranges. asks_from c.args.send c.args.recv ranges 0 c.args.from) p ∙ padded_asks c.args.send c.args.recv iov (4 - length iov) 0 c.args.from
