use Rattle.std.proofs.{Common.{◌≡◌, ◌∙◌, ◌+◌, ℕ, ap, sym, subst, take, drop, arith}, lemmas.List.drop-drop}
use Rattle.npf_pcap.specs.Record.{HasRecord, stored_len, time_of}
use Rattle.npf_pcap.proofs.read.extent_at.Goals as goal

pub returns-clause-read : goal.returns-clause-read
returns-clause-read c =
    let format = c.args.format in
    let bytes = c.args.bytes.now in
    let rest = c.split_at.ensures.back in
    let len : c.number32-stored_len.result ≡ stored_len format (drop c.args.at bytes) = c.number32-stored_len.ensures ∙ ap (stored_len format) rest in
    let whole : HasRecord format c.split_at.result.1.now = record {
      header = omega (arith, c.if-record-lt-RECORD_HEADER_LEN.false);
      short = omega (arith, c.number32-stored_len.ensures, c.if-stored_len-gt-MAX_PACKET_BYTES.false);
      whole = omega (arith, c.number32-stored_len.ensures, c.if-record-stored_len.false, c.if-record-lt-RECORD_HEADER_LEN.false);
    } in
    record {
      whole = subst (HasRecord format) rest whole;
      time = c.time_of.ensures.said ∙ ap (time_of format) rest;
      stored = ap (λ n. take n (drop (c.args.at + 16) bytes)) len ∙ ap (take (stored_len format (drop c.args.at bytes))) (sym (drop-drop 16 c.args.at bytes));
    }
