use Rattle.std.proofs.Common.{sym, ◌∙◌}
use Rattle.npf_packet.proofs.TcpOptionLemmas.{reads_one, reads_all}
use Rattle.npf_packet.proofs.tcp_option.options_between.Goals as goal

pub options-preserved : goal.options-preserved
options-preserved c =
    let at = c.options.at in
    let read = reads_one c.args.bytes.now c.args.from c.args.to at c.in-Some.end c.options.scale c.options.mss c.options.invariant.read (sym c.in-Some.ensures.value) in
    record {
      before = c.in-Some.ensures.before;
      read = rw (c.or-scale.ensures, c.scale_at.ensures, c.or-mss.ensures, c.mss_at.ensures) read;
    }

pub returns : goal.returns
returns c =
    reads_all c.args.bytes.now c.args.from c.args.to c.options.at c.options.scale c.options.mss c.options.invariant.read (sym c.option_end.ensures.value ∙ c.in_default.is)
