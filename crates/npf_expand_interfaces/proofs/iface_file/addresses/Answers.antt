use Rattle.std.proofs.Common.{◌+◌, subst, sym, take, map}
use Rattle.npf_types.specs.AddressText.{IsAddressText}
use Rattle.npf_expand_interfaces.{specs.IfaceFile.Each, proofs.IfaceFileLemmas.{not_read, read_more}}
use Rattle.npf_expand_interfaces.proofs.iface_file.addresses.Goals as goal

pub returns-in_default : goal.returns-in_default
returns-in_default c = not_read c.args.words.now c.loop-word.word-index _ c.loop-word-test.true c.in_default.ensures

pub loop-word-preserved : goal.loop-word-preserved
loop-word-preserved c = record {
  read = subst (Each IsAddressText (take (c.loop-word.word-index + 1) (map (λ word. word.now) c.args.words.now))) (sym c.in_ok-push.ensures.items)
      (read_more c.args.words.now c.loop-word.word-index _ c.in-Some.addr c.loop-word.addrs.items c.loop-word-test.true c.loop-word.invariant.read c.in-Some.ensures.reads);
}
