use Rattle.std.proofs.Common.{map, take}
use Rattle.npf_types.specs.AddressText.{IsAddressText}
use Rattle.npf_expand_interfaces.specs.IfaceFile.{Each}
use Rattle.npf_expand_interfaces.proofs.iface_file.addresses.Given as goal

abbrev pub invariant-loop-word : goal.invariant-loop-word
invariant-loop-word l = record { read : Each IsAddressText (take l.word-index (map (λ word. word.now) l.fn.words)) l.addrs.items }
