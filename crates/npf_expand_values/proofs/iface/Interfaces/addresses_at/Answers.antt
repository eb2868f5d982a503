use Rattle.std.proofs.Common.{sym, ap, ◌∙◌}
use Rattle.npf_model.specs.declared.iface.Iface.{Iface}
use Rattle.npf_expand_values.proofs.IfaceLemmas.{all_at, v4_at, v6_at}
use Rattle.npf_expand_values.proofs.iface.Interfaces.addresses_at.Goals as goal

pub returns-in-Inet4 : goal.returns-in-Inet4
returns-in-Inet4 c = λ d.
    let self = c.args.self.now in
    c.as_slice.ensures.value ∙ v4_at self.families.items self.list.now self.parted c.args.function _ c.args.place c.index.result.now d c.requires c.index.ensures c.in-Inet4.is

pub returns-in-Inet6 : goal.returns-in-Inet6
returns-in-Inet6 c = λ d.
    let self = c.args.self.now in
    c.as_slice-in-Inet6.ensures.value
    ∙ v6_at self.families.items self.list.now self.parted c.args.function _ c.args.place c.index-in-Inet6.result.now d c.requires c.index-in-Inet6.ensures c.in-Inet6.is

pub returns-in-IfAddrs : goal.returns-in-IfAddrs
returns-in-IfAddrs c = λ d.
    let iface : Iface = c.index-self-place.result in
    c.as_slice-in-IfAddrs.ensures ∙ ap (λ (i : Iface). i.addrs) (sym c.index-self-place.is)
    ∙ all_at c.args.self.now.list.now c.args.function _ c.args.place iface d c.requires c.index-self-place.is c.in-IfAddrs.is
