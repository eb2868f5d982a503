use Rattle.std.proofs.Common.{ℕ, [], ap, sym, get_or, ◌∙◌, arith}
use Rattle.npf_types.specs.Named.{named}
use Rattle.npf_model.specs.declared.iface.Iface.{Iface}
use Rattle.npf_expand_values.proofs.IfaceLemmas.{first_named, none_named}
use Rattle.npf_expand_values.proofs.iface.Interfaces.all_addresses.Goals as goal

pub all_at-requires : goal.all_at-requires
all_at-requires c =
    let found = first_named c.args.self.now.list.now c.args.name.now 0 c.in-Some.place (sym (c.in-Some.ensures _ c.args.self.now.placed)) in
    omega (arith, found.counted, found.within)

pub returns-in-Some : goal.returns-in-Some
returns-in-Some c =
    let ifaces = c.args.self.now.list.now in
    let found = first_named ifaces c.args.name.now 0 c.in-Some.place (sym (c.in-Some.ensures _ c.args.self.now.placed)) in
    let d : Iface = record { name = named []; addrs = [] } in
    c.all_at.ensures d ∙ ap (λ (n : ℕ). (get_or ifaces n d).addrs) (omega (arith, found.counted)) ∙ found.addrs d

pub returns-in-None : goal.returns-in-None
returns-in-None c = sym (none_named c.args.self.now.list.now c.args.name.now 0 (sym (c.in-None.ensures _ c.args.self.now.placed)))
