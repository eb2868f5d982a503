use Rattle.std.{proofs.Common.{ℕ, [], ap, sym, get_or, ◌∙◌, arith}, specs.List.filter}
use Rattle.npf_types.specs.Named.{named}
use Rattle.npf_model.specs.declared.iface.Iface.{Iface}
use Rattle.npf_expand_values.{specs.Iface.is_of, proofs.IfaceLemmas.{first_named, none_named}}
use Rattle.npf_expand_values.proofs.iface.Interfaces.addresses.Goals as goal

pub addresses_at-requires : goal.addresses_at-requires
addresses_at-requires c =
    let found = first_named c.args.self.now.list.now c.args.name.now 0 c.in-Some.place (sym (c.in-Some.ensures _ c.args.self.now.placed)) in
    omega (arith, found.counted, found.within)

pub returns-in-Some : goal.returns-in-Some
returns-in-Some c =
    let ifaces = c.args.self.now.list.now in
    let found = first_named ifaces c.args.name.now 0 c.in-Some.place (sym (c.in-Some.ensures _ c.args.self.now.placed)) in
    let d : Iface = record { name = named []; addrs = [] } in
    c.addresses_at.ensures d ∙ ap (λ (n : ℕ). filter (is_of c.args.function) (get_or ifaces n d).addrs) (omega (arith, found.counted))
    ∙ ap (filter (is_of c.args.function)) (found.addrs d)

pub returns-in-None : goal.returns-in-None
returns-in-None c = ap (filter (is_of c.args.function)) (sym (none_named c.args.self.now.list.now c.args.name.now 0 (sym (c.in-None.ensures _ c.args.self.now.placed))))
