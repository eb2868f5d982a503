use Rattle.std.proofs.{Common.{◌≡◌, length, sym, ap, ◌∙◌, arith}, lemmas.List.length-map}
use Rattle.npf_expand_values.proofs.IfaceLemmas.{first_named, number_is}
use Rattle.npf_expand_values.proofs.iface.Interfaces.number.Goals as goal

pub overflow_add-place : goal.overflow_add-place
overflow_add-place c =
    let self = c.args.self.now in
    let found = first_named self.list.now c.as_bytes.result.now 0 c.in-Some.place (sym (c.in-Some.ensures _ self.placed)) in
    let many : length self.families.items ≡ length self.list.now = sym (length-map self.families.items _) ∙ ap length self.parted.v4 ∙ length-map self.list.now _ in
    omega (arith, found.counted, found.within, many, self.families.ok.0, self.families.ok.1, self.families.small)

pub returns-in-Some : goal.returns-in-Some
returns-in-Some c =
    c.number_of_place.ensures ∙ number_is c.args.self.now.list.now c.args.name.now c.as_bytes.result.now _ _ c.as_bytes.ensures.value (c.place.ensures _ c.args.self.now.placed) c.in-Some.is

pub returns-in-None : goal.returns-in-None
returns-in-None c =
    number_is c.args.self.now.list.now c.args.name.now c.as_bytes.result.now _ _ c.as_bytes.ensures.value (c.place.ensures _ c.args.self.now.placed) c.in-None.is
