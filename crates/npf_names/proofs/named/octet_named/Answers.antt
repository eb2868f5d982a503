use Rattle.std.proofs.Common.{◌≤◌, sym, arith, ◌∙◌}
use Rattle.npf_names.proofs.BoundLemmas.{named_below}
use Rattle.npf_names.proofs.named.octet_named.Goals as goal

pub overflow_cast-result : goal.overflow_cast-result
overflow_cast-result c =
    let small : c.in-Some.number ≤ 255 = named_below _ 255 c.args.text.now c.in-Some.number c.requires.small (sym c.number_named.ensures ∙ c.in-Some.is) in
    omega (arith, small)
