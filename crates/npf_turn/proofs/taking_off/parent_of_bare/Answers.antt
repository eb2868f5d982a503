use Rattle.npf_turn.proofs.TakingOffLemmas.{parent_named}
use Rattle.npf_turn.proofs.taking_off.parent_of_bare.Goals as goal

pub returns-clause-bare : goal.returns-clause-bare
returns-clause-bare g c =
    let bare = c.is_bare.ensures.bare c.if-not-is_bare.false in
    parent_named c.args.node c.args.pass.now.seat.me _ _ c.place_named.result c.load_parent-code.result c.place_named.ensures.is
    (record { is = c.is_bare.ensures.same; found = bare.0; has = bare.1; there = bare.2; below = bare.3 }) c.load_parent-code.ensures.next
