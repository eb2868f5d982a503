use Rattle.std.proofs.Common.{◌≡◌, ◌≤◌, All, map, vec_len, vec_capacity}
use Rattle.npf_connections.specs.Stay.{IsOut}
use Rattle.npf_runner_passes.specs.Parts.{Spreads}
use Rattle.npf_runner_passes.proofs.parts.split_off.Given as goal

abbrev pub invariant-loop : goal.invariant-loop
invariant-loop g l =
    IsOut g.L.Law.meaning (g.C.Connections.fits l.conns) g.C.Connections.view l.pass
    × (vec_len l.given ≡ l.counter)
    × (l.count ≤ vec_capacity l.given)
    × All (IsOut g.L.Law.meaning (g.C.Connections.fits l.conns) g.C.Connections.view) l.given.items
    × Spreads (g.C.Connections.view l.initial.pass) (g.C.Connections.view l.pass) (map g.C.Connections.view l.given.items)
