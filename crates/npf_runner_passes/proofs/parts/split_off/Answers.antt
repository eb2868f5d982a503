use Rattle.std.proofs.{Common.{rules, ◌≡◌, ◌∷◌, ◌++◌, [], map, sym, subst, All, ◌<◌, length, vec_len}, lemmas.List.{map-append, length-map, Elements.All-push}}
use Rattle.npf_connections.specs.Stay.{IsOut}
use Rattle.npf_runner_passes.{specs.Parts.Spreads, proofs.PartsLemmas.spreads_more}
use Rattle.npf_runner_passes.proofs.parts.split_off.Goals as goal

pub loop-preserved : goal.loop-preserved
loop-preserved g c =
    let V = g.C.Connections.view in
    let Out = IsOut g.L.Law.meaning (g.C.Connections.fits c.args.conns.now) V in
    let given = c.loop.given.items in
    let other = c.split-other.result in
    let inv = c.loop.invariant in
    let pushed : c.push_reserved.new.self.items ≡ given ++ other ∷ [] = search rules in
    let some : length (map V given) < (V c.args.pass.now).places = let n = length-map given V in let m : vec_len c.loop.given ≡ c.loop.counter = inv.1 in let p = c.requires.places in search rules in
    let views : map V (given ++ other ∷ []) ≡ map V given ++ V other ∷ [] = map-append V given (other ∷ []) in (
      c.split-other.ensures.out,
      search rules,
      search rules,
      subst (λ z. All Out z) (sym pushed) (All-push Out given other inv.3 c.split-other.ensures.given),
      subst (λ z. Spreads (V c.args.pass.now) (V c.split-other.new.pass) (map V z)) (sym pushed)
          (subst (λ z. Spreads (V c.args.pass.now) (V c.split-other.new.pass) z) (sym views)
          (spreads_more (V c.args.pass.now) (V c.loop.pass) (V c.split-other.new.pass) (V other) (map V given) inv.4 c.split-other.ensures.splits some)),
    )
