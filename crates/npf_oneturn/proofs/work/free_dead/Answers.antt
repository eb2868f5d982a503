use Rattle.std.proofs.Common.{◌≡◌, rules}
use Rattle.npf_types.specs.declared.key.Way.{Way}
use Rattle.npf_core.specs.{declared.stage.Stage.TheVariants.Dead, Machine.{stage_of, HoldsNone}}
use Rattle.npf_oneturn_store.proofs.RepresentLemmas.{free_is_act, shows_dead, shows_bare}
use Rattle.npf_oneturn.proofs.FreeLemmas.{frees_at}
use Rattle.npf_oneturn.proofs.work.free_dead.Goals as goal

pub returns-clause-frees : goal.returns-clause-frees
returns-clause-frees g c = λ slots k seat r.
    let m = g.L.Law.meaning in
    let id = c.in-Some.id in
    let killed : stage_of k id ≡ Dead = (shows_dead _ slots _ k id r).1 c.in-Some.ensures.1 in
    let none : (way : Way) → HoldsNone k id way = λ way. (shows_bare _ slots _ k id way r).1 (c.requires id c.in-Some.ensures.1 way) in
    frees_at m slots k seat id c.args.slot _ c.in-Some.ensures.0 (record { killed = killed; none = none; further = search rules })
    (free_is_act m slots _ _ k id r killed c.free.ensures seat)
