use Rattle.std.proofs.Common.{refl}
use Rattle.npf_oneturn_store.proofs.RepresentLemmas.{new_is_opening}
use Rattle.npf_oneturn.proofs.SplitLemmas.{opens}
use Rattle.npf_oneturn.proofs.one_turn.OneTurn.new.Goals as goal

pub new-requires-2 : goal.new-requires-2
new-requires-2 g c =
    rw (c.in_ok-push.ensures.items, c.new-homes.ensures.items) (opens g.L.Law.meaning _ _ (new_is_opening _ c.args.slots _ c.in_ok-new.ensures) refl)
