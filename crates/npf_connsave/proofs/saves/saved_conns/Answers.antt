use Rattle.std.proofs.{Common.{◌≡◌, rules}, lemmas.Fn.always_returns_same}
use Rattle.npf_core.{specs.{History.state_of, Machine.stage_of}, proofs.SlotLemmas.slot_exists}
use Rattle.npf_flow.specs.Flows.{flow_law}
use Rattle.npf_connsave.proofs.{CopyLemmas.live_claimed, SortLemmas.are_saved}
use Rattle.npf_connsave.proofs.saves.saved_conns.Goals as goal

pub returns-clause-saved : goal.returns-clause-saved
returns-clause-saved g c =
    let view = g.C.Connections.view c.args.pass.now in
    let k = state_of flow_law view.history in
    are_saved k view.slots c.in_ok-saved.saved.items c.sort_by_key.new.self.items c.in_ok-saved.ensures.copied c.in_ok-sort_by_key.ensures.permutation
    (c.in_ok-sort_by_key.ensures.sorted (λ conn. conn.forward) (always_returns_same _ (λ a r. r ≡ a.0.now.forward) _ (λ a r q k. search rules)))
    (λ id live. slot_exists flow_law view.slots view.history id c.requires.out.legal.legal (live_claimed (stage_of k id) live))
