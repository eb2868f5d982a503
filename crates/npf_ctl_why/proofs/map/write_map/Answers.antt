use Rattle.std.proofs.Common.{refl}
use Rattle.npf_shelf.proofs.OptionLemmas.{OnOk-weaker}
use Rattle.npf_ctl_why.specs.Map.{map_text}
use Rattle.npf_ctl_why.proofs.map.write_map.Goals as goal

pub returns : goal.returns
returns c =
    let reason = c.in_ok-reason.reason in
    OnOk-weaker _ _ c.write_map_reason.result (λ is. (map_text reason, is, (reason, c.in_ok-reason.ensures, refl))) c.write_map_reason.ensures
