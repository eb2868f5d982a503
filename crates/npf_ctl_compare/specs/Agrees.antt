-- What it means that two configurations are the same.
use Rattle.std.specs.Prelude.{◌≡◌, Bool, true, List, ℕ}
use Rattle.npf_types.specs.declared.direction.Dir.{Dir}
use Rattle.npf_types.specs.declared.facts.Facts.{Facts}
use Rattle.npf_types.specs.declared.interface.IfId.{IfId}
use Rattle.npf_model.specs.declared.iface.Iface.{Iface}
use Rattle.npf_model.specs.Configuration.{Configuration}
use Rattle.npf_reach.specs.Kinds.{IsPacket}
use Rattle.npf_treatment.specs.Treatment.{treatment}
use Rattle.npf_ctl_compare.specs.Loaded.{AnswersCompare, new_numbered, old_numbered}

-- both do the same with each packet that there can be, by the rule that decides and, where that passes it, by the map that applies; and their settings are
-- the same
pub record Agrees (old new : Configuration) : Type 0 where
  pub treated : (facts : Facts) (ifid : IfId) (dir : Dir) → IsPacket facts ifid → treatment old facts ifid dir ≡ treatment new facts ifid dir
  pub settings : old.model.settings ≡ new.model.settings
  pub alg_icmp : old.model.alg_icmp ≡ new.model.alg_icmp

-- where `same` is told, both configurations agree
abbrev pub SameAgrees : Type 0
SameAgrees = (given : List Iface) (old new : Configuration) (text : List ℕ) → AnswersCompare given old new true text
    → Agrees (old_numbered given old new) (new_numbered given old new)

-- where they agree, `same` is told
abbrev pub AgreedIsSame : Type 0
AgreedIsSame = (given : List Iface) (old new : Configuration) (same : Bool) (text : List ℕ) → AnswersCompare given old new same text
    → Agrees (old_numbered given old new) (new_numbered given old new) → same ≡ true
