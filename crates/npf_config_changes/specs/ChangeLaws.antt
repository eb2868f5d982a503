-- How many answers the definitions of changes allow.
use Rattle.std.specs.Prelude.{◌≡◌, ℕ, Result, Ok, Err, List}
use Rattle.npf_types.specs.declared.name.Name.{Name}
use Rattle.npf_types.specs.declared.prefix.Prefix.{Prefix}
use Rattle.npf_types.specs.Stages.{Stage}
use Rattle.npf_types.specs.Settled.{AreSettled}
use Rattle.npf_faults.specs.declared.fault.ConfFault.{ConfFault}
use Rattle.npf_faults.specs.Fault.{fault_number}
use Rattle.npf_model.specs.declared.iface.Iface.{Iface}
use Rattle.npf_model.specs.declared.table.Kind.{Kind}
use Rattle.npf_config_changes.specs.declared.fault.ChangeFault.{ChangeFault}
use Rattle.npf_config_changes.specs.declared.fault.ChangeFault.TheVariants.{Conf}
use Rattle.npf_config_changes.specs.Additions.{AddsRule}
use Rattle.npf_model.specs.Configuration.{Configuration}
use Rattle.npf_config_changes.specs.Changes.{FlushesRules, RemovesRule}
use Rattle.npf_config_changes.specs.Entries.{AddsEntry, RemovesEntry}

-- the stages come to one result
abbrev pub HasOneResult : {A F : Type 0} → Stage A F → Type 0
HasOneResult {A} {F} stage = (one other : Result A F) → stage one → stage other → one ≡ other

-- a rule that is taken out leaves one configuration, or is refused for one fault
abbrev pub OneRemoval : Type 0
OneRemoval = (old : Configuration) (name : Name) (id : ℕ) → HasOneResult (RemovesRule old name id)

-- and so do all rules that are taken out together
abbrev pub OneFlush : Type 0
OneFlush = (old : Configuration) (name : Name) → HasOneResult (FlushesRules old name)

-- an entry is added, or it is refused for one fault, and never both; the tables that come of it aren't compared
abbrev pub SettledAddition : Type 0
SettledAddition = (kinds : List Kind) (old : Configuration) (name : Name) (prefix : Prefix) →
    AreSettled (AddsEntry kinds old name prefix) (AddsEntry kinds old name prefix)

-- and so is one that is taken out
abbrev pub SettledRemoval : Type 0
SettledRemoval = (kinds : List Kind) (old : Configuration) (name : Name) (prefix : Prefix) →
    AreSettled (RemovesEntry kinds old name prefix) (RemovesEntry kinds old name prefix)

-- two refusals are one, or are faults of the text at one place with one number
pub data AreToldAlike : ChangeFault → ChangeFault → Type 0 where
  equal : {fault other : ChangeFault} → fault ≡ other → AreToldAlike fault other
  alike : {fault other : ConfFault} → fault.span.at ≡ other.span.at → fault_number fault.fault ≡ fault_number other.fault → AreToldAlike (Conf fault) (Conf other)

-- two results are one, or both are refusals that are told alike
abbrev pub AreOneAnswer : {A : Type 0} → Result A ChangeFault → Result A ChangeFault → Type 0
AreOneAnswer (Ok a) (Ok b) = a ≡ b
AreOneAnswer (Err fault) (Err other) = AreToldAlike fault other
AreOneAnswer (Ok a) (Err other) = ⊥
AreOneAnswer (Err fault) (Ok b) = ⊥

-- the rule that a text writes is added in one way, or it is refused for faults that are told alike, and never both
abbrev pub OneAddition : Type 0
OneAddition = (old : Configuration) (name : Name) (ifaces : List Iface) (text : List ℕ)
    → (one other : Result (Configuration × ℕ) ChangeFault) → AddsRule old name ifaces text one → AddsRule old name ifaces text other → AreOneAnswer one other
