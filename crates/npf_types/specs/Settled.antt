-- Stages that end with one fault at most, and with none where they may come to something.
use Rattle.std.specs.Prelude.{◌≡◌, ⊤, Result, Ok, Err}
use Rattle.npf_types.specs.Stages.{Stage}

-- both come to something, or both end with the same fault
abbrev pub AgreeOnFault : {A B F : Type 0} → Result A F → Result B F → Type 0
AgreeOnFault (Ok a) (Ok b) = ⊤
AgreeOnFault (Err fault) (Err other) = fault ≡ other
AgreeOnFault (Ok a) (Err fault) = ⊥
AgreeOnFault (Err fault) (Ok a) = ⊥

-- the stages come to something together, or end with the same fault
abbrev pub AreSettled : {A B F : Type 0} → Stage A F → Stage B F → Type 0
AreSettled {A} {B} {F} stage other = (one : Result A F) (two : Result B F) → stage one → other two → AgreeOnFault one two
