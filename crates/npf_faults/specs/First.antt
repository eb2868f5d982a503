-- Which of some faults of a text is answered: the one that stands first, and of those at one place the one with the smallest
-- number.
use Rattle.std.specs.Prelude.{◌≡◌, ◌<◌, ◌≤◌, ◌⊎◌, Bool, ◌==◌, ◌&&◌, ◌||◌, nat_lt, if◌then◌else◌, Option, Some, None, List, [], ◌∷◌, Contains, All}
use Rattle.npf_types.specs.declared.span.Span.{Span}
use Rattle.npf_faults.specs.Fault.{fault_number}
use Rattle.npf_faults.specs.declared.fault.ConfFault.{ConfFault}
use Rattle.npf_faults.specs.declared.fault.Fault.{Fault}

-- one fault, at this place
abbrev pub fault_at : Span → Fault → List ConfFault
fault_at span fault = record { span = span; fault = fault } ∷ []

-- a fault where a test holds
abbrev pub fault_if : Bool → Span → Fault → List ConfFault
fault_if test span fault = if test then fault_at span fault else []

-- `f` is answered rather than `g`
abbrev pub precedes : ConfFault → ConfFault → Bool
precedes f g = nat_lt f.span.at g.span.at || (f.span.at == g.span.at && nat_lt (fault_number f.fault) (fault_number g.fault))

abbrev pub earlier : Option ConfFault → Option ConfFault → Option ConfFault
earlier None g = g
earlier (Some f) None = Some f
earlier (Some f) (Some g) = Some (if precedes g f then g else f)

abbrev pub first_fault : List ConfFault → Option ConfFault
first_fault [] = None
first_fault (f ∷ fs) = earlier (Some f) (first_fault fs)

-- `g` stands behind `f`, or at its place with a number that isn't smaller
abbrev pub NotBefore : ConfFault → ConfFault → Type 0
NotBefore f g = (f.span.at < g.span.at) ⊎ ((f.span.at ≡ g.span.at) × (fault_number f.fault ≤ fault_number g.fault))

-- the fault is one of these, and none of them is to be answered rather
pub record IsFirstFaultOf (fs : List ConfFault) (f : ConfFault) : Type 0 where
  pub listed : Contains fs f
  pub first : All (NotBefore f) fs
