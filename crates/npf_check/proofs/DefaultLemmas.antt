-- How the default groups of a text are counted from its front.
use Rattle.std.proofs.Common.{◌≡◌, Bool, true, false, not, List, [], ◌∷◌, refl}
use Rattle.npf_types.specs.declared.span.Span.{Span}
use Rattle.npf_faults.specs.{declared.fault.{ConfFault.ConfFault, Fault.TheVariants.{NoDefault, TwoDefaults}}, First.{fault_at, fault_if}}
use Rattle.npf_check.specs.Default.{one_default}

-- the faults of the default groups that are left, where one was met or none was
abbrev pub left_default : Bool → Span → List Span → List ConfFault
left_default false end spans = one_default end spans
left_default true end [] = []
left_default true end (second ∷ others) = fault_at second TwoDefaults

pub first_met : (end span : Span) (spans : List Span) → one_default end (span ∷ spans) ≡ left_default true end spans
first_met end span [] = refl
first_met end span (second ∷ others) = refl

pub none_left : (met : Bool) (end : Span) → left_default met end [] ≡ fault_if (not met) end NoDefault
none_left false end = refl
none_left true end = refl
