-- Variables that are tables, behind one more definition.
use Rattle.std.proofs.Common.{◌≡◌, Bool, true, false, cond, Option, Some, if◌then◌else◌, unwrap_or, refl}

pub value_from_cond : (b table : Bool) (known : Option Bool)
    → unwrap_or (cond b (Some table) known) false ≡ (if b then table else unwrap_or known false)
value_from_cond true table known = refl
value_from_cond false table known = refl
