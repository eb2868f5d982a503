-- Texts that are known, with one more.
use Rattle.std.proofs.Common.{◌≡◌, ◌||◌, Bool, true, false, cond, refl}

pub or_from_cond : (b x : Bool) → cond b true x ≡ (b || x)
or_from_cond true x = refl
or_from_cond false x = refl

pub or-assoc : (a b c : Bool) → (a || (b || c)) ≡ ((a || b) || c)
or-assoc true b c = refl
or-assoc false b c = refl

pub or-comm : (a b : Bool) → (a || b) ≡ (b || a)
or-comm true true = refl
or-comm true false = refl
or-comm false true = refl
or-comm false false = refl
