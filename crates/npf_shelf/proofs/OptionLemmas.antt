-- What follows of options and results.
use Rattle.std.{specs.Prelude.OnOk, proofs.Common.{◌≡◌, Some, Result, Ok, Err}}

pub Some-injective : {X : Type 0} (x y : X) → Some x ≡ Some y → x ≡ y
Some-injective x y same = cc

pub OnOk-weaker : {A E : Type 0} (P Q : Type 0) (result : Result A E) → (P → Q) → OnOk result P → OnOk result Q
OnOk-weaker P Q (Ok value) follows known = follows known
OnOk-weaker P Q (Err error) follows known = known
