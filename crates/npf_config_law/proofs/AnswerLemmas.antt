-- Stages whose answers are one, put one behind the other.
use Rattle.std.proofs.Common.{Result, Ok, Err}
use Rattle.npf_types.specs.Stages.{Stage, ◌andthen◌, stops, goes_on, ◌told_by◌, told, done}
use Rattle.npf_config_law.specs.Answers.{AreOne}

-- the next stages answer alike on all that the first ones may come to
pub one_behind :
    {A B F : Type 0} (Same : A → A → Type 0) (After : B → B → Type 0) (Alike : F → F → Type 0) (first other : Stage A F) (next last : A → Stage B F) →
    ((one two : Result A F) → first one → other two → AreOne Same Alike one two) →
    ((a b : A) → first (Ok a) → other (Ok b) → Same a b → (one two : Result B F) → next a one → last b two → AreOne After Alike one two) →
    (one two : Result B F) → (first andthen next) one → (other andthen last) two → AreOne After Alike one two
one_behind Same After Alike first other next last firsts nexts _ _ (stops {fault = f} is) (stops {fault = g} there) = firsts (Err f) (Err g) is there
one_behind Same After Alike first other next last firsts nexts _ two (stops {fault = f} is) (goes_on {a = b} there _) = absurd (firsts (Err f) (Ok b) is there)
one_behind Same After Alike first other next last firsts nexts one _ (goes_on {a = a} is _) (stops {fault = g} there) = absurd (firsts (Ok a) (Err g) is there)
one_behind Same After Alike first other next last firsts nexts one two (goes_on {a = a} is more) (goes_on {a = b} there also) =
    nexts a b is there (firsts (Ok a) (Ok b) is there) one two more also

-- however their faults are told
pub one_told :
    {A F G : Type 0} (Same : A → A → Type 0) (Alike : F → F → Type 0) (Told : G → G → Type 0) (stage other : Stage A F) (tell : F → G) →
    ((one two : F) → Alike one two → Told (tell one) (tell two)) → ((one two : Result A F) → stage one → other two → AreOne Same Alike one two) →
    (one two : Result A G) → (stage told_by tell) one → (other told_by tell) two → AreOne Same Told one two
one_told Same Alike Told stage other tell alike answers _ _ (told {fault = f} is) (told {fault = g} there) = alike f g (answers (Err f) (Err g) is there)
one_told Same Alike Told stage other tell alike answers _ _ (told {fault = f} is) (done {a = b} there) = answers (Err f) (Ok b) is there
one_told Same Alike Told stage other tell alike answers _ _ (done {a = a} is) (told {fault = g} there) = answers (Ok a) (Err g) is there
one_told Same Alike Told stage other tell alike answers _ _ (done {a = a} is) (done {a = b} there) = answers (Ok a) (Ok b) is there
