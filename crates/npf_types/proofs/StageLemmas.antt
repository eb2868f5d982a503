-- What holds of stages, whatever they are about.
use Rattle.std.{specs.Prelude.{Result, Ok, Err}, proofs.Common.ap}
use Rattle.npf_types.specs.{Settled.AreSettled, Stages.{Stage, ◌andthen◌, stops, goes_on, ◌told_by◌, told, done}}

-- stages that come to more come to more in turn
pub andthen_lasts :
    {A B F : Type 0} (first first' : Stage A F) (next next' : A → Stage B F) →
    ((result : Result A F) → first result → first' result) → ((a : A) (result : Result B F) → next a result → next' a result) →
    (result : Result B F) → (first andthen next) result → (first' andthen next') result
andthen_lasts first first' next next' lasts lasts_next result (stops is) = stops (lasts (Err _) is)
andthen_lasts first first' next next' lasts lasts_next result (goes_on {a = a} is then_is) = goes_on (lasts (Ok a) is) (lasts_next a result then_is)

-- settled stages are settled in turn, where the next ones are on all that the first may come to
pub andthen_settled :
    {A B F : Type 0} (first : Stage A F) (next : A → Stage B F) → AreSettled first first →
    ((a b : A) → first (Ok a) → first (Ok b) → AreSettled (next a) (next b)) → AreSettled (first andthen next) (first andthen next)
andthen_settled first next settled next_settled one two (stops is) (stops other) = settled (Err _) (Err _) is other
andthen_settled first next settled next_settled one two (stops is) (goes_on {a = b} other _) = absurd (settled (Err _) (Ok b) is other)
andthen_settled first next settled next_settled one two (goes_on {a = a} is _) (stops other) = absurd (settled (Ok a) (Err _) is other)
andthen_settled first next settled next_settled one two (goes_on {a = a} is then_is) (goes_on {a = b} other then_other) =
    next_settled a b is other one two then_is then_other

-- a settled stage is settled however its faults are told
pub told_settled : {A F G : Type 0} (stage : Stage A F) (tell : F → G) → AreSettled stage stage → AreSettled (stage told_by tell) (stage told_by tell)
told_settled stage tell settled one two (told {fault = fault} is) (told {fault = other} is_other) = ap tell (settled (Err fault) (Err other) is is_other)
told_settled stage tell settled one two (told {fault = fault} is) (done {a = b} other) = settled (Err fault) (Ok b) is other
told_settled stage tell settled one two (done {a = a} is) (told {fault = fault} other) = settled (Ok a) (Err fault) is other
told_settled stage tell settled one two (done is) (done other) = tt
