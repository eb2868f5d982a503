-- What the records of passes refuse, by one example each.
use Rattle.std.specs.Prelude.{ℕ, ◌+◌, false, List, [], ◌∷◌, None}
use Rattle.npf_types.specs.declared.key.Key.{Key}
use Rattle.npf_core.specs.declared.act.Act.TheVariants.{Look, Claim}
use Rattle.npf_core.specs.declared.conn_id.ConnId.{ConnId}
use Rattle.npf_core.specs.declared.entry.Entry.{Entry}
use Rattle.npf_core.specs.declared.reply.Reply.TheVariants.{ToLook, ToClaim}
use Rattle.npf_core.specs.Meaning.{Meaning}
use Rattle.npf_connections.specs.Adding.{Adds, AddsOwn}
use Rattle.npf_connections.specs.Joining.{IsSplit, IsJoined}
use Rattle.npf_connections.specs.Pass.{Pass, IsPass}
use Rattle.npf_connections.specs.Worn.{last_epoch}

-- a pass outside a stay
abbrev pub resting : {E : Type 0} → ℕ → List E → ℕ → List ℕ → Pass E
resting number history places joined = record {
  slots = 1;
  number = number;
  history = history;
  entered = false;
  answered = [];
  builds = [];
  places = places;
  joined = joined;
  sweeps = 0;
  epoch = 0;
}

-- a look for a key by the pass of this number, which finds nothing
abbrev pub look_by : {S A R : Type 0} → ℕ → Key → Entry S A R
look_by number key = record { seat = number; act = Look 0 key; reply = ToLook None }

-- the first claim of slot 0, by the pass number 1
abbrev pub first_id : ConnId
first_id = record { slot = 0; inc = 1 }

abbrev pub first_claim : {S A R : Type 0} → Entry S A R
first_claim = record { seat = 1; act = Claim 0 0; reply = ToClaim first_id }

-- no call adds an entry under the number 2, whose pass was joined into this one
abbrev pub ListedAddNothing : (S A R : Type 0) → Type 0
ListedAddNothing S A R = (key : Key) → ¬ Adds {S = S} {A = A} {R = R} (resting 1 [] 66 (2 ∷ [])) (look_by 2 key ∷ []) []

-- no call that added an entry ends with another pass's
abbrev pub EndsWithOwn : (S A R : Type 0) → Type 0
EndsWithOwn S A R =
    (key : Key) →
    ¬ AddsOwn {S = S} {A = A} {R = R} (resting 1 [] 1 []) (look_by 1 key ∷ look_by 2 key ∷ []) (look_by 1 key ∷ [])

-- a pass that owns all 66 reader places has no entry of a pass that wasn't joined into it
abbrev pub SoleIsAlone : {S A R : Type 0} → Meaning S A R → Type 0
SoleIsAlone m = (key : Key) → ¬ IsPass m (resting 1 (look_by 2 key ∷ []) 66 [])

-- a pass that isn't entered was answered nothing, and builds nothing
abbrev pub RestsUnanswered : {S A R : Type 0} → Meaning S A R → Type 0
RestsUnanswered m = ¬ IsPass m (record (resting 1 (first_claim ∷ []) 66 []) { answered = first_id ∷ [] })

abbrev pub RestsIdle : {S A R : Type 0} → Meaning S A R → Type 0
RestsIdle m = ¬ IsPass m (record (resting 1 (first_claim ∷ []) 66 []) { builds = first_id ∷ [] })

-- no pass loaded an epoch past the last
abbrev pub EpochsEnd : {S A R : Type 0} → Meaning S A R → Type 0
EpochsEnd m = ¬ IsPass m (record (resting 1 [] 66 []) { epoch = last_epoch + 1 })

-- no split gives the number 2 again, whose pass was joined into this one
abbrev pub NumbersAreNew : (S A R : Type 0) → Type 0
NumbersAreNew S A R =
    ¬ IsSplit {S = S} {A = A} {R = R} (resting 1 [] 66 (2 ∷ [])) (resting 1 [] 65 (2 ∷ [])) (resting 2 [] 1 [])

-- no pass is joined into one of its own number, nor of another number of slots
abbrev pub JoinsAnother : (S A R : Type 0) → Type 0
JoinsAnother S A R = ¬ IsJoined {S = S} {A = A} {R = R} (resting 1 [] 65 []) (resting 1 [] 1 []) (resting 1 [] 66 (1 ∷ []))

abbrev pub JoinsOneTable : (S A R : Type 0) → Type 0
JoinsOneTable S A R =
    ¬ IsJoined {S = S} {A = A} {R = R} (resting 1 [] 65 []) (record (resting 2 [] 1 []) { slots = 2 }) (resting 1 [] 66 (2 ∷ []))
