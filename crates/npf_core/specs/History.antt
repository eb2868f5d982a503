-- Histories: lists of entries, the oldest first.
-- READ 9 of docs/READING.md
use Rattle.std.specs.Prelude.{◌≡◌, ℕ, ◌==◌, Bool, List, [], ◌∷◌, ◌++◌, filter}
use Rattle.npf_core.specs.declared.entry.Entry.{Entry}
use Rattle.npf_core.specs.declared.act.Act.{Act}
use Rattle.npf_core.specs.declared.act.Act.TheVariants.{Claim, Look, Hold, Start, Step, Kill, Unhold, Free}
use Rattle.npf_core.specs.declared.conn_id.ConnId.{ConnId}
use Rattle.npf_core.specs.Allowed.{Allows}
use Rattle.npf_core.specs.Machine.{Machine, opening}
use Rattle.npf_core.specs.Meaning.{Meaning}
use Rattle.npf_core.specs.NextState.{after_act, is_id}
use Rattle.npf_core.specs.Replies.{reply_of}

-- the entry may follow in this state: its act is allowed under its seat, and has this reply
pub record MayFollow {S A R : Type 0} (m : Meaning S A R) (slots : ℕ) (k : Machine S) (entry : Entry S A R) : Type 0 where
  pub allowed : Allows m slots k entry.seat entry.act
  pub replied : entry.reply ≡ reply_of m k entry.act

-- the state after an entry
abbrev pub after : {S A R : Type 0} → Meaning S A R → Machine S → Entry S A R → Machine S
after m k entry = after_act m k entry.seat entry.act

-- each entry may follow in the state after those before it, from this state on
abbrev pub LegalFrom : {S A R : Type 0} → Meaning S A R → ℕ → Machine S → List (Entry S A R) → Type 0
LegalFrom m slots k [] = Unit {0}
LegalFrom m slots k (entry ∷ entries) = MayFollow m slots k entry × LegalFrom m slots (after m k entry) entries

-- the same from the opening state on
abbrev pub Legal : {S A R : Type 0} → Meaning S A R → ℕ → List (Entry S A R) → Type 0
Legal m slots history = LegalFrom m slots opening history

-- the state after entries
abbrev pub state_from : {S A R : Type 0} → Meaning S A R → Machine S → List (Entry S A R) → Machine S
state_from m k [] = k
state_from m k (entry ∷ entries) = state_from m (after m k entry) entries

-- the state after a history
abbrev pub state_of : {S A R : Type 0} → Meaning S A R → List (Entry S A R) → Machine S
state_of m history = state_from m opening history

-- the history begins with the earlier one
pub record IsPrefix {E : Type 0} (earlier history : List E) : Type 0 where
  pub rest : List E
  pub goes_on : history ≡ earlier ++ rest

-- the entries of a number
abbrev pub by : {S A R : Type 0} → ℕ → List (Entry S A R) → List (Entry S A R)
by number = filter (λ entry. entry.seat == number)

-- the entry frees this identity
abbrev pub is_free : {S A : Type 0} → ConnId → Act S A → Bool
is_free id (Free other) = is_id other id
is_free id (Claim packet slot) = Bool.false
is_free id (Look packet key) = Bool.false
is_free id (Hold other key way) = Bool.false
is_free id (Start other packet init) = Bool.false
is_free id (Step packet other way arg) = Bool.false
is_free id (Kill other why) = Bool.false
is_free id (Unhold other way) = Bool.false

-- the entries that free an identity
abbrev pub frees : {S A R : Type 0} → ConnId → List (Entry S A R) → List (Entry S A R)
frees id = filter (λ entry. is_free id entry.act)
