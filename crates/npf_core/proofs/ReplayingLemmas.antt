-- A history that is made act by act.
use Rattle.std.proofs.Common.{◌≡◌, ℕ, ◌+◌, ◌<◌, List, [], ◌∷◌, ◌++◌, length, take, get_or, Option, Some, None, refl, ap, sym, ◌∙◌, add-one}
use Rattle.std.{specs.Prelude.slice_get, proofs.{lemmas.{List.map-append, Option.slice_get-get_or}, Math.Seq.take-suc}}
use Rattle.npf_core.specs.{declared.{act.Act.Act, entry.Entry.Entry, replays.Asked.Asked, reply.Reply.Reply}, Allowed.Allows, History.{Legal, state_of}}
use Rattle.npf_core.specs.{Machine.Machine, Meaning.Meaning, Plays.{IsPlayed, Plays}, Replays.{asked_in, ReplayStopsAt}}
use Rattle.npf_core.proofs.HistoryLemmas.{Legal-append, state_of-append}

read_at : {X : Type 0} (xs : List X) (i : ℕ) (x : X) → i < length xs → x ≡ get_or xs i x → slice_get xs i ≡ Some x
read_at xs i x h e = slice_get-get_or xs i x h ∙ ap (λ y. Some y) (sym e)

take_one : {X : Type 0} (xs : List X) (i : ℕ) (x : X) → i < length xs → x ≡ get_or xs i x → take (i + 1) xs ≡ take i xs ++ x ∷ []
take_one xs i x h e = rw (add-one, take-suc xs i x h, ← e) refl

-- what None and some reply tell
module _ {S A R : Type 0} (m : Meaning S A R) (slots : ℕ) (k : Machine S) (seat : ℕ) (act : Act S A) (next : Machine S) where
  was_refused : (reply : Option (Reply R)) → Plays m slots k seat act reply next → reply ≡ None → ¬ Allows m slots k seat act
  was_refused None p e = p.refused
  was_refused (Some reply) p e = absurd cc

  was_played : (reply : Option (Reply R)) (answer : Reply R) → Plays m slots k seat act reply next → reply ≡ Some answer → IsPlayed m slots k seat act answer next
  was_played None answer p e = absurd cc
  was_played (Some reply) answer p e = let same : reply ≡ answer = cc in rw (← same) p

module _ {S A R : Type 0} (m : Meaning S A R) (slots : ℕ) (asked : List (Asked S A)) (at : ℕ) (ask : Asked S A) (within : at < length asked) (stands : ask ≡ get_or asked at ask)
    (history : List (Entry S A R)) (k next : Machine S) (reply : Option (Reply R)) (state : k ≡ state_of m history) where
  pub stops_at : Legal m slots history → asked_in history ≡ take at asked → Plays m slots k ask.seat ask.act reply next → reply ≡ None → ReplayStopsAt m slots asked at
  stops_at legal before plays e = record {
    history = history;
    legal = legal;
    before = before;
    next = ask;
    stands = read_at asked at ask within stands;
    refused = rw state at (was_refused m slots k ask.seat ask.act next reply plays e);
  }

-- the history with one more entry is legal, asks for one act more, and leaves this state
pub record GoesOn {S A R : Type 0} (m : Meaning S A R) (slots : ℕ) (asked : List (Asked S A)) (at : ℕ) (history : List (Entry S A R)) (next : Machine S) : Type 0 where
  pub legal : Legal m slots history
  pub asks : asked_in history ≡ take (at + 1) asked
  pub state : next ≡ state_of m history

module _ {S A R : Type 0} (m : Meaning S A R) (slots : ℕ) (asked : List (Asked S A)) (at : ℕ) (ask : Asked S A) (within : at < length asked) (stands : ask ≡ get_or asked at ask)
    (history : List (Entry S A R)) (k next : Machine S) (reply : Option (Reply R)) (state : k ≡ state_of m history) where
  pub goes_on : (answer : Reply R) → Legal m slots history → asked_in history ≡ take at asked → Plays m slots k ask.seat ask.act reply next → reply ≡ Some answer →
      GoesOn m slots asked at (history ++ record { seat = ask.seat; act = ask.act; reply = answer } ∷ []) next
  goes_on answer legal before plays is =
      let entry : Entry S A R = record { seat = ask.seat; act = ask.act; reply = answer } in
      let played = was_played m slots k ask.seat ask.act next reply answer plays is in
      record {
        legal = Legal-append m slots history entry legal (record { allowed = rw state at played.allowed; replied = rw state at played.replied });
        asks = rw (map-append, before, take_one asked at ask within stands) refl;
        state = rw (state_of-append, ← state) played.goes_on;
      }
