-- What a pass has seen, and whose that is, once it has added an entry.
use Rattle.std.{specs.List.Contains, proofs.Common.{◌≡◌, ℕ, ◌≤◌, true, List, [], ◌∷◌, ◌++◌, set, length, sym, ap, ◌∙◌, subst, ⊎_elim, inl, inr, append_assoc}}
use mathlib.Core.Option.{some}
use lib.ListN.{get_elem?}
use Rattle.npf_shelf.proofs.ListLemmas.{same_from_push}
use Rattle.npf_core.{specs.{declared.entry.Entry.Entry, History.by}, proofs.HistoryLemmas.by-append}
use Rattle.npf_connections.specs.{Adding.{Adds, AddsOwn}, Pass.{IsOwn, all_places}}
use Rattle.npf_seats.specs.{declared.side.SeatSide.SeatSide, Seats.{FitsSeats, AnswersFor, Seats}}
use Rattle.npf_seats.proofs.{PrefixLemmas.{not_of, one_of, rest_none, seen_entry}, SeatLemmas.{unspent, seats-adds, only_seat}, SumLemmas.set_there}
use Rattle.npf_cells_lives.specs.Conns.{entry_seat}
use Rattle.npf_cells_rule.specs.{declared.view.CellView.CellView, Passes.cell_pass}

module _ {S A R : Type 0} (slots : ℕ) (log : List (Entry S A R)) (sides : List (SeatSide ℕ (Entry S A R))) (id : ℕ) (v : CellView S A R)
    (kept : Seats entry_seat slots all_places log sides) (at : get_elem? sides id ≡ some v.seats)
    (lives : v.seats.lives ≡ true) (place : 1 ≤ length v.seats.readers) (entry : Entry S A R) (mine : entry.seat ≡ id) where
  abbrev longer : List (Entry S A R)
  longer = log ++ entry ∷ []

  fits : FitsSeats entry_seat slots sides log id v.seats
  fits = kept.each id v.seats at

  number : v.seats.number ≡ id
  number = (fits.lives lives).number

  -- the history goes on by others' entries, and then by that one
  pub adds_entry : AddsOwn (cell_pass v) longer (entry ∷ [])
  adds_entry = record {
    adds = record {
      rest = fits.seen.rest ++ entry ∷ [];
      goes_on = ap (λ xs. xs ++ entry ∷ []) fits.seen.goes_on ∙ append_assoc v.seats.history fits.seen.rest (entry ∷ []);
      own = ap (λ n. by n (fits.seen.rest ++ entry ∷ [])) number
          ∙ (by-append id fits.seen.rest (entry ∷ []) ∙ (λ i. rest_none entry_seat id v.seats.history log fits.seen (fits.lives lives).own i ++ one_of entry_seat id entry mine i));
      listed = λ n c. by-append n fits.seen.rest (entry ∷ [])
          ∙ (λ i. rest_none entry_seat n v.seats.history log fits.seen (fits.joined n c).same i ++
          not_of entry_seat n entry (λ e. unspent entry_seat slots all_places log sides id n v.seats at place (fits.joined n c).spent (sym e ∙ mine)) i);
    };
    ends = λ init last e. (log, ap (λ x. log ++ x ∷ []) (same_from_push entry last init e));
  }

  -- where the pass owns all reader places, each entry is its own or that of a pass which was joined into it
  pub sole_entries : v.seats.theirs ≡ [] → length v.seats.readers ≡ all_places → (e : Entry S A R) → Contains longer e → IsOwn (cell_pass v) e.seat
  sole_entries settled all e c = ⊎_elim
      (λ none. absurd (seen_entry entry_seat longer e none c))
      (λ has. own (only_seat entry_seat slots all_places longer (set sides id adding) id adding seats (set_there sides id v.seats adding at) lives all e.seat has))
      (seats.known e.seat)
    where
      adding : SeatSide ℕ (Entry S A R)
      adding = record v.seats { history = longer }

      seats : Seats entry_seat slots all_places longer (set sides id adding)
      seats = seats-adds entry_seat slots all_places log sides id v.seats kept at lives place entry mine

      own : AnswersFor id adding e.seat → IsOwn (cell_pass v) e.seat
      own answers = ⊎_elim (λ same. inl (same ∙ sym number)) (λ (c : Contains (v.seats.theirs ++ v.seats.joined) e.seat). inr (subst (λ xs. Contains (xs ++ v.seats.joined) e.seat) settled c)) answers

-- What it has seen once it has seen all, and added nothing.
module _ {S A R : Type 0} (slots : ℕ) (log : List (Entry S A R)) (sides : List (SeatSide ℕ (Entry S A R))) (id : ℕ) (v : CellView S A R)
    (kept : Seats entry_seat slots all_places log sides) (at : get_elem? sides id ≡ some v.seats)
    (lives : v.seats.lives ≡ true) where
  saw : FitsSeats entry_seat slots sides log id v.seats
  saw = kept.each id v.seats at

  -- the history goes on by others' entries alone
  pub sees_nothing : Adds (cell_pass v) log []
  sees_nothing = record {
    rest = saw.seen.rest;
    goes_on = saw.seen.goes_on;
    own = ap (λ n. by n saw.seen.rest) (saw.lives lives).number ∙ rest_none entry_seat id v.seats.history log saw.seen (saw.lives lives).own;
    listed = λ n c. rest_none entry_seat n v.seats.history log saw.seen (saw.joined n c).same;
  }

  pub sole_seen : v.seats.theirs ≡ [] → length v.seats.readers ≡ all_places → (e : Entry S A R) → Contains log e → IsOwn (cell_pass v) e.seat
  sole_seen settled all e c = ⊎_elim
      (λ none. absurd (seen_entry entry_seat log e none c))
      (λ has. own (only_seat entry_seat slots all_places log sides id v.seats kept at lives all e.seat has))
      (kept.known e.seat)
    where
      own : AnswersFor id v.seats e.seat → IsOwn (cell_pass v) e.seat
      own answers = ⊎_elim (λ same. inl (same ∙ sym (saw.lives lives).number)) (λ (c : Contains (v.seats.theirs ++ v.seats.joined) e.seat).
          inr (subst (λ xs. Contains (xs ++ v.seats.joined) e.seat) settled c)) answers
