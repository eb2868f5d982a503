-- A pass of the object stays one.
use Rattle.std.proofs.Common.{◌≡◌, ℕ, ◌-◌, ◌≤◌, ◌∙◌, length, take, Option, Some, List, [], ◌∷◌, refl, arith, length-append}
use Rattle.std.proofs.lemmas.List.{length-drop, length-take-le}
use Rattle.atomic_table.specs.{Seated.TableId, Table.{Me, Step}}
use Rattle.npf_pieces.specs.declared.piece.Piece.{Piece}
use Rattle.npf_reass.specs.declared.{offer.{Gathered.Gathered, ReassSize.ReassSize}, view.ReassView.ReassView}
use Rattle.npf_reass.specs.{Moves.{HasReadSight, IsBornPass, given_pass_view, gives_place, takes_pass_in}, Passes.{IsRestingPass, IsReassSeat}}
use Rattle.npf_reass.specs.Turn.{HasEndedTurn}

pub seat_on : {size : ReassSize} {table seat : TableId} (seat' : TableId) → seat' ≡ seat → IsReassSeat size table seat → IsReassSeat size table seat'
seat_on seat' e of = record { same = e ∙ of.same; some_class = of.some_class; words = of.words; slots = of.slots }

module _ (size : ReassSize) (me : Me Gathered ReassView) (own : IsRestingPass size me) where
  pub giver_rests : (next : Me Gathered ReassView) → 2 ≤ length me.0.seats.readers → next ≡ (gives_place me.0, me.1) → IsRestingPass size next
  giver_rests next places is =
      let kept : length (take (length me.0.seats.readers - 1) me.0.seats.readers) ≡ length me.0.seats.readers - 1 = length-take-le (length me.0.seats.readers - 1) me.0.seats.readers (omega arith) in
      rw is (record {
        free = own.free;
        turn = own.turn;
        held = own.held;
        sized = own.sized;
        lives = own.lives;
        theirs = own.theirs;
        place = omega (arith, kept, places);
      })

  pub given_rests : (st : Step Gathered) (found : ℕ) (next : Me Gathered ReassView) → 2 ≤ length me.0.seats.readers
      → IsBornPass st (given_pass_view me.0, []) found next → IsRestingPass size next
  given_rests st found next places born =
      let dropped = length-drop (length me.0.seats.readers - 1) me.0.seats.readers in
      rw born.is (record {
        free = refl;
        turn = refl;
        held = refl;
        sized = own.sized;
        lives = refl;
        theirs = refl;
        place = omega (arith, dropped, places);
      })

  pub joined_rests : (w : ReassView) (st : Step Gathered) (found : ℕ) (next : Me Gathered ReassView) → HasReadSight st (takes_pass_in me.0 w, me.1) found next → IsRestingPass size next
  joined_rests w st found next read =
      let has = length-append me.0.seats.readers w.seats.readers in
      let place = own.place in
      rw read.is (record {
        free = own.free;
        turn = own.turn;
        held = own.held;
        sized = own.sized;
        lives = own.lives;
        theirs = refl;
        place = omega (arith, has, place);
      })

-- after a turn that a resting pass took
pub ended_rests : (size : ReassSize) (old me next : Me Gathered ReassView) (class : ℕ) (slot : Gathered) (held : List (ℕ × Piece)) (o : Option (ℕ × Piece)) → IsRestingPass size old
    → me ≡ (record old.0 { turn = Some class; held = held }, (class, slot) ∷ []) → HasEndedTurn o me next → IsRestingPass size next
ended_rests size old me next class slot held o rests taken ended =
    let is = rw taken at ended.is in
    rw is (record {
      free = refl;
      turn = refl;
      held = refl;
      sized = rests.sized;
      lives = rests.lives;
      theirs = rests.theirs;
      place = rests.place;
    })
