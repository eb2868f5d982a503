-- The first seat, and what splitting and joining make of seats.
use Rattle.std.specs.Prelude.{ℕ, ◌-◌, true, false, List, [], ◌∷◌, ◌++◌, length, take, drop}
use Rattle.npf_seats.specs.declared.side.SeatSide.{SeatSide}

-- the first seat of an object, which owns its places
abbrev pub first_seat : {K E : Type 0} → K → List ℕ → SeatSide K E
first_seat about readers = record {
  about = about;
  number = 0;
  lives = true;
  history = [];
  readers = readers;
  joined = [];
  told = [];
  theirs = [];
  others = [];
}

-- the last reader place is given up
abbrev pub givers_seat : {K E : Type 0} → SeatSide K E → SeatSide K E
givers_seat v = record v { readers = take (length v.readers - 1) v.readers }

-- the new seat has it, and no number yet
abbrev pub given_seat : {K E : Type 0} → SeatSide K E → SeatSide K E
given_seat v = record {
  about = v.about;
  number = 0;
  lives = false;
  history = v.history;
  readers = drop (length v.readers - 1) v.readers;
  joined = [];
  told = [];
  theirs = [];
  others = v.number ∷ v.joined;
}

-- the seat that takes another in, which it hasn't read yet, and what is left of that one
abbrev pub taking_seat : {K E : Type 0} → SeatSide K E → SeatSide K E → SeatSide K E
taking_seat v w = record v { readers = v.readers ++ w.readers; told = w.history; theirs = w.number ∷ w.joined }

abbrev pub spent_seat : {K E : Type 0} → K → SeatSide K E
spent_seat about = record {
  about = about;
  number = 0;
  lives = false;
  history = [];
  readers = [];
  joined = [];
  told = [];
  theirs = [];
  others = [];
}
