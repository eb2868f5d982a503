-- Which passes belong to an object, and what they show.
use Rattle.std.specs.Prelude.{◌≡◌, ℕ, ◌≤◌, true, None, [], length}
use Rattle.atomic_table.specs.Seated.{TableId}
use Rattle.atomic_table.specs.Table.{Me}
use Rattle.npf_reass.specs.declared.offer.Gathered.{Gathered}
use Rattle.npf_reass.specs.declared.offer.ReassSize.{ReassSize}
use Rattle.npf_reass.specs.declared.reass.Reass.{Reass}
use Rattle.npf_reass.specs.declared.reass.ReassPass.{ReassPass}
use Rattle.npf_reass.specs.declared.view.ReassView.{ReassView}
use Rattle.npf_reass.specs.Sight.{ReassSight}

-- a seat of the table, which has a word and a slot for each class
pub record IsReassSeat (size : ReassSize) (table seat : TableId) : Type 0 where
  pub same : seat ≡ table
  pub some_class : 1 ≤ size.classes
  pub words : table.words ≡ size.classes
  pub slots : table.slots ≡ size.classes

-- a pass is between two calls: it has no turn, and has its number and all that it was told
pub record IsRestingPass (size : ReassSize) (me : Me Gathered ReassView) : Type 0 where
  pub free : me.1 ≡ []
  pub turn : me.0.turn ≡ None
  pub held : me.0.held ≡ []
  pub sized : me.0.seats.about ≡ size
  pub lives : me.0.seats.lives ≡ true
  pub theirs : me.0.seats.theirs ≡ []
  pub place : 1 ≤ length me.0.seats.readers

-- a pass of this object
pub record IsReassPass (reass : Reass) (pass : ReassPass) : Type 0 where
  pub of : IsReassSeat reass.table.shared.key reass.table.shared.table_id pass.seat.table_id
  pub rests : IsRestingPass reass.table.shared.key pass.seat.me

abbrev pub classes_of : Reass → ℕ
classes_of reass = reass.table.shared.key.classes

abbrev pub passes_of : Reass → ℕ
passes_of reass = reass.table.shared.key.passes

-- what a pass shows
abbrev pub view_sight : ReassView → ReassSight
view_sight v = record {
  number = v.seats.number;
  history = v.seats.history;
  places = length v.seats.readers;
  joined = v.seats.joined;
}

abbrev pub sight : ReassPass → ReassSight
sight pass = view_sight pass.seat.me.0
