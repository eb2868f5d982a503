-- A pass of the table stays one where it gave a key up.
use Rattle.std.proofs.Common.{◌≡◌, ◌∙◌, ℕ, List, arith}
use Rattle.atomic_table.specs.{Seated.TableId, Table.Me}
use Rattle.npf_core.specs.declared.{conn_id.ConnId.ConnId, entry.Entry.Entry}
use Rattle.npf_types.specs.declared.key.Way.{Way}
use Rattle.npf_paths.specs.declared.place.Place.{Place}
use Rattle.npf_cells_words.specs.declared.layout.Layout.{Layout}
use Rattle.npf_cells_rule.specs.{declared.view.CellView.CellView, Passes.IsPassOf}
use Rattle.npf_cells_holds.specs.UnlinkKinds.{unlinked}

pub unlinked_on : {S A R F : Type 0} (layout : Layout) (table seat seat' : TableId) (readers : List ℕ) (history : List (Entry S A R)) (id : ConnId)
    (way : Way) (p : Place) (me next : Me F (CellView S A R)) → IsPassOf layout table seat readers me → seat' ≡ seat →
    next ≡ (unlinked me.0 history id way p, me.1) → IsPassOf layout table seat' readers next
unlinked_on layout table seat seat' readers history id way p me next own same is = rw is (record {
  same = same ∙ own.same;
  words = own.words;
  carries = own.carries;
  sized = own.sized;
  lives = own.lives;
  theirs = own.theirs;
  owns = own.owns;
  place = own.place;
  most = own.most;
  reader = own.reader;
  epoch = omega arith;
  unanswered = own.unanswered;
  unlocked = own.unlocked;
  marked = own.marked;
})
