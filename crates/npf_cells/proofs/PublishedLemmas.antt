-- A pass of the table stays one where it held a key by a store.
use Rattle.std.proofs.Common.{◌≡◌, ℕ, None, List, refl, ◌∙◌}
use Rattle.atomic_table.specs.{Seated.TableId, Table.Me}
use Rattle.npf_core.specs.declared.{conn_id.ConnId.ConnId, entry.Entry.Entry}
use Rattle.npf_types.specs.declared.key.Way.{Way}
use Rattle.npf_cells_words.specs.declared.layout.Layout.{Layout}
use Rattle.npf_cells_lives.specs.Turns.{Running}
use Rattle.npf_cells_rule.specs.{declared.view.CellView.CellView, Passes.IsPassOf}
use Rattle.npf_cells_takes.proofs.SightLemmas.{led_carries}
use Rattle.npf_cells_holds.specs.PublishKinds.{published_for}

pub published_on : {S A R : Type 0} (layout : Layout) (table seat seat' : TableId) (readers : List ℕ) (history : List (Entry S A R)) (id : ConnId)
    (way : Way) (nodes : List ℕ) (me next : Me (Running S) (CellView S A R)) → IsPassOf layout table seat readers me → seat' ≡ seat →
    next ≡ (published_for me.0 history id way nodes, me.1) → IsPassOf layout table seat' readers next
published_on layout table seat seat' readers history id way nodes me next own same is = rw is (record {
  same = same ∙ own.same;
  words = own.words;
  carries = led_carries None me.0.turn me.1 own.carries;
  sized = own.sized;
  lives = own.lives;
  theirs = own.theirs;
  owns = own.owns;
  place = own.place;
  most = own.most;
  reader = own.reader;
  epoch = own.epoch;
  unanswered = λ _. refl;
  unlocked = own.unlocked;
  marked = own.marked;
})
