use Rattle.std.proofs.{Common.{None, [], ◌∷◌, ap, ◌∙◌, length}, lemmas.List.length-append}
use Rattle.npf_oneturn_store.proofs.KeptLemmas.{kept_added, holder_added}
use Rattle.npf_oneturn_store.proofs.keys.Keys.add_place.Goals as goal

pub invariant_of-self : goal.invariant_of-self
invariant_of-self c =
    let s = c.args.self.now in
    record {
      sized = s.sized;
      room_cells = s.room_cells;
      room_flags = s.room_flags;
      kept = rw c.push_reserved.ensures.items (kept_added s.buckets s.holdings.items s.cells.items s.spilled.items s.kept);
      unused = λ e key. rw c.push_reserved.ensures.items (holder_added s.holdings.items key ∙ s.unused e key);
    }

pub returns : goal.returns
returns c =
    let xs = c.args.self.now.holdings.items in
    record {
      held = λ key. rw c.push_reserved.ensures.items (holder_added xs key);
      sized = ap length c.push_reserved.ensures.items ∙ length-append xs (None ∷ []);
      room = c.push_reserved.ensures.capacity;
    }
