use Rattle.std.proofs.Common.{ap, sym, subst, ◌∙◌, length, ◌<◌}
use Rattle.npf_oneturn_store.{specs.Places.{key_place, holder_among}, proofs.{HolderLemmas.standing_within, GivenUpLemmas.not_given_up}}
use Rattle.npf_oneturn_store.proofs.{HomeLemmas.{holder_cleared, holder_here}, KeptLemmas.kept_cleared}
use Rattle.npf_oneturn_store.proofs.keys.Keys.take_back.Goals as goal

pub invariant_of-self : goal.invariant_of-self
invariant_of-self c =
    let s = c.args.self.now in
    let place = c.key_place.ensures ∙ ap key_place c.in-Some.ensures.own in
    let within = standing_within s.holdings.items (key_place c.args.found) c.in-Some.holding c.in-Some.ensures.some in
    record {
      sized = s.sized;
      room_cells = s.room_cells;
      room_flags = s.room_flags;
      kept = kept_cleared s.buckets s.holdings.items s.cells.items s.spilled.items s.kept c.key_place.result (subst (λ q. q < length s.holdings.items) (sym place) within);
      unused = λ e key. absurd (let none = s.unused e c.in-Some.holding.key in
          let held = holder_here s.buckets s.holdings.items s.cells.items s.spilled.items s.kept (key_place c.args.found) c.in-Some.holding c.in-Some.ensures.some in cc);
    }

pub returns-clause-holder : goal.returns-clause-holder
returns-clause-holder c = λ key.
    let s = c.args.self.now in
    let place = c.key_place.ensures ∙ ap key_place c.in-Some.ensures.own in
    let within = standing_within s.holdings.items (key_place c.args.found) c.in-Some.holding c.in-Some.ensures.some in
    rw place (holder_cleared s.buckets s.holdings.items s.cells.items s.spilled.items s.kept c.args.found c.in-Some.holding c.in-Some.ensures.some c.in-Some.ensures.own within key)

pub returns-in_default-clause-holder : goal.returns-in_default-clause-holder
returns-in_default-clause-holder c = λ key. sym (not_given_up (holder_among c.args.self.now.holdings.items key) c.args.found (c.in_default.ensures.none key))
