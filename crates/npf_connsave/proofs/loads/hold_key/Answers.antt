use Rattle.std.proofs.Common.{◌≡◌, Option, [], ◌++◌, Contains, refl, sym, subst, ◌∙◌, append-nil, arith}
use Rattle.npf_types.specs.declared.key.Key.{Key}
use Rattle.npf_core.specs.{declared.held.Held.Held, History.Legal}
use Rattle.npf_connections.specs.{Answered.taken_ids, Entries.hold_entries}
use Rattle.npf_flow.specs.Flows.{flow_law}
use Rattle.npf_saved_file.specs.Conns.{key_list}
use Rattle.npf_connsave.{specs.Loads.hold_entries_of, proofs.LoadingLemmas.{alone_after, not_refused, sole_after}}
use Rattle.npf_connsave.proofs.loads.hold_key.Goals as goal

pub unreachable-requires : goal.unreachable-requires
unreachable-requires g c =
    let old = g.C.Connections.view c.args.pass.now in
    let new = g.C.Connections.view c.hold.new.pass in
    let key = c.in-Some.key in
    let same = sole_after old new (taken_ids c.hold.result) old.builds c.hold.ensures.view c.hold.ensures.sweeps in
    let made = alone_after old new (hold_entries old c.args.id key c.args.way (Held.Taken c.in-Taken.field-0)) c.hold.ensures.inside.legal same c.requires.sole c.in-Taken.ensures.adds.adds in
    let there = subst (λ (k : Option Key). Contains (key_list k) key) (sym c.in-Some.is) (0, omega arith, refl) in
    not_refused new.slots old.history old.number c.args.id c.args.way key c.in-Taken.field-0 (subst (Legal flow_law new.slots) made c.hold.ensures.inside.legal.legal) (c.requires.free key there)

pub returns-in-Done-clause-holds : goal.returns-in-Done-clause-holds
returns-in-Done-clause-holds g c = λ _.
    let old = g.C.Connections.view c.args.pass.now in
    let new = g.C.Connections.view c.hold.new.pass in
    let same = sole_after old new (taken_ids c.hold.result) old.builds c.hold.ensures.view c.hold.ensures.sweeps in
    subst (λ (key : Option Key). new.history ≡ old.history ++ hold_entries_of old.number c.args.id c.args.way key) (sym c.in-Some.is)
    (alone_after old new (hold_entries old c.args.id c.in-Some.key c.args.way Held.Done) c.hold.ensures.inside.legal same c.requires.sole c.in-Done.ensures.adds.adds)

pub returns-in-NoNode-clause-refused : goal.returns-in-NoNode-clause-refused
returns-in-NoNode-clause-refused g c = λ _.
    let old = g.C.Connections.view c.args.pass.now in
    let new = g.C.Connections.view c.hold.new.pass in
    let same = sole_after old new (taken_ids c.hold.result) old.builds c.hold.ensures.view c.hold.ensures.sweeps in
    record {
      same = alone_after old new [] c.hold.ensures.inside.legal same c.requires.sole c.in-NoNode.ensures.adds.adds ∙ append-nil old.history;
      sweeps = c.in-NoNode.ensures.sweep refl;
    }
