use Rattle.std.proofs.Common.{Some, [], ◌∷◌, ◌++◌, List, refl, sym, subst, ◌∙◌, append-nil}
use Rattle.npf_core.specs.{declared.{act.{Act.TheVariants.Start, Why.TheVariants.Abandoned}, reply.Reply.TheVariants.Nothing}, History.state_of}
use Rattle.npf_connections.specs.{Answered.{begun_ids, without}, Entries.{claim_entries, end_entries}}
use Rattle.npf_flow.specs.Flows.{flow_law}
use Rattle.npf_saved_file.specs.Conns.{saved_keys}
use Rattle.npf_connsave.{specs.Loads.{AreFree, FlowEntry, entry}, proofs.LoadingLemmas.alone_after}
use Rattle.npf_connsave.proofs.OneLemmas.{free_behind_claim, full_now, kept_after, leaves_one, starts_one}
use Rattle.npf_connsave.proofs.loads.start_one.Goals as goal

pub unreachable-requires : goal.unreachable-requires
unreachable-requires g c =
    let old = g.C.Connections.view c.args.pass.now in
    let begun = g.C.Connections.view c.begin.new.pass in
    let one = kept_after old begun (begun_ids c.begin.result ++ old.answered) (begun_ids c.begin.result ++ old.builds) c.begin.ensures.view in
    let same = alone_after old begun [] c.begin.ensures.inside.legal one c.requires.sole c.in_default.ensures.adds.adds ∙ append-nil old.history in
    c.requires.room (full_now old begun.history same c.in_default.ensures.full)

pub hold_keys-requires-clause-free : goal.hold_keys-requires-clause-free
hold_keys-requires-clause-free g c κs within =
    let old = g.C.Connections.view c.args.pass.now in
    let begun = g.C.Connections.view c.begin.new.pass in
    let one = kept_after old begun (begun_ids c.begin.result ++ old.answered) (begun_ids c.begin.result ++ old.builds) c.begin.ensures.view in
    let claimed = alone_after old begun (claim_entries old 0 (Some c.in-Some.id)) c.begin.ensures.inside.legal one c.requires.sole c.in-Some.ensures.adds.adds in
    subst (λ (h : List FlowEntry). AreFree (state_of flow_law h) (saved_keys c.args.saved.now)) (sym claimed)
    (free_behind_claim old.history old.number c.in-Some.id (saved_keys c.args.saved.now) c.requires.free)

pub returns-then-not-hold_keys-clause-refused : goal.returns-then-not-hold_keys-clause-refused
returns-then-not-hold_keys-clause-refused g c = λ _.
    let old = g.C.Connections.view c.args.pass.now in
    let begun = g.C.Connections.view c.begin.new.pass in
    let held = g.C.Connections.view c.hold_keys.new.pass in
    let new = g.C.Connections.view c.abandon.new.pass in
    let id = c.in-Some.id in
    let ways = c.abandon.ensures.adds.held in
    let one = kept_after old begun (begun_ids c.begin.result ++ old.answered) (begun_ids c.begin.result ++ old.builds) c.begin.ensures.view in
    let two = c.hold_keys.ensures.same in
    let three = kept_after held new held.answered (without id held.builds) c.abandon.ensures.view in
    let claimed = alone_after old begun (claim_entries old 0 (Some id)) c.begin.ensures.inside.legal one c.requires.sole c.in-Some.ensures.adds.adds in
    let ended = alone_after held new (end_entries held id Abandoned ways) c.abandon.ensures.inside.legal three (two.places ∙ one.places ∙ c.requires.sole) c.abandon.ensures.adds.adds.adds in
    leaves_one old begun held new id c.args.saved.now one two claimed ways three (c.if-not-hold_keys.ensures.refused refl) ended

pub returns-clause-starts : goal.returns-clause-starts
returns-clause-starts g c = λ _.
    let old = g.C.Connections.view c.args.pass.now in
    let begun = g.C.Connections.view c.begin.new.pass in
    let held = g.C.Connections.view c.hold_keys.new.pass in
    let new = g.C.Connections.view c.start.new.pass in
    let id = c.in-Some.id in
    let saved = c.args.saved.now in
    let one = kept_after old begun (begun_ids c.begin.result ++ old.answered) (begun_ids c.begin.result ++ old.builds) c.begin.ensures.view in
    let two = c.hold_keys.ensures.same in
    let three = kept_after held new held.answered (without id held.builds) c.start.ensures.view in
    let claimed = alone_after old begun (claim_entries old 0 (Some id)) c.begin.ensures.inside.legal one c.requires.sole c.in-Some.ensures.adds.adds in
    let started = alone_after held new (entry held.number (Start id 0 saved.flow) Nothing ∷ []) c.start.ensures.inside.legal three (two.places ∙ one.places ∙ c.requires.sole)
    c.start.ensures.adds.adds in
    starts_one old begun held new id saved one two claimed (c.if-not-hold_keys.ensures.holds refl) started
