use Rattle.std.proofs.Common.{◌∙◌, ap, rules, subst}
use Rattle.npf_engine.specs.{Arrival.{Arrival, arrival}, Handles.{Handles, configurations}, Outcome.sent_of}
use Rattle.npf_runner.proofs.EngineLemmas.{arrives_free, handled_held}
use Rattle.npf_runner.proofs.worker.handle.Goals as goal

pub returns-in-Some-clause-handled : goal.returns-in-Some-clause-handled
returns-in-Some-clause-handled g c =
    handled_held (configurations c.args.shared.now.configs.now) (g.C.Connections.view c.args.pass.now) c.args.reader.now
    (record { number = c.args.number; packet = c.args.packet.now }) c.in-Some.why c.requires.out.legal c.in-Some.is

pub returns-clause-handled : goal.returns-clause-handled
returns-clause-handled g c =
    let done = c.packet-outcome.ensures in
    let handles = subst
    (λ (a : Arrival). Handles (configurations c.args.shared.now.configs.now) (g.C.Connections.view c.args.pass.now)
    (g.C.Connections.view c.packet-outcome.new.pass) c.args.reader.now c.packet-outcome.new.reader a c.packet-outcome.result (sent_of c.packet-outcome.result c.packet-outcome.new.bytes))
    (ap (arrival c.args.number c.args.packet.now.time c.args.packet.now.link c.args.packet.now.ifid c.args.packet.now.dir) c.as_mut_slice.ensures.value
    ∙ arrives_free c.args.number c.args.packet.now c.in_default.is) done.handles in
    record {
      handles = handles;
      rested = record { later = done.handles.did.later; joined = done.handles.did.joined; legal = done.out.legal };
      kept = λ no. done.kept no ∙ c.as_mut_slice.ensures.value;
      same = search rules;
      sweep = done.sweep;
    }
