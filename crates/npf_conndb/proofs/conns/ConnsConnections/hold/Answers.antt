use Rattle.std.proofs.Common.{ap, ◌∙◌, inr, arith}
use Rattle.npf_connections.proofs.StayLemmas.{holding_keeps_ways, holding_keeps_bare}
use Rattle.npf_seats.proofs.PrefixLemmas.{none_listed}
use Rattle.npf_conndb.proofs.{HoldLemmas.{held_shows, held_pass, held_between, held_adds, held_sweeps, held_swept, holding}, PassLemmas.goes_on}
use Rattle.npf_conndb.proofs.TurnLemmas.{known_exists}
use Rattle.npf_conndb.proofs.conns.ConnsConnections.hold.Goals as goal

pub hold-requires-clause-protected : goal.hold-requires-clause-protected
hold-requires-clause-protected g c = c.requires.inside.own.between.protected c.requires.inside.entered

pub hold-requires-clause-can : goal.hold-requires-clause-can
hold-requires-clause-can g c =
    let between = c.requires.inside.own.between in
    record {
      may = record { built = c.requires.builds; bare = c.requires.none };
      exists = known_exists g.L.Law.meaning _ _ c.args.id c.requires.inside.own.own.sized c.requires.inside.legal (inr c.requires.builds);
      stored = λ owed. none_listed c.args.id.slot (rw between.stored at owed);
      nodes = between.nodeless;
      unfreed = between.returned;
      locks = between.unlocked;
      turnless = between.turnless;
    }

pub returns-clause-inside : goal.returns-clause-inside
returns-clause-inside g c =
    let so = c.hold.ensures.answers in
    record {
      own = record {
        own = c.hold.ensures.own;
        between = held_between g.L.Law.meaning _ _ _ _ _ _ _ _ so.anew so.settles c.requires.inside.entered c.requires.inside.legal c.requires.builds c.requires.inside.own.between;
      };
      legal = held_pass g.L.Law.meaning _ _ _ _ _ _ _ _ so.anew so.settles c.requires.inside.entered c.requires.inside.legal;
      entered = ap (λ p. p.entered) (held_shows g.L.Law.meaning _ _ _ _ _ _ _ _ so.anew so.settles c.requires.inside.entered) ∙ c.requires.inside.entered;
    }

pub returns-clause-adds : goal.returns-clause-adds
returns-clause-adds g c =
    let so = c.hold.ensures.answers in
    held_adds g.L.Law.meaning _ _ _ _ _ _ _ _ so.anew so.settles c.requires.inside.entered

pub returns-clause-ways : goal.returns-clause-ways
returns-clause-ways g c =
    let so = c.hold.ensures.answers in
    holding_keeps_ways g.L.Law.meaning _ _ c.args.id c.args.key c.args.way _
    (holding g.L.Law.meaning _ _ _ _ _ _ _ _ so.anew so.settles c.requires.inside.entered c.requires.inside.legal c.requires.builds c.requires.none)

pub returns-clause-bare : goal.returns-clause-bare
returns-clause-bare g c =
    let so = c.hold.ensures.answers in
    holding_keeps_bare g.L.Law.meaning _ _ c.args.id c.args.key c.args.way _
    (holding g.L.Law.meaning _ _ _ _ _ _ _ _ so.anew so.settles c.requires.inside.entered c.requires.inside.legal c.requires.builds c.requires.none)

pub returns-clause-sweep : goal.returns-clause-sweep
returns-clause-sweep g c = λ none.
    let so = c.hold.ensures.answers in
    let roomy = c.args.self.now.roomy in
    held_swept g.L.Law.meaning _ _ _ _ _ _ _ _ so.anew so.settles c.requires.inside.entered none (omega (arith, roomy))

pub returns-clause-view : goal.returns-clause-view
returns-clause-view g c =
    let so = c.hold.ensures.answers in
    goes_on _ _ _ _ (held_shows g.L.Law.meaning _ _ _ _ _ _ _ _ so.anew so.settles c.requires.inside.entered) so.anew.greatest

pub returns-clause-sweeps : goal.returns-clause-sweeps
returns-clause-sweeps g c =
    let so = c.hold.ensures.answers in
    held_sweeps g.L.Law.meaning _ _ _ _ _ _ _ _ so.anew so.settles c.requires.inside.entered
