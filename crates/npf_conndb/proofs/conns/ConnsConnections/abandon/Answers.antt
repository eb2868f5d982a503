use Rattle.std.proofs.Common.{refl, ap, ◌∙◌, inr}
use Rattle.npf_core.specs.declared.act.Why.TheVariants.{Abandoned}
use Rattle.npf_cells_rule.specs.Passes.{is_pinned}
use Rattle.npf_seats.proofs.PrefixLemmas.{none_listed}
use Rattle.npf_conndb.proofs.{EndingLemmas.{killed_one, is_dead, abandons, abandoned_between, abandoned_pin, abandoned_goes}, TurnLemmas.known_exists}
use Rattle.npf_conndb.proofs.conns.ConnsConnections.abandon.Goals as goal

pub kill-requires-clause-exists : goal.kill-requires-clause-exists
kill-requires-clause-exists g c = known_exists g.L.Law.meaning _ _ c.args.id c.requires.inside.own.own.sized c.requires.inside.legal (inr c.requires.builds)

pub kill-requires-clause-stored : goal.kill-requires-clause-stored
kill-requires-clause-stored g c = λ owed. none_listed c.args.id.slot (rw c.requires.inside.own.between.stored at owed)

pub kill-requires-clause-notes : goal.kill-requires-clause-notes
kill-requires-clause-notes g c = c.requires.inside.own.between.noted c.args.id c.requires.builds

pub end_killed-requires-clause-exists : goal.end_killed-requires-clause-exists
end_killed-requires-clause-exists g c = known_exists g.L.Law.meaning _ _ c.args.id c.requires.inside.own.own.sized c.requires.inside.legal (inr c.requires.builds)

pub end_killed-requires-clause-protected : goal.end_killed-requires-clause-protected
end_killed-requires-clause-protected g c = rw (ap (λ y. y.0.epochs.pin) c.kill.ensures.kills.is) (c.requires.inside.own.between.protected c.requires.inside.entered)

pub end_killed-requires-clause-legal : goal.end_killed-requires-clause-legal
end_killed-requires-clause-legal g c = c.kill.ensures.kills.legal c.requires.inside.legal

pub end_killed-requires-clause-killed : goal.end_killed-requires-clause-killed
end_killed-requires-clause-killed g c = killed_one g.L.Law.meaning c.args.id Abandoned _ _ _ c.requires.inside.legal c.requires.inside.own.between refl c.kill.ensures.kills

pub end_killed-requires-clause-dead : goal.end_killed-requires-clause-dead
end_killed-requires-clause-dead g c = is_dead g.L.Law.meaning c.args.id Abandoned _ _ _ c.requires.inside.legal c.requires.inside.own.between refl c.kill.ensures.kills

pub returns-clause-inside : goal.returns-clause-inside
returns-clause-inside g c =
    let killed = c.kill.ensures.kills in
    let ends = c.end_killed.ensures.ends in
    record {
      own = record {
        own = c.end_killed.ensures.own;
        between = abandoned_between g.L.Law.meaning c.args.id _ _ _ c.requires.inside.legal c.requires.inside.own.between c.requires.builds killed ends;
      };
      legal = ends.legal;
      entered = ap is_pinned (abandoned_pin g.L.Law.meaning c.args.id _ _ _ c.requires.inside.legal c.requires.inside.own.between c.requires.builds killed ends) ∙ c.requires.inside.entered;
    }

pub returns-clause-adds : goal.returns-clause-adds
returns-clause-adds g c = abandons g.L.Law.meaning c.args.id _ _ _ c.requires.inside.legal c.requires.inside.own.between c.requires.builds c.kill.ensures.kills c.end_killed.ensures.ends

pub returns-clause-view : goal.returns-clause-view
returns-clause-view g c = abandoned_goes g.L.Law.meaning c.args.id _ _ _ c.requires.inside.legal c.requires.inside.own.between c.requires.builds c.kill.ensures.kills c.end_killed.ensures.ends
