use Rattle.std.proofs.Common.{◌++◌, ap, ◌∙◌}
use Rattle.npf_cells_rule.specs.Passes.{is_pinned}
use Rattle.npf_conndb.proofs.PassLemmas.{idle_pin, rests_between}
use Rattle.npf_conndb.proofs.conns.ConnsConnections.join.Goals as goal

pub join-requires-clause-out : goal.join-requires-clause-out
join-requires-clause-out g c = idle_pin _ c.requires.out.out

pub join-requires-clause-other_out : goal.join-requires-clause-other_out
join-requires-clause-other_out g c = idle_pin _ c.requires.other.out

pub join-requires-clause-done : goal.join-requires-clause-done
join-requires-clause-done g c = c.requires.out.legal.idle c.requires.out.out

pub join-requires-clause-other_done : goal.join-requires-clause-other_done
join-requires-clause-other_done g c = c.requires.other.legal.idle c.requires.other.out

pub returns-clause-out : goal.returns-clause-out
returns-clause-out g c =
    let e = c.join.ensures in
    let between = c.requires.out.own.between in
    record {
      own = record {
        own = e.own;
        between = rests_between g.L.Law.meaning _
            (λ i. (
              e.idle i,
              (ap (λ t. t.locks) e.trie ∙ between.unlocked) i,
              (e.turn ∙ between.turnless) i,
              (ap (λ p. p.nodes) e.pools ∙ between.nodeless) i,
              (ap (λ p. p.unstored) e.pools ∙ between.stored) i,
              (ap (λ p. p.kills) e.pools ∙ between.let_go) i,
              (ap (λ p. p.gave_up) e.pools ∙ between.given_up) i,
              (ap (λ p. p.reclaims) e.pools ∙ between.reclaimed) i,
              (ap (λ p. p.cleared) e.pools ∙ between.freed) i,
              (ap (λ p. p.unfreed) e.pools ∙ (λ j. between.returned j ++ c.requires.other.own.between.returned j)) i,
            ))
            (ap (λ p. p.builds) e.pools ∙ c.requires.out.legal.idle c.requires.out.out);
      };
      legal = e.legal;
      out = ap is_pinned e.idle;
    }
