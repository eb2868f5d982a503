use Rattle.std.proofs.Common.{ap, ◌∙◌}
use Rattle.npf_cells_rule.specs.Passes.{is_pinned}
use Rattle.npf_conndb.proofs.{MoveLemmas.giver_pass, PassLemmas.{idle_pin, rests_between}}
use Rattle.npf_conndb.proofs.conns.ConnsConnections.split.Goals as goal

pub split-requires-clause-out : goal.split-requires-clause-out
split-requires-clause-out g c = idle_pin _ c.requires.out.out

pub returns-clause-out : goal.returns-clause-out
returns-clause-out g c =
    let e = c.split.ensures in
    let between = c.requires.out.own.between in
    record {
      own = record {
        own = e.own;
        between = rests_between g.L.Law.meaning _
            (λ i. (
              e.idle i,
              (ap (λ t. t.locks) e.trie ∙ between.unlocked) i,
              (e.turn ∙ between.turnless) i,
              (ap (λ p. p.nodes) e.pools ∙ between.nodeless) i,
              (ap (λ p. p.unstored) e.pools ∙ between.stored) i,
              (ap (λ p. p.kills) e.pools ∙ between.let_go) i,
              (ap (λ p. p.gave_up) e.pools ∙ between.given_up) i,
              (ap (λ p. p.reclaims) e.pools ∙ between.reclaimed) i,
              (ap (λ p. p.cleared) e.pools ∙ between.freed) i,
              (ap (λ p. p.unfreed) e.pools ∙ between.returned) i,
            ))
            (ap (λ p. p.builds) e.pools ∙ c.requires.out.legal.idle c.requires.out.out);
      };
      legal = giver_pass g.L.Law.meaning _ _ _ c.requires.out.legal c.requires.out.out c.requires.out.own.own.most e.splits e.given_legal;
      out = ap is_pinned e.idle;
    }

pub returns-clause-given : goal.returns-clause-given
returns-clause-given g c =
    let e = c.split.ensures in
    record {
      own = record {
        own = e.given;
        between = rests_between g.L.Law.meaning _
            (λ i. (
              e.given_idle i,
              (e.given_nothing i).locks,
              e.given_turnless i,
              (e.given_empty i).nodes,
              (e.given_empty i).unstored,
              (e.given_empty i).kills,
              (e.given_empty i).gave_up,
              (e.given_empty i).reclaims,
              (e.given_empty i).cleared,
              (e.given_empty i).unfreed,
            ))
            (ap (λ p. p.builds) e.given_empty);
      };
      legal = e.given_legal;
      out = ap is_pinned e.given_idle;
    }
