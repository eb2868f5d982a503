use Rattle.std.proofs.{Common.{◌≡◌, ℕ, ◌∙◌, sym, ap, subst, arith}, lemmas.Bool.Decides.{Decides-eqb, not_from_Decides}}
use Rattle.npf_cells_words.{specs.{declared.layout.{Layout.Layout, Pool.TheVariants.Slots}, Layout.{turn_field, field_at}}, proofs.WordLemmas.field_reach}
use Rattle.npf_cells_rule.{specs.Stood.StoodSo, proofs.PassLemmas.turnless_free}
use Rattle.npf_cells_turns.{specs.TurnKinds.HasTaken, proofs.{PassOnLemmas.tried_on, TurnKeepLemmas.may_take}}
use Rattle.npf_cells.proofs.cells.Cells.try_turn_as.Goals as goal

pub compare_exchange-found-requires : goal.compare_exchange-found-requires
compare_exchange-found-requires g c =
    let own = c.requires.own in
    let place : c.field_place-word.result ≡ field_at c.args.self.now.table.shared.key Slots c.args.slot turn_field
    = c.field_place-word.ensures ∙ ap (λ l. field_at l Slots c.args.slot turn_field) (sym c.args.self.now.laid) in
    let reach = field_reach c.args.self.now.table.shared.key Slots c.args.slot turn_field c.requires.slot (omega arith) in
    rw (c.requires.aim.0, c.requires.aim.1, place) (
      own.same,
      omega (arith, own.words, reach),
      may_take g.L.Law.meaning g.H.KeyHash.digest c.args.self.now.table.shared.key _ _ _ c.args.slot
          c.args.pass.now.seat.me own.lives own.place c.requires.slot c.requires.turnless (turnless_free c.requires.turnless own.carries),
    )

pub returns-clause-own : goal.returns-clause-own
returns-clause-own g c =
    tried_on g.L.Law.meaning g.H.KeyHash.digest c.args.self.now.table.shared.key _ _ _ _ _ _ _ _ _ _ c.requires.own c.compare_exchange-found.ensures.0 c.compare_exchange-found.ensures.2

pub returns-clause-takes : goal.returns-clause-takes
returns-clause-takes g c = λ t. subst (λ n. HasTaken n c.args.pass.now.seat.me c.compare_exchange-found.new.seat.me) c.requires.aim.1 (c.compare_exchange-found.ensures.2.won ((Decides-eqb _ _).0 t))

pub returns-clause-same : goal.returns-clause-same
returns-clause-same g c = λ t. c.compare_exchange-found.ensures.2.lost (not_from_Decides _ (Decides-eqb _ _) t)

pub returns-clause-answers : goal.returns-clause-answers
returns-clause-answers g c =
    let aim = c.requires.aim in
    record {
      found = c.compare_exchange-found.result;
      stood = subst (λ (y : Layout × ℕ). StoodSo g.L.Law.meaning g.H.KeyHash.digest y.0 c.args.pass.now.seat.me.0 (field_at y.0 Slots y.1 turn_field) c.compare_exchange-found.result)
          (λ i. (aim.0 i, aim.1 i)) c.compare_exchange-found.ensures.2.stood;
      answers = ((Decides-eqb _ _).0, (Decides-eqb _ _).1);
    }
