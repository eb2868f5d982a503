use Rattle.std.proofs.Common.{◌≡◌, ℕ, ◌∙◌, sym, ap, subst, arith}
use Rattle.npf_cells_words.{specs.{declared.layout.{Layout.Layout, Pool.TheVariants.Nodes}, Layout.{parent_field, field_at}}, proofs.WordLemmas.field_reach}
use Rattle.npf_cells_rule.specs.{Stood.StoodSo, Views.with_trie}
use Rattle.npf_cells_returns.{specs.LoadKinds.loading_parent, proofs.{LearnKeepLemmas.may_load_parent, PassOnLemmas.learned_on}}
use Rattle.npf_cells.proofs.cells.Cells.load_parent_as.Goals as goal

pub load-requires : goal.load-requires
load-requires g c =
    let own = c.requires.own in
    let place : c.field_place-word.result ≡ field_at c.args.self.now.table.shared.key Nodes c.args.node parent_field
    = c.field_place-word.ensures ∙ ap (λ l. field_at l Nodes c.args.node parent_field) (sym c.args.self.now.laid) in
    let reach = field_reach c.args.self.now.table.shared.key Nodes c.args.node parent_field c.requires.exists (omega arith) in
    rw (c.requires.aim.0, c.requires.aim.1, place) (
      own.same,
      omega (arith, own.words, reach),
      may_load_parent g.L.Law.meaning g.H.KeyHash.digest c.args.self.now.table.shared.key _ _ _ c.args.node c.args.pass.now.seat.me own.place own.lives c.requires.exists,
    )

pub returns-clause-own : goal.returns-clause-own
returns-clause-own g c = learned_on c.args.self.now.table.shared.key _ _ _ _ _ _ _ _ c.requires.own c.load.ensures.0 c.load.ensures.2.is

pub returns-clause-next : goal.returns-clause-next
returns-clause-next g c = c.load.ensures.2.is ∙ ap (λ (node : ℕ). with_trie c.args.pass.now.seat.me (loading_parent node c.load.result c.args.pass.now.seat.me.0.trie)) c.requires.aim.1

pub returns-clause-stood : goal.returns-clause-stood
returns-clause-stood g c =
    let aim = c.requires.aim in
    subst (λ (y : Layout × ℕ). StoodSo g.L.Law.meaning g.H.KeyHash.digest y.0 c.args.pass.now.seat.me.0 (field_at y.0 Nodes y.1 parent_field) c.load.result)
    (λ i. (aim.0 i, aim.1 i)) c.load.ensures.2.stood
