use Rattle.std.proofs.Common.{◌≡◌, ap}
use Rattle.npf_types.specs.declared.key.Way.TheVariants.{Forward, Backward, Port}
use Rattle.npf_core.specs.declared.found.Found.{Found}
use Rattle.npf_turn.proofs.KeysLemmas.{goes, ended_keys}
use Rattle.npf_turn.proofs.endings.end_keys.Goals as goal

pub end_key-requires-clause-held : goal.end_key-requires-clause-held
end_key-requires-clause-held g c = c.requires.held Forward

pub end_key-requires-2-clause-held : goal.end_key-requires-2-clause-held
end_key-requires-2-clause-held g c has =
    let first = goes g.L.Law.meaning c.args.id Forward c.end_key.result _ _ c.end_key.ensures.ends c.requires.unlocked in
    c.requires.held Backward (first.gave _ has (λ e. let ways : Backward ≡ Forward = ap (λ (f : Found). f.way) e in absurd cc))

pub end_key-requires-3-clause-held : goal.end_key-requires-3-clause-held
end_key-requires-3-clause-held g c has =
    let first = goes g.L.Law.meaning c.args.id Forward c.end_key.result _ _ c.end_key.ensures.ends c.requires.unlocked in
    let second = goes g.L.Law.meaning c.args.id Backward c.end_key-2.result _ _ c.end_key-2.ensures.ends first.unlocked in
    c.requires.held Port (first.gave _ (second.gave _ has (λ e. let ways : Port ≡ Backward = ap (λ (f : Found). f.way) e in
    absurd cc)) (λ e. let ways : Port ≡ Forward = ap (λ (f : Found). f.way) e in absurd cc))

pub returns-clause-ends : goal.returns-clause-ends
returns-clause-ends g c = ended_keys g.L.Law.meaning c.args.id c.end_key.result c.end_key-2.result c.end_key-3.result _ _ _ _ c.end_key.ensures.ends c.end_key-2.ensures.ends c.end_key-3.ensures.ends
