use Rattle.std.proofs.{Common.{◌<◌, length, refl, sym, ap, ◌∙◌, subst}, lemmas.Option.slice_get_read}
use Rattle.npf_expand_values.{specs.{Scope.{ifaces_in, known}, Use.atoms_of}, proofs.KeptLemmas.{IsDefAt, known_at, length-known, only_part, only_older}}
use Rattle.npf_expand_values.proofs.variable.Variables.part.Goals as goal
use Rattle.npf_expand_values.proofs.variable.Variables.part.Goals.{In-Some}

def_is : (c : In-Some) → IsDefAt (ifaces_in c.args.self.now) (known c.args.self.now) c.args.place c.index.result.now
def_is c = known_at c.args.self.now c.args.place c.index.result.now
    (slice_get_read c.args.self.now.defs.items _ c.args.place c.index.result.now refl c.requires c.index.ensures)

pub returns-in-Some-clause-means : goal.returns-in-Some-clause-means
returns-in-Some-clause-means c = only_part (known c.args.self.now) _ c.in-Some.part c.in-Some.ensures ∙ sym (ap atoms_of (def_is c).binding)

pub returns-in-Some-clause-older : goal.returns-in-Some-clause-older
returns-in-Some-clause-older c = only_older (length (known c.args.self.now)) _ c.in-Some.part c.in-Some.ensures (def_is c).behind.older

pub returns-in-None-clause-older : goal.returns-in-None-clause-older
returns-in-None-clause-older c = subst (λ n. c.args.place < n) (sym (length-known c.args.self.now)) c.requires
