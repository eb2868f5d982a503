use Rattle.std.proofs.Common.{Option, true, sym, subst}
use Rattle.npf_types.specs.declared.key.Key.{Key}
use Rattle.npf_saved_file.{specs.Conns.{TakesKeys, key_list}, proofs.KeyLemmas.{key_taken, no_key_taken}}
use Rattle.npf_saved_file.proofs.conns.take_key.Goals as goal

pub returns-in-None : goal.returns-in-None
returns-in-None c = λ known has all.
    subst (λ (key : Option Key). TakesKeys known (key_list key) c.args.keys.now.keys true) (sym c.in-None.is) (no_key_taken c.args.keys.now.keys known has all)

pub returns-in_ok-insert-in-Some : goal.returns-in_ok-insert-in-Some
returns-in_ok-insert-in-Some c = λ known has all.
    subst (λ (key : Option Key). TakesKeys known (key_list key) c.insert.new.self.keys c.in_ok-insert-in-Some.field-0) (sym c.in-Some.is)
    (key_taken c.args.keys.now.keys c.insert.new.self.keys known c.in-Some.key c.in_ok-insert-in-Some.field-0 has all c.in_ok-insert-in-Some.ensures.updates.0
    c.in_ok-insert-in-Some.ensures.added)
