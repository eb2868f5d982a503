use Rattle.std.proofs.{Common.{Bool, false, true, List, [], ◌∷◌, ◌++◌, subst}, lemmas.Result.IfOk-weaker}
use Rattle.npf_types.specs.declared.key.Key.{Key}
use Rattle.npf_saved_file.{specs.Conns.{AreDistinct, HasKeys, TakesKeys, key_list, saved_keys}, proofs.KeyLemmas.{more_taken, not_taken}}
use Rattle.npf_saved_file.proofs.conns.take_keys.Goals as goal

pub returns-then-not-branch : goal.returns-then-not-branch
returns-then-not-branch c = λ known has all.
    let saved = c.args.saved.now in
    let first = saved.forward ∷ [] in
    let set = c.take_key.new.keys.keys in
    not_taken known first (key_list saved.port ++ key_list saved.backward) set set
    (subst (TakesKeys known first set) c.if-not-branch.true (c.in_ok-take_key.ensures known has all))

pub returns-then-not-branch-2 : goal.returns-then-not-branch-2
returns-then-not-branch-2 c = λ known has all.
    let saved = c.args.saved.now in
    let first = saved.forward ∷ [] in
    let set = c.take_key-2.new.keys.keys in
    let one = subst (TakesKeys known first c.take_key.new.keys.keys) c.if-not-branch.false (c.in_ok-take_key.ensures known has all) in
    let two = subst (TakesKeys (known ++ first) (key_list saved.port) set) c.if-not-branch-2.true (c.in_ok-take_key-2.ensures (known ++ first) one.1 one.0) in
    more_taken known first (key_list saved.port ++ key_list saved.backward) set false
    (not_taken (known ++ first) (key_list saved.port) (key_list saved.backward) set set two)

pub returns : goal.returns
returns c =
    let saved = c.args.saved.now in
    let first = saved.forward ∷ [] in
    let port = key_list saved.port in
    let backward = key_list saved.backward in
    let set = c.take_key-3.new.keys.keys in
    IfOk-weaker c.take_key-3.result
    (λ (taken : Bool). (known : List Key) → HasKeys c.take_key-2.new.keys.keys known → AreDistinct known → TakesKeys known backward set taken)
    (λ (taken : Bool). (known : List Key) → HasKeys c.args.keys.now.keys known → AreDistinct known → TakesKeys known (saved_keys saved) set taken)
    (λ taken takes known has all.
    let one = subst (TakesKeys known first c.take_key.new.keys.keys) c.if-not-branch.false (c.in_ok-take_key.ensures known has all) in
    let two = subst (TakesKeys (known ++ first) port c.take_key-2.new.keys.keys) c.if-not-branch-2.false (c.in_ok-take_key-2.ensures (known ++ first) one.1 one.0) in
    more_taken known first (port ++ backward) set taken (more_taken (known ++ first) port backward set taken (takes ((known ++ first) ++ port) two.1 two.0)))
    c.take_key-3.ensures
