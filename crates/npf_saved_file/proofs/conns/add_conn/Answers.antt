use Rattle.std.{proofs.Common.{false, true, List, [], ◌∷◌, ◌++◌, refl, sym, subst}, specs.List.flat_map}
use Rattle.npf_saved.specs.declared.saved.Saved.{Saved}
use Rattle.npf_saved_file.{specs.Conns.{AreRising, AreSavedConns, HasKeys, TakesKeys, saved_keys}, proofs.ConnLemmas.{added, not_distinct}}
use Rattle.npf_saved_file.proofs.conns.add_conn.Goals as goal

pub returns-then-not-branch : goal.returns-then-not-branch
returns-then-not-branch c =
    let conns = c.args.conns.now.items in
    not_distinct conns c.args.saved
    (subst (TakesKeys (flat_map saved_keys conns) (saved_keys c.args.saved) c.take_keys.new.keys.keys) c.if-not-branch.true
    (c.in_ok-take_keys.ensures (flat_map saved_keys conns) c.requires.known c.requires.good.distinct))

pub returns : goal.returns
returns c =
    let conns = c.args.conns.now.items in
    let saved = c.args.saved in
    let set = c.take_keys.new.keys.keys in
    let rising = subst (λ (cs : List Saved). AreRising (cs ++ saved ∷ [])) c.deref.ensures.value (c.if-not-rises.ensures.0 refl) in
    let takes = subst (TakesKeys (flat_map saved_keys conns) (saved_keys saved) set) c.if-not-branch.false
    (c.in_ok-take_keys.ensures (flat_map saved_keys conns) c.requires.known c.requires.good.distinct) in
    let both = added conns saved set c.requires.good c.requires.fits (c.if-not-is_placed.ensures.0 refl) rising takes in
    let pushed = c.in_ok-push.ensures.items in
    (pushed, subst AreSavedConns (sym pushed) both.0, subst (λ (cs : List Saved). HasKeys set (flat_map saved_keys cs)) (sym pushed) both.1)
