use Rattle.std.proofs.Common.{sym, ◌∙◌, arith}
use Rattle.npf_oneturn_store.proofs.{HolderLemmas.no_holder, HomeLemmas.holder_found}
use Rattle.npf_oneturn_store.proofs.keys.Keys.anywhere.Goals as goal

pub returns-in-Some : goal.returns-in-Some
returns-in-Some c =
    let s = c.args.self.now in
    sym (holder_found s.buckets s.holdings.items s.cells.items s.spilled.items s.kept c.loop-place.place c.args.key c.in-Some.found (sym c.found.ensures ∙ c.in-Some.is))

pub returns : goal.returns
returns c =
    let s = c.args.self.now in
    sym (no_holder s.holdings.items c.args.key (λ place within. c.loop-place.invariant place (omega (arith, within, c.loop-place-test.false, c.len-place-end.ensures, s.holdings.ok.0))))
