use Rattle.npf_trie.proofs.AnewLemmas.{stays_anew, in_new_stay}
use Rattle.npf_trie.proofs.holds.stay_anew.Goals as goal

pub returns-clause-anew : goal.returns-clause-anew
returns-clause-anew g c =
    stays_anew _ _ _ _ _ _ _ _ c.leave.ensures.next c.try_advance.ensures.same c.enter.ensures.same c.load_epoch-epoch.ensures.next c.clear_mark_at.ensures.returns
    c.clear_mark_at.ensures.epochs c.enter.ensures.enters c.enter.ensures.protected c.try_advance.ensures.later
    c.try_advance.ensures.known c.try_advance.ensures.most c.load_epoch-epoch.ensures.met.most

pub returns-clause-new_stay : goal.returns-clause-new_stay
returns-clause-new_stay g c =
    in_new_stay c.args.pass.now.seat.me c.leave.new.pass.seat.me c.try_advance.new.pass.seat.me c.enter.new.pass.seat.me
    c.load_epoch-epoch.new.pass.seat.me c.clear_mark_at.new.pass.seat.me c.load_epoch-epoch.result c.clear_mark_at.result
    c.leave.ensures.next c.try_advance.ensures.same c.enter.ensures.same c.load_epoch-epoch.ensures.next c.clear_mark_at.ensures.returns c.clear_mark_at.ensures.epochs c.enter.ensures.protected
