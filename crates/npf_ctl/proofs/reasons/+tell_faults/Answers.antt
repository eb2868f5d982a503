use Rattle.std.proofs.Common.{rules, ◌≡◌, ◌++◌, Option, None, IfSome, ◌≤◌, length, arith, subst}
use Rattle.npf_types.specs.declared.limits.TheConstants.{MAX_TEXT_BYTES}
use Rattle.npf_ctl_input.proofs.AroundLemmas.{around_first, around_next}
use Rattle.npf_ctl_messages.specs.declared.fault.CommandFault.{CommandFault}
use Rattle.npf_why.specs.declared.remains.Remains.{Remains}
use Rattle.npf_ctl.specs.Reasons.{LeavesBehind, LoadsNext}
use Rattle.npf_ctl.proofs.ReasonLemmas.{more_left, told_last, told_next, told_sound}
use Rattle.npf_ctl.proofs.reasons.+tell_faults.Goals as goal

pub returns-in_default-clause-tells : goal.returns-in_default-clause-tells
returns-in_default-clause-tells g t c =
    let none : c.in_ok-behind.field-0 ≡ None = search rules in
    let leaves = subst (λ (it : Option Remains). LeavesBehind c.args.more c.args.remains c.args.fault.now it) none c.in_ok-behind.ensures.leaves in
    λ before after around.
    told_last before after c.args.source.ifaces.now.list c.args.source.conf.now c.args.more c.args.remains c.args.fault.now c.in_ok-said.said.items c.in_ok-said.ensures leaves

pub returns-in_default-2-clause-tells : goal.returns-in_default-2-clause-tells
returns-in_default-2-clause-tells g t c =
    let none : c.in_ok-next.field-0 ≡ None = search rules in
    let given = c.args.source.ifaces.now.list in
    let conf = c.args.source.conf.now in
    let behind = c.in-Some.behind in
    let leaves = subst (λ (it : Option Remains). LeavesBehind c.args.more c.args.remains c.args.fault.now it) c.in-Some.is c.in_ok-behind.ensures.leaves in
    λ before after around.
    told_sound before after given conf c.args.more c.args.remains c.args.fault.now c.in_ok-said.said.items c.in_ok-said.ensures behind leaves
    (subst (λ (it : Option CommandFault). LoadsNext before after given conf behind.left.items it) none (c.in_ok-next.ensures.loads before after around))

pub tell_faults-requires : goal.tell_faults-requires
tell_faults-requires g t c κs within =
    let leaves = subst (λ (it : Option Remains). LeavesBehind c.args.more c.args.remains c.args.fault.now it) c.in-Some.is c.in_ok-behind.ensures.leaves in
    let positive = more_left c.args.more c.args.remains c.args.fault.now c.in-Some.behind leaves in (
      omega (arith, positive, c.saturating_sub.ensures, c.decreases),
      (search rules, subst (λ (it : Option Remains). IfSome it (λ it. length it.left.items ≤ MAX_TEXT_BYTES)) c.in-Some.is c.in_ok-behind.ensures.length),
    )

pub returns-clause-tells : goal.returns-clause-tells
returns-clause-tells g t c =
    let whole : c.extend_from_slice.new.self.items ≡ c.in_ok-said.said.items ++ c.in_ok-rest.rest.items = search rules in
    let given = c.args.source.ifaces.now.list in
    let conf = c.args.source.conf.now in
    let behind = c.in-Some.behind in
    let leaves = subst (λ (it : Option Remains). LeavesBehind c.args.more c.args.remains c.args.fault.now it) c.in-Some.is c.in_ok-behind.ensures.leaves in
    let old = g.F.Files.moment c.args.files.now in
    let loaded = g.F.Files.moment c.load_next.new.files in
    let new = g.F.Files.moment c.tell_faults.new.files in
    λ before after around.
    let loads = subst (λ (it : Option CommandFault). LoadsNext before after given conf behind.left.items it) c.in-Some-2.is
    (c.in_ok-next.ensures.loads before after (around_first before old loaded new after around c.in_ok-rest.ensures.reads)) in
    told_next before after given conf c.args.more c.args.remains c.args.fault.now c.in_ok-said.said.items c.in_ok-said.ensures behind leaves c.in-Some-2.next loads
    c.saturating_sub.result c.saturating_sub.ensures c.in_ok-rest.rest.items
    (c.in_ok-rest.ensures.tells before after (around_next before old loaded new after around c.in_ok-next.ensures.reads)) c.extend_from_slice.new.self.items whole
