use Rattle.std.proofs.{Common.{◌≡◌, ◌≤◌, ◌<◌, length, sym, ap, subst, ◌∙◌, arith}, lemmas.Bool.false≢true}
use Rattle.npf_bpf.specs.Validity.{IsValid}
use Rattle.npf_bpfgen.proofs.{ProgramLengthLemmas.length_weighs, TailLemmas.valid_program}
use Rattle.npf_bpfgen.proofs.program.compile.Goals as goal

pub put_rule-requires-clause-room : goal.put_rule-requires-clause-room
put_rule-requires-clause-room c =
    let light = c.if-most.false in
    let weighs = c.weight-most.ensures in
    omega (arith, length_weighs c.args.rule.now)

pub unreachable-requires : goal.unreachable-requires
unreachable-requires c =
    let code = c.put_rule.new.tail in
    let put = c.in_ok-put_rule.ensures in
    let light = c.if-most.false in
    let weighs = c.weight-most.ensures in
    let some : 0 < length code = omega (arith, put.count) in
    let few : length code ≤ 4096 = omega (arith, put.count, length_weighs c.args.rule.now) in
    let valid = valid_program code some few put.valid in
    false≢true (c.in-Err.ensures.accepts.1 (subst IsValid (sym c.into_code.ensures) valid))

pub returns-clause-size : goal.returns-clause-size
returns-clause-size c =
    let same : length c.in-Ok.program ≡ length c.put_rule.new.tail = ap length (c.in-Ok.ensures.value ∙ c.into_code.ensures) in
    omega (arith, c.in_ok-put_rule.ensures.count, length_weighs c.args.rule.now)
