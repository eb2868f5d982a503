use Rattle.std.proofs.Common.{◌≤◌, length, ap, arith}
use Rattle.npf_saved_file.proofs.TextLemmas.{names_within}
use Rattle.npf_saved_file.proofs.read.read_saved.Goals as goal

pub overflow_cast-result : goal.overflow_cast-result
overflow_cast-result c =
    let most : length c.args.text.now ≤ 67108864 = c.requires in
    let within = c.in-Some.ensures.within in
    let names = ap length c.deref.ensures.value in
    let text = ap length c.in_ok-lines.ensures.ok.file.spelled in
    let short = names_within c.in_ok-lines.lines.names.items c.in_ok-lines.lines.conns.items in
    omega (arith, most, within, names, text, short)

pub overflow_add-result : goal.overflow_add-result
overflow_add-result c =
    let most : length c.args.text.now ≤ 67108864 = c.requires in
    let within = c.in-Some.ensures.within in
    let names = ap length c.deref.ensures.value in
    let text = ap length c.in_ok-lines.ensures.ok.file.spelled in
    let short = names_within c.in_ok-lines.lines.names.items c.in_ok-lines.lines.conns.items in
    omega (arith, most, within, names, text, short)
