use Rattle.std.proofs.Common.{Ok, Err, length}
use Rattle.npf_ctl_messages.specs.declared.fault.CommandFault.TheVariants.{Long, Unread}
use Rattle.npf_ctl_input.{specs.File.{whole, longer, failed}, proofs.{FileLemmas.file_lasts, ReadingLemmas.{meets_around, taken_whole}}}
use Rattle.npf_ctl_input.proofs.file.read_file.Goals as goal

pub returns-in-Ok-clause-comes : goal.returns-in-Ok-clause-comes
returns-in-Ok-clause-comes g c = λ before after around.
    let old = g.F.Files.moment c.args.files.now in
    let new = g.F.Files.moment c.read.new.self in
    file_lasts old new before after (meets_around before old new after around) c.args.name.now c.args.most (Ok c.in-Ok.bytes.items)
    (whole c.in-Ok.ensures.whole c.in-Ok.ensures.fits (taken_whole old.contents (length c.in-Ok.bytes.items) old.taken new.taken c.in-Ok.ensures.took))

pub returns-in_ok-text_of-in-Err-Failed-clause-comes : goal.returns-in_ok-text_of-in-Err-Failed-clause-comes
returns-in_ok-text_of-in-Err-Failed-clause-comes g c = λ before after around.
    let old = g.F.Files.moment c.args.files.now in
    let new = g.F.Files.moment c.read.new.self in
    rw c.in_ok-text_of-in-Err-Failed.ensures
    (file_lasts old new before after (meets_around before old new after around) c.args.name.now c.args.most (Err (Unread c.args.name.now))
    (failed (c.read.ensures.failed_of (cc)) (c.read.ensures.failed (cc))))

pub returns-in_ok-text_of-in-Err-Long-clause-comes : goal.returns-in_ok-text_of-in-Err-Long-clause-comes
returns-in_ok-text_of-in-Err-Long-clause-comes g c = λ before after around.
    let old = g.F.Files.moment c.args.files.now in
    let new = g.F.Files.moment c.read.new.self in
    rw c.in_ok-text_of-in-Err-Long.ensures
    (file_lasts old new before after (meets_around before old new after around) c.args.name.now c.args.most (Err (Long c.args.name.now c.args.most))
    (longer (c.read.ensures.long (cc))))
