use Rattle.std.proofs.{Common.{map, string_bytes, arith}, lemmas.Grind.common_steps}
use Rattle.npf_outside.{specs.MemFiles.unread_names, proofs.MemFilesLemmas.noted_rose}
use Rattle.npf_outside.proofs.mem_files.MemFiles.note_unread.Goals as goal

pub returns-clause-rose : goal.returns-clause-rose
returns-clause-rose c =
    noted_rose (unread_names c.args.self.now) (map string_bytes c.push.new.self.items) c.args.name.now (grind (arith, common_steps))
