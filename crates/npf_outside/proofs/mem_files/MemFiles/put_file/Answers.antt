use Rattle.std.proofs.{Common.arith, lemmas.Map.Text.text_keys}
use Rattle.npf_outside.proofs.mem_files.MemFiles.put_file.Goals as goal

pub returns-clause-others : goal.returns-clause-others
returns-clause-others c = λ other differs. grind (arith, text_keys)
