use Rattle.npf_expand.proofs.table.table_of.Goals as goal

pub returns : goal.returns
returns c = cc (c.name_of.ensures, c.as_slice.ensures, c.kind_of.ensures, c.in_ok-maybe_text.ensures, c.span_of.ensures)
