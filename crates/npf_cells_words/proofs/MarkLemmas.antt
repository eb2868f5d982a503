-- What the words of marks say, and where they lead.
use Rattle.std.proofs.Common.{◌≡◌, ◌≢◌, ℕ, ◌/◌, ◌%◌, Bool, true, false, cond, eqb, refl, arith}
use Rattle.npf_types.specs.declared.key.Way.TheVariants.{Forward, Backward, Port}
use Rattle.npf_paths.specs.{declared.cell.Cell.{Cell, TheVariants.{Empty, Leaf, Node, Mark}}, CellWords.{cell_of, cell_word}}
use Rattle.npf_cells_words.specs.MarkWords.{mark_word, shown_of, MarksSayNodes, MarksLeadOn}

mark_read : (node : ℕ) → cell_of (mark_word node) ≡ Mark
mark_read node = grind arith

pub marks_say_nodes : MarksSayNodes
marks_say_nodes node other = (mark_read node, λ same. omega (arith, same))

mark_leads : (node : ℕ) → shown_of (mark_word node) ≡ Node node
mark_leads node = grind arith

-- any other cell leads where it says
pub real_shown : (word : ℕ) → cell_of word ≢ Mark → shown_of word ≡ cell_of word
real_shown word real = by_kind (eqb (word % 4) 3) refl
  where
    by_kind : (b : Bool) → eqb (word % 4) 3 ≡ b → cond b (Node (word / 4)) (cell_of word) ≡ cell_of word
    by_kind true e = absurd (real (grind (arith, e)))
    by_kind false e = refl

pub said_shown : (c : Cell) → c ≢ Mark → shown_of (cell_word c) ≡ c
said_shown Empty real = refl
said_shown (Leaf slot Forward) real = grind arith
said_shown (Leaf slot Backward) real = grind arith
said_shown (Leaf slot Port) real = grind arith
said_shown (Node node) real = grind arith
said_shown Mark real = absurd (real refl)

pub marks_lead_on : MarksLeadOn
marks_lead_on = (mark_leads, real_shown, said_shown)
