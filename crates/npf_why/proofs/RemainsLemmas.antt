-- What is left of a text is as long as the text; and a refusal that is known to be a fault is that fault.
use Rattle.std.proofs.{Common.{◌≡◌, ℕ, ◌-◌, Err, List, ◌++◌, drop, length, map, take, subst, arith}, lemmas.List.{length-append, length-drop, length-map, length-take}}
use Rattle.npf_types.specs.Reading.{IsOnly}
use Rattle.npf_faults.specs.declared.{fault.ConfFault.ConfFault, fault.Refused.Refused}
use Rattle.npf_lexer.specs.Lexer.{IfFault, IsLexed}
use Rattle.npf_why.specs.{declared.stretch.Stretch.Stretch, Remains.{blank, taken_out}}

pub same_length : (text : List ℕ) (stretch : Stretch) → length (taken_out text stretch) ≡ length text
same_length text stretch =
    let from = stretch.from in
    let len = stretch.to - stretch.from in
    let rest = drop from text in
    omega (
      arith,
      length-append (take from text) (map blank (take len rest) ++ drop len rest),
      length-append (map blank (take len rest)) (drop len rest),
      length-map (take len rest) blank,
      length-take {A = ℕ} from text,
      length-drop {A = ℕ} from text,
      length-take {A = ℕ} len rest,
      length-drop {A = ℕ} len rest,
    )

pub lexed_fault : (text : List ℕ) (refused : Refused) (fault : ConfFault) → refused ≡ Refused.Fault fault → IfFault (λ f. IsOnly IsLexed text (Err f)) refused → IsOnly IsLexed text (Err fault)
lexed_fault text refused fault is holds = subst (IfFault (λ f. IsOnly IsLexed text (Err f))) is holds
