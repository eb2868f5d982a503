use Rattle.std.proofs.{Common.{◌≡◌, ◌<◌, ◌++◌, ◌∷◌, [], All, List, length, map, reverse, refl, sym, ap, subst, ◌∙◌, arith}, lemmas.List.nil_from_length}
use Rattle.std.proofs.lemmas.Option.{slice_get_read}
use Rattle.npf_expand_values.specs.{declared.variable.Part.{Part, TheVariants.Defined}, Atom.{Atom, kept_atom}, Kept.{IsOfFirst, kept_parts, parts_atoms}}
use Rattle.npf_expand_values.specs.Scope.{ifaces_in, known}
use Rattle.npf_expand_values.proofs.KeptLemmas.{IsDefAt, known_at, last_of_first, length-known, map-reversed, replaced_means, replaced_older}
use Rattle.npf_expand_values.proofs.{PartSize.{parts_size, replaced_smaller}, variable.Variables.gather.Goals.In_ok-put_on-in-Defined}
use Rattle.npf_expand_values.proofs.variable.Variables.gather.Goals as goal

pub index-requires : goal.index-requires
index-requires c =
    let variables = c.args.self.now in
    let popped : c.loop-part.stack.items ≡ c.pop.new.self.items ++ Defined c.in-Defined.place ∷ [] =
    c.in-Some.ensures.items ∙ ap (λ (part : Part). c.pop.new.self.items ++ part ∷ []) c.in-Defined.is in
    let older = last_of_first (length (known variables)) c.pop.new.self.items (Defined c.in-Defined.place)
    (subst (All (IsOfFirst (length (known variables)))) popped c.loop-part.invariant.older) in
    omega (arith, older, length-known variables, variables.defs.ok.0)

popped : (c : In_ok-put_on-in-Defined) → c.loop-part.stack.items ≡ c.pop.new.self.items ++ Defined c.in-Defined.place ∷ []
popped c = c.in-Some.ensures.items ∙ ap (λ (part : Part). c.pop.new.self.items ++ part ∷ []) c.in-Defined.is

within : (c : In_ok-put_on-in-Defined) → c.in-Defined.place < length c.args.self.now.defs.items
within c =
    let variables = c.args.self.now in
    let older = last_of_first (length (known variables)) c.pop.new.self.items (Defined c.in-Defined.place)
    (subst (All (IsOfFirst (length (known variables)))) (popped c) c.loop-part.invariant.older) in
    subst (λ n. c.in-Defined.place < n) (length-known variables) older

def_is : (c : In_ok-put_on-in-Defined) → IsDefAt (ifaces_in c.args.self.now) (known c.args.self.now) c.in-Defined.place c.index.result.now
def_is c =
    let defs = c.args.self.now.defs in
    known_at c.args.self.now c.in-Defined.place c.index.result.now
    (slice_get_read defs.items _ c.in-Defined.place c.index.result.now refl (within c) c.index.ensures)

pub loop-part-smaller : goal.loop-part-smaller
loop-part-smaller c =
    let defs = c.args.self.now.defs.items in
    let is = def_is c in
    subst (λ (parts : List Part). parts_size defs parts < parts_size defs c.loop-part.stack.items) (sym c.in_ok-put_on-in-Defined.ensures)
    (subst (λ (parts : List Part). parts_size defs (c.pop.new.self.items ++ kept_parts c.index.result.now.values) < parts_size defs parts) (sym (popped c))
    (replaced_smaller defs c.pop.new.self.items c.in-Defined.place c.index.result.now (within c) c.index.ensures is.older))

pub loop-part-preserved : goal.loop-part-preserved
loop-part-preserved c =
    let bindings = known c.args.self.now in
    let front = c.pop.new.self.items in
    let is = def_is c in
    record {
      older = subst (All (IsOfFirst (length bindings))) (sym c.in_ok-put_on-in-Defined.ensures) (replaced_older (ifaces_in c.args.self.now) bindings front c.in-Defined.place c.index.result.now is
          (subst (All (IsOfFirst (length bindings))) (popped c) c.loop-part.invariant.older));
      left = c.loop-part.invariant.left ∙ ap (λ (parts : List Part). parts_atoms bindings parts ++ reverse (map kept_atom c.loop-part.atoms.items)) (popped c)
          ∙ ap (λ (atoms : List Atom). atoms ++ reverse (map kept_atom c.loop-part.atoms.items)) (replaced_means (ifaces_in c.args.self.now) bindings front c.in-Defined.place c.index.result.now is)
          ∙ ap (λ (parts : List Part). parts_atoms bindings parts ++ reverse (map kept_atom c.loop-part.atoms.items)) (sym c.in_ok-put_on-in-Defined.ensures);
    }

pub returns : goal.returns
returns c =
    let bindings = known c.args.self.now in
    let none : c.loop-part.stack.items ≡ [] = nil_from_length c.loop-part.stack.items (omega (arith, c.in_default.ensures.cases.0, c.loop-part.stack.ok.0)) in
    ap (map kept_atom) c.reverse.ensures.items ∙ map-reversed kept_atom c.loop-part.atoms.items
    ∙ ap (λ (parts : List Part). parts_atoms bindings parts ++ reverse (map kept_atom c.loop-part.atoms.items)) (sym none) ∙ sym c.loop-part.invariant.left
