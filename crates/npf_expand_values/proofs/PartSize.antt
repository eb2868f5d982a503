-- A size of parts, which falls where a part is replaced by those of its definition: they name older definitions.
use Rattle.std.{proofs.Common.{◌≡◌, ◌<◌, ◌≤◌, ◌+◌, ◌*◌, ◌^◌, ℕ, suc, List, [], ◌∷◌, ◌++◌, All, length, get_or, sym, ap, subst, ◌∙◌, arith}, specs.List.sum_by}
use Rattle.std.proofs.{Math.Nat.{mul-le-mul_right, one-le-pow, pow-le-pow_right, pow-succ'}, lemmas.List.Elements.All-weaker}
use Rattle.std.proofs.lemmas.List.Sums.{get_or-le-sum_by, sum_by-append, sum_by-le}
use Rattle.npf_expand_values.specs.{declared.variable.{Def.Def, Part.{Part, TheVariants.{Single, Defined}}}, Kept.{IsOfFirst, kept_parts}}

abbrev parts_of : Def → ℕ
parts_of def = length (kept_parts def.values)

-- more than any definition has parts
abbrev base : List Def → ℕ
base defs = 1 + sum_by parts_of defs

abbrev part_size : ℕ → Part → ℕ
part_size most (Single atom) = 1
part_size most (Defined place) = most ^ (place + 1)

abbrev pub parts_size : List Def → List Part → ℕ
parts_size defs parts = sum_by (part_size (base defs)) parts

small_part : (most place : ℕ) (part : Part) → 0 < most → IsOfFirst place part → part_size most part ≤ most ^ place
small_part most place (Single atom) some older = one-le-pow place most some
small_part most place (Defined k) some older = pow-le-pow_right some (let e : k + 1 ≤ place = omega (arith, older) in e)

-- the parts of a definition are smaller than the part that names it
pub def_smaller : (defs : List Def) (place : ℕ) (def : Def) → place < length defs → def ≡ get_or defs place def → All (IsOfFirst place) (kept_parts def.values)
    → parts_size defs (kept_parts def.values) < base defs ^ (place + 1)
def_smaller defs place def within is older =
    let most = base defs in
    let power = most ^ place in
    let few : parts_of def ≤ sum_by parts_of defs = subst (λ (d : Def). parts_of d ≤ sum_by parts_of defs) (sym is) (get_or-le-sum_by parts_of defs place def within) in
    let some : 0 < most = omega arith in
    let each = sum_by-le (part_size most) power (kept_parts def.values)
    (All-weaker (IsOfFirst place) (λ part. part_size most part ≤ power) (λ part. small_part most place part some) (kept_parts def.values) older) in
    let positive : 1 ≤ power = one-le-pow place most some in
    let product : (parts_of def + 1) * power ≤ most * power = mul-le-mul_right power (let e : parts_of def + 1 ≤ most = omega (arith, few) in e) in
    let next : most ^ (place + 1) ≡ most * power = ap (λ n. most ^ n) (let e : place + 1 ≡ suc place = omega arith in e) ∙ pow-succ' most place in
    let split : (parts_of def + 1) * power ≡ parts_of def * power + power = omega arith in
    let below : parts_size defs (kept_parts def.values) + 1 ≤ most * power = omega (arith, each, positive, product, split) in
    subst (λ n. parts_size defs (kept_parts def.values) < n) (sym next) (let e : parts_size defs (kept_parts def.values) < most * power = omega (arith, below) in e)

pub replaced_smaller : (defs : List Def) (front : List Part) (place : ℕ) (def : Def) → place < length defs → def ≡ get_or defs place def
    → All (IsOfFirst place) (kept_parts def.values) → parts_size defs (front ++ kept_parts def.values) < parts_size defs (front ++ Defined place ∷ [])
replaced_smaller defs front place def within is older =
    let smaller = def_smaller defs place def within is older in
    let now = sum_by-append (part_size (base defs)) front (kept_parts def.values) in
    let was = sum_by-append (part_size (base defs)) front (Defined place ∷ []) in
    omega (arith, smaller, now, was)
