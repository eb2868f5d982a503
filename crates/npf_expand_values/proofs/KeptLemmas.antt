-- What is kept of definitions, by their places, and what stays where one more stands behind them.
use Rattle.std.proofs.Common.{◌≡◌, ◌<◌, ◌≤◌, ◌+◌, ℕ, Bool, true, false, Option, Some, None, List, [], ◌∷◌, ◌++◌, All, length, reverse, get_or}
use Rattle.std.{proofs.Common.{refl, sym, ap, subst, ◌∙◌, inl, inr, ◌⊎◌, append-nil, map, take, arith}, specs.Prelude.{slice_get, if◌then◌else◌}}
use Rattle.std.specs.{HashMap.get_by, Str.bytes_eq, List.{cons_option, filter_map, flat_map}, Option.{option_map, option_or}}
use Rattle.std.proofs.lemmas.Grind.{flat_map-append}
use Rattle.std.proofs.lemmas.List.{length-reverse, length_push, map-append, reverse-append, reverse-reverse, take_more, get_or_append_left}
use Rattle.std.proofs.lemmas.{List.Elements.{All-append, All-weaker, All-head, All-push, All-tail}, Option.{slice_get_within, slice_get-get_or}}
use Rattle.std.proofs.Math.Seq.{get_or-append_seam}
use Rattle.npf_shelf.proofs.OptionLemmas.{Some-injective}
use Rattle.npf_expand_values.specs.declared.{atom.Atom.Atom as Kept, leader.Leader.Leader, summary.Summary.Summary, variable.{Bound.Bound, Def.Def, Part.Part}}
use Rattle.npf_expand_values.specs.declared.variable.{Part.TheVariants.{Single, Defined}, Spliced.Spliced, Variables.Variables}
use Rattle.npf_expand_values.specs.Atom.{Atom, Binding, kept_atom}
use Rattle.npf_expand_values.specs.Kept.{AreDefs, AreKeptBy, AreKeptIn, AreSpliced, IsBound, IsBoundWhere, IsDefBehind, KnownNames, IsOfFirst, bindings_of}
use Rattle.npf_expand_values.specs.{Kept.{def_binding, first_atom, kept_parts, part_atoms, parts_atoms}, Scope.{at_place, env_in, ifaces_in, known}}
use Rattle.npf_model.specs.declared.iface.Iface.{Iface}
use Rattle.npf_expand_values.specs.{Leader.{is_alike, joined_leader}, Summary.{joined_summary, summary_of}, Use.atoms_of}
use Rattle.npf_expand_values.proofs.{LeaderLemmas.{joined_alike, joined_first}, SummaryLemmas.summary_of-append}

pub slice_get-kept : {X : Type 0} (xs : List X) (x : X) (i : ℕ) → i < length xs → slice_get (xs ++ x ∷ []) i ≡ slice_get xs i
slice_get-kept xs x i within =
    slice_get-get_or (xs ++ x ∷ []) i x (let more = length_push xs x in omega (arith, within, more))
    ∙ ap Some (get_or_append_left xs (x ∷ []) x i within) ∙ sym (slice_get-get_or xs i x within)

pub slice_get-pushed : {X : Type 0} (xs : List X) (x : X) → slice_get (xs ++ x ∷ []) (length xs) ≡ Some x
slice_get-pushed xs x =
    slice_get-get_or (xs ++ x ∷ []) (length xs) x (let more = length_push xs x in omega (arith, more)) ∙ ap Some (get_or-append_seam xs x [] x)

-- a definition behind the others changes nothing of those that name none but them
pub part_same : (bindings : List Binding) (more : Binding) (part : Part) → IsOfFirst (length bindings) part
    → part_atoms (bindings ++ more ∷ []) part ≡ part_atoms bindings part
part_same bindings more (Single atom) older = refl
part_same bindings more (Defined place) older = ap atoms_of (slice_get-kept bindings more place older)

pub parts_same : (bindings : List Binding) (more : Binding) (parts : List Part) → All (IsOfFirst (length bindings)) parts
    → parts_atoms (bindings ++ more ∷ []) parts ≡ parts_atoms bindings parts
parts_same bindings more [] older = refl
parts_same bindings more (part ∷ parts) older =
    ap (λ front. front ++ parts_atoms (bindings ++ more ∷ []) parts) (part_same bindings more part (All-head (IsOfFirst (length bindings)) part parts older))
    ∙ ap (λ rest. part_atoms bindings part ++ rest) (parts_same bindings more parts (All-tail (IsOfFirst (length bindings)) part parts older))

pub of_first_more : (n m : ℕ) (part : Part) → n ≤ m → IsOfFirst n part → IsOfFirst m part
of_first_more n m (Single atom) within older = tt
of_first_more n m (Defined place) within older = omega (arith, within, older)

-- the definition at a place, where those before it and behind it bind their names so
pub record IsDefAt (ifaces : List Iface) (bindings : List Binding) (place : ℕ) (def : Def) : Type 0 where
  pub binding : slice_get bindings place ≡ Some (def_binding bindings def)
  pub behind : IsDefBehind ifaces bindings def
  pub older : All (IsOfFirst place) (kept_parts def.values)

def_same : (bindings : List Binding) (more : Binding) (def : Def) → All (IsOfFirst (length bindings)) (kept_parts def.values)
    → def_binding (bindings ++ more ∷ []) def ≡ def_binding bindings def
def_same bindings more def older = ap (λ (atoms : List Atom). record { many = def.many; atoms = atoms }) (parts_same bindings more (kept_parts def.values) older)

def_behind_more : (ifaces : List Iface) (bindings : List Binding) (more : Binding) (def : Def) → IsDefBehind ifaces bindings def → IsDefBehind ifaces (bindings ++ more ∷ []) def
def_behind_more ifaces bindings more def is =
    let same = sym (parts_same bindings more (kept_parts def.values) is.older) in
    record {
      older = All-weaker (IsOfFirst (length bindings)) (IsOfFirst (length (bindings ++ more ∷ [])))
          (λ part. of_first_more (length bindings) (length (bindings ++ more ∷ [])) part (let longer = length_push bindings more in omega (arith, longer)))
          (kept_parts def.values) is.older;
      kept = subst (AreKeptIn ifaces def.values) same is.kept;
      alone = λ one. subst (λ (atoms : List Atom). length atoms ≤ 1) same (is.alone one);
    }

def_at-more : (ifaces : List Iface) (bindings : List Binding) (more : Binding) (place : ℕ) (def : Def) → IsDefAt ifaces bindings place def → IsDefAt ifaces (bindings ++ more ∷ []) place def
def_at-more ifaces bindings more place def is = record {
  binding = slice_get-kept bindings more place (slice_get_within bindings place _ is.binding) ∙ is.binding ∙ ap Some (sym (def_same bindings more def is.behind.older));
  behind = def_behind_more ifaces bindings more def is.behind;
  older = is.older;
}

pub length-bindings_of : (defs : List Def) → length (bindings_of defs) ≡ length defs
length-bindings_of [] = refl
length-bindings_of (newest ∷ older) = length_push (bindings_of older) (def_binding (bindings_of older) newest) ∙ ap (λ n. n + 1) (length-bindings_of older) ∙ omega arith

def_at_last : (ifaces : List Iface) (older : List Def) (newest : Def) → IsDefBehind ifaces (bindings_of older) newest → IsDefAt ifaces (bindings_of (newest ∷ older)) (length older) newest
def_at_last ifaces older newest is =
    let bindings = bindings_of older in
    let more = def_binding bindings newest in
    let count = length-bindings_of older in
    record {
      binding = subst (λ n. slice_get (bindings ++ more ∷ []) n ≡ Some more) count (slice_get-pushed bindings more) ∙ ap Some (sym (def_same bindings more newest is.older));
      behind = def_behind_more ifaces bindings more newest is;
      older = subst (λ n. All (IsOfFirst n) (kept_parts newest.values)) count is.older;
    }

below_or : (n m : ℕ) → n < m + 1 → (n < m) ⊎ (n ≡ m)
below_or n m below = grind arith

def_at_or : (ifaces : List Iface) (older : List Def) (newest : Def) (place : ℕ) (def : Def) → IsDefBehind ifaces (bindings_of older) newest → slice_get (reverse older ++ newest ∷ []) place ≡ Some def
    → ((slice_get (reverse older) place ≡ Some def) → IsDefAt ifaces (bindings_of older) place def) → (place < length older) ⊎ (place ≡ length older)
    → IsDefAt ifaces (bindings_of (newest ∷ older)) place def
def_at_or ifaces older newest place def behind there earlier (inl below) = def_at-more ifaces (bindings_of older) _ place def (earlier
    (sym (slice_get-kept (reverse older) newest place (subst (λ n. place < n) (sym (length-reverse older)) below)) ∙ there))
def_at_or ifaces older newest place def behind there earlier (inr last) =
    let same : newest ≡ def = Some-injective newest def (sym (slice_get-pushed (reverse older) newest)
    ∙ ap (slice_get (reverse older ++ newest ∷ [])) (length-reverse older ∙ sym last) ∙ there) in
    subst (IsDefAt ifaces (bindings_of (newest ∷ older)) place) same
    (subst (λ n. IsDefAt ifaces (bindings_of (newest ∷ older)) n newest) (sym last) (def_at_last ifaces older newest behind))

pub def_at : (ifaces : List Iface) (defs : List Def) (place : ℕ) (def : Def) → AreDefs ifaces defs → slice_get (reverse defs) place ≡ Some def → IsDefAt ifaces (bindings_of defs) place def
def_at ifaces [] place def are there = absurd (let none : None ≡ Some def = there in cc)
def_at ifaces (newest ∷ older) place def are there =
    let at : slice_get (reverse older ++ newest ∷ []) place ≡ Some def = subst (λ (defs : List Def). slice_get defs place ≡ Some def) (reverse-append (newest ∷ []) older) there in
    let below : place < length older + 1 = subst (λ n. place < n) (length_push (reverse older) newest ∙ ap (λ n. n + 1) (length-reverse older)) (slice_get_within _ place def at) in
    def_at_or ifaces older newest place def are.0 at (def_at ifaces older place def are.1) (below_or place (length older) below)

-- the same, of variables
pub known_at : (variables : Variables) (place : ℕ) (def : Def) → slice_get variables.defs.items place ≡ Some def → IsDefAt (ifaces_in variables) (known variables) place def
known_at variables place def there =
    def_at (ifaces_in variables) (reverse variables.defs.items) place def variables.behind
    (subst (λ (defs : List Def). slice_get defs place ≡ Some def) (sym (reverse-reverse variables.defs.items)) there)

pub length-known : (variables : Variables) → length (known variables) ≡ length variables.defs.items
length-known variables = length-bindings_of (reverse variables.defs.items) ∙ length-reverse variables.defs.items

-- the values of one part are the part's
pub only_part : (bindings : List Binding) (parts : List Part) (part : Part) → parts ≡ part ∷ [] → part_atoms bindings part ≡ parts_atoms bindings parts
only_part bindings parts part one = sym (ap (parts_atoms bindings) one ∙ append-nil (part_atoms bindings part))

pub only_older : (count : ℕ) (parts : List Part) (part : Part) → parts ≡ part ∷ [] → All (IsOfFirst count) parts → IsOfFirst count part
only_older count parts part one older = All-head (IsOfFirst count) part [] (subst (All (IsOfFirst count)) one older)

-- values behind others
pub kept_both : (ifaces : List Iface) (a b : Leader) (s t : Summary) (xs ys : List Atom) → AreKeptBy ifaces a s xs → AreKeptBy ifaces b t ys
    → AreKeptBy ifaces (joined_leader a b) (joined_summary s t) (xs ++ ys)
kept_both ifaces a b s t xs ys one other = record {
  first = joined_first a b xs ys one.first other.first;
  alike = joined_alike a b xs ys one.first other.first one.alike other.alike;
  summed = ap (λ u. joined_summary u t) one.summed ∙ ap (joined_summary (summary_of ifaces xs)) other.summed ∙ sym (summary_of-append ifaces xs ys);
}

-- the values of a part behind others
pub spliced_more : (ifaces : List Iface) (bindings : List Binding) (values next : Spliced) (atoms : List Atom) (bound : Bound) (binding : Binding)
    → AreSpliced ifaces bindings values atoms → IsBound (record { ifaces = ifaces; bindings = bindings }) bound binding → next.parts.items ≡ values.parts.items ++ bound.part ∷ []
    → next.leader ≡ joined_leader values.leader bound.leader → next.summary ≡ joined_summary values.summary bound.summary → AreSpliced ifaces bindings next (atoms ++ binding.atoms)
spliced_more ifaces bindings values next atoms bound binding are is pushed first summed = record {
  means = ap (parts_atoms bindings) pushed ∙ flat_map-append (part_atoms bindings) values.parts.items (bound.part ∷ [])
      ∙ ap (λ (front : List Atom). front ++ parts_atoms bindings (bound.part ∷ [])) are.means
      ∙ ap (λ (rest : List Atom). atoms ++ rest) (append-nil (part_atoms bindings bound.part) ∙ is.means);
  older = subst (All (IsOfFirst (length bindings))) (sym pushed) (All-push (IsOfFirst (length bindings)) values.parts.items bound.part are.older is.older);
  kept = subst (λ (f : Leader). AreKeptBy ifaces f next.summary (atoms ++ binding.atoms)) (sym first)
      (subst (λ (s : Summary). AreKeptBy ifaces (joined_leader values.leader bound.leader) s (atoms ++ binding.atoms)) (sym summed)
      (kept_both ifaces values.leader bound.leader values.summary bound.summary atoms binding.atoms are.kept is.kept));
}

known-put : (defs : List Def) (def : Def) → bindings_of (reverse (defs ++ def ∷ [])) ≡ bindings_of (reverse defs) ++ def_binding (bindings_of (reverse defs)) def ∷ []
known-put defs def = ap bindings_of (reverse-append defs (def ∷ []))

at_place-kept : (bindings : List Binding) (more : Binding) (place : Option ℕ) → ((k : ℕ) → place ≡ Some k → k < length bindings)
    → at_place (bindings ++ more ∷ []) place ≡ at_place bindings place
at_place-kept bindings more None within = refl
at_place-kept bindings more (Some k) within = slice_get-kept bindings more k (within k refl)

-- one definition more
module _ (variables : Variables) (def : Def) (defs : List Def) (pushed : defs ≡ variables.defs.items ++ def ∷ []) where
  pub pushed_behind : IsDefBehind (ifaces_in variables) (known variables) def → AreDefs (ifaces_in variables) (reverse defs)
  pushed_behind behind = subst (AreDefs (ifaces_in variables)) (sym (ap (λ (l : List Def). reverse l) pushed ∙ reverse-append variables.defs.items (def ∷ []))) (behind, variables.behind)

  pub pushed_within : (k : ℕ) → k < length variables.defs.items + 1 → k < length defs
  pushed_within k below = subst (λ n. k < n) (sym (ap length pushed ∙ length_push variables.defs.items def)) below

  -- the latest of its name
  module _ (name : List ℕ) (place : List ℕ → Option ℕ) (put : (text : List ℕ) → place text
      ≡ (if bytes_eq name text then Some (length variables.defs.items) else get_by (λ key. bytes_eq text key.now) variables.latest)) where
    within_known : (text : List ℕ) (k : ℕ) → get_by (λ key. bytes_eq text key.now) variables.latest ≡ Some k → k < length (known variables)
    within_known text k there = subst (λ n. k < n) (sym (length-known variables)) (variables.within text k there)

    bound_by : (text : List ℕ) (b : Bool) (place : Option ℕ) → place ≡ (if b then Some (length variables.defs.items) else get_by (λ key. bytes_eq text key.now) variables.latest)
        → at_place (known variables ++ def_binding (known variables) def ∷ []) place ≡ (if b then Some (def_binding (known variables) def) else env_in variables text)
    bound_by text true place is = ap (at_place (known variables ++ def_binding (known variables) def ∷ [])) (is ∙ ap Some (sym (length-known variables)))
        ∙ slice_get-pushed (known variables) (def_binding (known variables) def)
    bound_by text false place is = ap (at_place (known variables ++ def_binding (known variables) def ∷ [])) is
        ∙ at_place-kept (known variables) (def_binding (known variables) def) _ (within_known text)

    pub put_bound : (text : List ℕ) → at_place (bindings_of (reverse defs)) (place text)
        ≡ (if bytes_eq name text then Some (def_binding (known variables) def) else env_in variables text)
    put_bound text = ap (λ (bindings : List Binding). at_place bindings (place text)) (ap (λ (l : List Def). bindings_of (reverse l)) pushed ∙ known-put variables.defs.items def)
        ∙ bound_by text (bytes_eq name text) _ (put text)

    within_by : (text : List ℕ) (k : ℕ) (b : Bool) → (if b then Some (length variables.defs.items) else get_by (λ key. bytes_eq text key.now) variables.latest) ≡ Some k
        → k < length variables.defs.items + 1
    within_by text k true there = let same : length variables.defs.items ≡ k = Some-injective _ k there in omega (arith, same)
    within_by text k false there = let below = variables.within text k there in omega (arith, below)

    pub put_within : (text : List ℕ) (k : ℕ) → place text ≡ Some k → k < length defs
    put_within text k there = pushed_within k (within_by text k (bytes_eq name text) (sym (put text) ∙ there))

-- parts, the last of which is replaced by those of its definition
pub last_of_first : (count : ℕ) (front : List Part) (last : Part) → All (IsOfFirst count) (front ++ last ∷ []) → IsOfFirst count last
last_of_first count front last older =
    subst (IsOfFirst count) (get_or-append_seam front last [] last) (older (length front) last (let more = length_push front last in omega (arith, more)))

pub front_of_first : (count : ℕ) (front : List Part) (last : Part) → All (IsOfFirst count) (front ++ last ∷ []) → All (IsOfFirst count) front
front_of_first count front last older = λ k d within.
    subst (IsOfFirst count) (get_or_append_left front (last ∷ []) d k within) (older k d (let more = length_push front last in omega (arith, within, more)))

pub replaced_older : (ifaces : List Iface) (bindings : List Binding) (front : List Part) (place : ℕ) (def : Def) → IsDefAt ifaces bindings place def
    → All (IsOfFirst (length bindings)) (front ++ Defined place ∷ [])
    → All (IsOfFirst (length bindings)) (front ++ kept_parts def.values)
replaced_older ifaces bindings front place def is older =
    All-append (IsOfFirst (length bindings)) front (kept_parts def.values) (front_of_first (length bindings) front (Defined place) older) is.behind.older

pub replaced_means : (ifaces : List Iface) (bindings : List Binding) (front : List Part) (place : ℕ) (def : Def) → IsDefAt ifaces bindings place def
    → parts_atoms bindings (front ++ Defined place ∷ []) ≡ parts_atoms bindings (front ++ kept_parts def.values)
replaced_means ifaces bindings front place def is =
    flat_map-append (part_atoms bindings) front (Defined place ∷ [])
    ∙ ap (λ (rest : List Atom). parts_atoms bindings front ++ rest) (append-nil (part_atoms bindings (Defined place)) ∙ ap atoms_of is.binding)
    ∙ sym (flat_map-append (part_atoms bindings) front (kept_parts def.values))

pub map-reversed : {X Y : Type 0} (f : X → Y) (xs : List X) → map f (reverse xs) ≡ reverse (map f xs)
map-reversed f [] = refl
map-reversed f (x ∷ xs) = ap (map f) (reverse-append (x ∷ []) xs) ∙ map-append f (reverse xs) (x ∷ [])
    ∙ ap (λ front. front ++ f x ∷ []) (map-reversed f xs) ∙ sym (reverse-append (f x ∷ []) (map f xs))

pub flat_map-more : {X Y : Type 0} (f : X → List Y) (xs : List X) (i : ℕ) (x d : X) → i < length xs → x ≡ get_or xs i d
    → flat_map f (take (i + 1) xs) ≡ flat_map f (take i xs) ++ f x
flat_map-more f xs i x d within is =
    ap (flat_map f) (take_more xs i d within) ∙ flat_map-append f (take i xs) (get_or xs i d ∷ [])
    ∙ ap (λ rest. flat_map f (take i xs) ++ rest) (append-nil (f (get_or xs i d)) ∙ ap f (sym is))

-- what follows of a binding follows where one is known
pub bound_where : (P : Option Binding → Type 0) (known : KnownNames) (bound : Bound) (o : Option Binding) → IsBoundWhere known (Some bound) o
    → ((binding : Binding) → IsBound known bound binding → P (Some binding)) → P o
bound_where P known bound None is follows = absurd is
bound_where P known bound (Some binding) is follows = follows binding is

-- a definition of values that were spliced
pub spliced_behind : (ifaces : List Iface) (bindings : List Binding) (def : Def) (values : Spliced) (atoms : List Atom) → kept_parts def.values ≡ values.parts.items
    → AreKeptIn ifaces def.values atoms → AreSpliced ifaces bindings values atoms → (def.many ≡ false → length atoms ≤ 1) → IsDefBehind ifaces bindings def
spliced_behind ifaces bindings def values atoms same kept are alone =
    let means : parts_atoms bindings (kept_parts def.values) ≡ atoms = ap (parts_atoms bindings) same ∙ are.means in
    record {
      older = subst (All (IsOfFirst (length bindings))) (sym same) are.older;
      kept = subst (AreKeptIn ifaces def.values) (sym means) kept;
      alone = λ one. subst (λ (l : List Atom). length l ≤ 1) (sym means) (alone one);
    }

pub same_binding : (many is : Bool) (atoms left : List Atom) → many ≡ is → atoms ≡ left
    → let binding : Binding = record { many = many; atoms = atoms } in binding ≡ record { many = is; atoms = left }
same_binding many is atoms left same_many same = ap (λ m. record { many = m; atoms = atoms }) same_many ∙ ap (λ (l : List Atom). record { many = is; atoms = l }) same

pub filter_map-mapped : {X Y Z : Type 0} (f : Y → Option Z) (g : X → Y) (xs : List X) → filter_map (λ x. f (g x)) xs ≡ filter_map f (map g xs)
filter_map-mapped f g [] = refl
filter_map-mapped f g (x ∷ xs) = ap (cons_option (f (g x))) (filter_map-mapped f g xs)
