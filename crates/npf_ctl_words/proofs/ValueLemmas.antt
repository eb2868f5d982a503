-- In each parse of a sound definition an argument that is required, or has a default, has a value that its parser takes.
use Rattle.std.proofs.Common.{◌≡◌, ◌∙◌, ◌<◌, ◌≤◌, ◌&&◌, ◌||◌, ◌⊎◌, ℕ, zero, suc, Bool, true, false, not, List, [], ◌∷◌, length, map, Option}
use Rattle.std.{proofs.Common.{Some, None, is_some, refl, sym, ap, subst, inl, inr, arith, codes}, specs.Prelude.{find, option_map, slice_get, unwrap_or}}
use Rattle.std.{specs.{List.{All, list_all, slice_index_or}, Str.bytes_eq, Borrow.Bor}, proofs.lemmas.{List.Elements.All-get_or, Slice.Eq.bytes_eq-Decides}}
use Rattle.clap.specs.{Texts.items_of, Words.{Accepts, App, IsParsed, IsParsedFrom, IsPlain, IsPlainArg, Rule, SameRules, Text, app_of, args_of, first_value}}
use Rattle.clap.specs.{Words.{found_of, groups_of, has_subcommand, matched_of, parser_of, rows_of, rule_of}, Built.IsAuto}
use Rattle.clap.specs.Facts.{AllowsNone, Entry, EntryPasses, EntryValuesPass, HasId, IsCountArg, IsFilledEntry, IsKnownGroup, PassesArg, WantsDefault, is_present, least_values, parser_of_value}
use Rattle.clap.specs.declared.builder.{action.ArgAction.{ArgAction, TheVariants.{Count, Set}}, arg.Arg.Arg, command.Command.Command}
use Rattle.clap.specs.declared.{builder.value_parser.ValueParser.ValueParser, parser.matches.{ArgMatches.ArgMatches, Found.Found, MatchedArg.MatchedArg}}
use Rattle.clap.proofs.CallerLemmas.{default_present, entry_by_id, present_has_entry, required_present, same_rules_by_id}
use Rattle.clap.proofs.{SimpleLemmas.{is_false, is_nil, plain_fields}, TakesLemmas.each_rule, WalkLemmas.{both, first_value-rows}}
use Rattle.npf_ctl_words.specs.Values.{HasEachValue, HasValue, has_always}

-- ---- what a definition is asked for

-- the argument is a plain one that takes a value a use, under an id that `clap` doesn't add
abbrev pub is_sound_rule : Rule → Bool
is_sound_rule r = r.is_simple && (r.is_free && (not (bytes_eq r.id (codes "help")) && (not (bytes_eq r.id (codes "version")) && not (bytes_eq r.id []))))

abbrev pub sets_value : Option ArgAction → Bool
sets_value (Some Set) = true
sets_value _ = false

abbrev pub sets_one : Rule → Bool
sets_one r = sets_value r.action && not (is_some r.range)

-- an argument that has a value in every parse takes one value a use
abbrev pub sets_where_always : Rule → Bool
sets_where_always r = not (has_always r) || sets_one r

sets_always : (always sets : Bool) → not always || sets ≡ true → always ≡ true → sets ≡ true
sets_always true sets e given = e
sets_always false sets e given = cc

set_of : (o : Option ArgAction) → sets_value o ≡ true → o ≡ Some Set
set_of (Some Set) e = refl
set_of _ e = cc

-- no two arguments have one id
abbrev pub ids_differ : List Rule → Bool
ids_differ [] = true
ids_differ (r ∷ rs) = list_all (λ x. not (bytes_eq x.id r.id) && not (bytes_eq r.id x.id)) rs && ids_differ rs

pub record IsSound (app : App) : Type 0 where
  pub plain : app.top.is_plain ≡ true
  pub negates : app.top.subcommand_negates_reqs ≡ false
  pub rules : list_all is_sound_rule app.top.rules ≡ true
  pub differ : ids_differ app.top.rules ≡ true
  pub sets : list_all sets_where_always app.top.rules ≡ true

-- ---- the arguments behind the rules

-- what stands at a place of a list, and its image
at_place : {X Y : Type 0} (f : X → Y) (xs : List X) (k : ℕ) (r : Y) → slice_get (map f xs) k ≡ Some r
    → (a : X) × (k < length xs) × (slice_index_or xs k a ≡ a) × (f a ≡ r)
at_place f [] zero r e = cc
at_place f [] (suc k) r e = cc
at_place f (x ∷ xs) zero r e = (x, omega arith, refl, ap (λ o. unwrap_or o r) e)
at_place f (x ∷ xs) (suc k) r e =
    let h = at_place f xs k r e in
    (h.0, omega arith, h.2, h.3)

each_of : {X Y : Type 0} (p : Y → Bool) (f : X → Y) (xs : List X) (k : ℕ) (d : X) → list_all p (map f xs) ≡ true → k < length xs
    → p (f (slice_index_or xs k d)) ≡ true
each_of p f [] k d e low = absurd (omega arith)
each_of p f (x ∷ xs) zero d e low = (both _ _ e).0
each_of p f (x ∷ xs) (suc k) d e low = each_of p f xs k d (both _ _ e).1 (omega arith)

false_of : (a b : Bool) → a ≡ true → not b ≡ true → a ≡ b → ⊥
false_of true true x y e = cc
false_of true false x y e = cc
false_of false b x y e = cc

only_place : {X : Type 0} (f : X → Rule) (xs : List X) (j k : ℕ) (d e : X) → ids_differ (map f xs) ≡ true → j < length xs → k < length xs
    → bytes_eq (f (slice_index_or xs j e)).id (f (slice_index_or xs k d)).id ≡ true → j ≡ k
only_place f [] j k d e differ low high same = absurd (omega arith)
only_place f (x ∷ xs) zero zero d e differ low high same = refl
only_place f (x ∷ xs) zero (suc k) d e differ low high same =
    let other = each_of (λ y. not (bytes_eq y.id (f x).id) && not (bytes_eq (f x).id y.id)) f xs k d (both _ _ differ).0 (omega arith) in
    absurd (false_of _ _ same (both _ _ other).1 refl)
only_place f (x ∷ xs) (suc j) zero d e differ low high same =
    let other = each_of (λ y. not (bytes_eq y.id (f x).id) && not (bytes_eq (f x).id y.id)) f xs j e (both _ _ differ).0 (omega arith) in
    absurd (false_of _ _ same (both _ _ other).0 refl)
only_place f (x ∷ xs) (suc j) (suc k) d e differ low high same =
    ap suc (only_place f xs j k d e (both _ _ differ).1 (omega arith) (omega arith) same)

no_less : 0 < 0 → ⊥
no_less h = omega arith

no_least : (n : ℕ) → n ≡ 0 → 1 ≤ n → ⊥
no_least n none one = omega arith

some_more : {X : Type 0} (x : X) (xs : List X) → 0 < length (x ∷ xs)
some_more x xs = omega arith

no_some : {X : Type 0} (o : Option X) → not (is_some o) ≡ true → o ≡ None
no_some None e = refl
no_some (Some x) e = cc

record IsPlainOne (a : Arg) : Type 0 where
  plain : IsPlainArg a
  ifs : a.default_vals_ifs.items ≡ []
  delimiter : a.val_delim ≡ None
  own : IsAuto a → ⊥
  named : a.id.now ≡ [] → ⊥

differs : (a b : Text) → not (bytes_eq a b) ≡ true → a ≡ b → ⊥
differs a b e same = false_of (bytes_eq a b) (bytes_eq a b) ((bytes_eq-Decides a b).1 same) e refl

plain_one : (a : Arg) → is_sound_rule (rule_of a) ≡ true → IsPlainOne a
plain_one a e =
    let p = both _ _ e in
    let q = both _ _ p.1 in
    let ids = both _ _ q.1 in
    let rest = both _ _ ids.1 in
    let overrides = both _ _ p.0 in
    let ifs = both _ _ overrides.1 in
    let groups = both _ _ ifs.1 in
    let delimiter = both _ _ groups.1 in
    let exclusive = both _ _ q.0 in
    let conflicts = both _ _ exclusive.1 in
    record {
      plain = (is_false _ exclusive.0, is_nil _ conflicts.0, is_nil _ overrides.0, is_nil _ groups.0);
      ifs = is_nil _ ifs.0;
      delimiter = no_some _ delimiter.0;
      own = λ auto. elim auto [ inl h ↦ differs _ _ ids.0 h | inr h ↦ differs _ _ rest.0 h ];
      named = differs _ _ rest.1;
    }

-- ---- the entry of an argument

found_in : (xs : List Entry) (id : Text) (i : ℕ) → i < length xs → ((d : Entry) → bytes_eq (slice_index_or xs i d).0.now id ≡ true)
    → is_some (option_map (λ e. e.1) (find (λ e. bytes_eq e.0.now id) xs)) ≡ true
found_in [] id i low at = absurd (omega arith)
found_in (x ∷ xs) id zero low at = rw (at x) refl
found_in (x ∷ xs) id (suc i) low at = go (bytes_eq x.0.now id) refl (found_in xs id i (omega arith) at)
  where
    go : (b : Bool) → bytes_eq x.0.now id ≡ b → is_some (option_map (λ e. e.1) (find (λ e. bytes_eq e.0.now id) xs)) ≡ true
        → is_some (option_map (λ e. e.1) (find (λ e. bytes_eq e.0.now id) (x ∷ xs))) ≡ true
    go true same rest = rw same refl
    go false same rest = rw same rest

accepted : (a y : Arg) (t : Text) → SameRules a y → Accepts y.ignore_case (parser_of y) t
    → (q : ValueParser) → a.value_parser ≡ Some q → Accepts a.ignore_case q t
accepted a y t s read q parser =
    let is_q : parser_of y ≡ q = ap parser_of_value (s.parser q parser) in
    let as_q : Accepts y.ignore_case q t = subst (λ (w : ValueParser). Accepts y.ignore_case w t) is_q read in
    subst (λ (b : Bool). Accepts b q t) s.ignore_case as_q

-- the argument, at its place in the caller's command
record IsAt (old : Command) (k : ℕ) (a : Arg) : Type 0 where
  low : k < length (args_of old)
  here : slice_index_or (args_of old) k a ≡ a
  only : (j : ℕ) (e : Arg) → j < length (args_of old) → bytes_eq (slice_index_or (args_of old) j e).id.now a.id.now ≡ true → j ≡ k
  one : IsPlainOne a
  sets : a.action ≡ Some Set
  least : 1 ≤ least_values a

-- an argument of the built command with its id has its rules
same_rules : (old : Command) (m : ArgMatches) (p : IsParsedFrom old m) (k : ℕ) (a : Arg) → IsAt old k a
    → (j : ℕ) (x : Arg) → j < length (args_of p.built) → slice_index_or (args_of p.built) j x ≡ x
    → bytes_eq x.id.now a.id.now ≡ true → SameRules a x
same_rules old m p k a at j x low is same =
    let sames : SameRules (slice_index_or (args_of old) k a) x = same_rules_by_id old m p k a at.low
    (λ i e l s. at.only i e l (subst (λ (w : Arg). bytes_eq (slice_index_or (args_of old) i e).id.now w.id.now ≡ true) at.here s))
    (λ auto. at.one.own (subst IsAuto at.here auto)) j x low is
    (subst (λ (w : Arg). bytes_eq x.id.now w.id.now ≡ true) (sym at.here) same) in
    subst (λ (w : Arg). SameRules w x) at.here sames

abbrev HasAccepted : Found → Arg → Type 0
HasAccepted f a = (t : Text) × (first_value f a.id.now ≡ Some t) × ((q : ValueParser) → a.value_parser ≡ Some q → Accepts a.ignore_case q t)

no_count : (old : Command) (m : ArgMatches) (p : IsParsedFrom old m) (k : ℕ) (a : Arg) → IsAt old k a → IsCountArg p.built a.id.now → ⊥
no_count old m p k a at any =
    let s = same_rules old m p k a at any.0 any.1 any.2 any.3 any.4.0 in
    let is_set : any.1.action ≡ Some Set = s.action Set at.sets in
    let bad : Set ≡ Count = rw is_set at any.4.1 in
    cc

no_empty : (old : Command) (m : ArgMatches) (p : IsParsedFrom old m) (k : ℕ) (a : Arg) → IsAt old k a → AllowsNone p.built a.id.now → ⊥
no_empty old m p k a at any =
    let s = same_rules old m p k a at any.0 any.1 any.2 any.3 any.4.0 in
    elim any.4.1 [
      | inl none ↦ no_least _ none (s.least at.sets at.least)
      | inr has ↦
          let bad : false ≡ true = rw (s.val_delim, at.one.delimiter) at has in
          cc
    ]

no_group : (built : Command) (id : Text) → groups_of built ≡ [] → (id ≡ [] → ⊥) → IsKnownGroup built id → ⊥
no_group built id none named (inl empty) = named empty
no_group built id none named (inr lots) = no_less (subst (λ gs. 0 < length gs) none lots)

-- the first of an argument's values
first_of_values : (old : Command) (m : ArgMatches) (p : IsParsedFrom old m) (k : ℕ) (a : Arg) → IsAt old k a
    → (x : MatchedArg) → matched_of (found_of m) a.id.now ≡ Some x → (vs : List (Bor Text)) → x.vals.items ≡ vs
    → All (λ v. PassesArg p.built a.id.now v.now) vs → 0 < length vs → HasAccepted (found_of m) a
first_of_values old m p k a at x found [] is all some = absurd (no_less some)
first_of_values old m p k a at x found (v ∷ vs) is all some =
    let any : PassesArg p.built a.id.now v.now = All-get_or (λ v. PassesArg p.built a.id.now v.now) (v ∷ vs) 0 v (some_more v vs) all in
    let s = same_rules old m p k a at any.0 any.1 any.2 any.3 any.4.0 in
    (v.now, rw (found, is) refl, accepted a any.1 v.now s any.4.1)

-- the entry of the argument is no group's, and has a value
value_in : (old : Command) (m : ArgMatches) (p : IsParsedFrom old m) (k : ℕ) (a : Arg) → IsAt old k a → groups_of p.built ≡ []
    → (e : Entry) → matched_of (found_of m) a.id.now ≡ Some e.1 → e.0.now ≡ a.id.now → EntryPasses p.built e → HasAccepted (found_of m) a
value_in old m p k a at none e found key pass =
    let group : e.1.is_group ≡ true → ⊥ = λ g. no_group p.built a.id.now none at.one.named (subst (IsKnownGroup p.built) key (pass.3 g)) in
    first_of_values old m p k a at e.1 found e.1.vals.items refl (all group pass.0) (some group pass.1)
  where
    all : (e.1.is_group ≡ true → ⊥) → EntryValuesPass p.built e → All (λ v. PassesArg p.built a.id.now v.now) e.1.vals.items
    all group (inl g) = absurd (group g)
    all group (inr vals) = subst (λ (w : Text). All (λ v. PassesArg p.built w v.now) e.1.vals.items) key vals

    some : (e.1.is_group ≡ true → ⊥) → IsFilledEntry p.built e → 0 < length e.1.vals.items
    some group (inl g) = absurd (group g.0)
    some group (inr (inl v)) = v
    some group (inr (inr (inl h))) = absurd (no_count old m p k a at (subst (IsCountArg p.built) key h.1))
    some group (inr (inr (inr h))) = absurd (no_empty old m p k a at (subst (AllowsNone p.built) key h))

-- an argument that has an entry has a value that its parser takes
value_of_entry : (old : Command) (m : ArgMatches) (p : IsParsedFrom old m) (k : ℕ) (a : Arg) → IsAt old k a → groups_of p.built ≡ []
    → IsParsed p.built (found_of m) (has_subcommand m) → is_some (matched_of (found_of m) a.id.now) ≡ true → HasAccepted (found_of m) a
value_of_entry old m p k a at no_groups parsed has = go (matched_of (found_of m) a.id.now) refl has
  where
    go : (o : Option MatchedArg) → matched_of (found_of m) a.id.now ≡ o → is_some o ≡ true → HasAccepted (found_of m) a
    go None e some = cc
    go (Some x) e some =
        let got = entry_by_id (EntryPasses p.built) (found_of m).entries.items a.id.now x parsed.values e in
        value_in old m p k a at no_groups got.0 (e ∙ ap Some (sym got.1)) ((bytes_eq-Decides got.0.0.now a.id.now).0 got.2) got.3

always : (r : Rule) → has_always r ≡ true → (r.required ≡ true) ⊎ (0 < length r.defaults)
always r e = go r.required refl (length r.defaults) refl
  where
    go : (b : Bool) → r.required ≡ b → (n : ℕ) → length r.defaults ≡ n → (r.required ≡ true) ⊎ (0 < length r.defaults)
    go true is n len = inl is
    go false is zero len =
        let bad : false ≡ true = rw (is, len) at e in
        cc
    go false is (suc n) len = inr (omega arith)

-- the entry of an argument that is required or has a default
entry_of : (old : Command) (m : ArgMatches) (p : IsParsedFrom old m) (k : ℕ) (a : Arg) → IsAt old k a → IsPlain old
    → (app : App) → app_of old ≡ app → IsSound app → has_always (rule_of a) ≡ true
    → is_some (matched_of (found_of m) a.id.now) ≡ true
entry_of old m p k a at plain app is sound given =
    let globals = (plain_fields old (ap (λ (z : App). z.top.is_plain) is ∙ sound.plain)).globals in
    let negates = ap (λ (z : App). z.top.subcommand_negates_reqs) is ∙ sound.negates in
    elim (always (rule_of a) given) [
      | inl required ↦ present_has_entry (found_of m) a.id.now
          (subst (λ (w : Arg). is_present (found_of m) w.id.now ≡ true) at.here
          (required_present old m p plain globals negates k a at.low (ap (λ (w : Arg). w.required) at.here ∙ required)))
      | inr many ↦
          let wants : WantsDefault a = (at.one.ifs, some_defaults (items_of a.default_vals) many) in
          let has : HasId (found_of m) a.id.now = subst (λ (w : Arg). HasId (found_of m) w.id.now) at.here
          (default_present old m p globals k a at.low (subst WantsDefault (sym at.here) wants)) in
          found_in (found_of m).entries.items a.id.now has.0 has.1 has.2
    ]
  where
    some_defaults : (xs : List (Bor Text)) → 0 < length (map (λ s. s.now) xs) → 0 < length xs
    some_defaults [] h = h
    some_defaults (x ∷ xs) h = omega arith

value_of_rows : (f : Found) (a : Arg) → HasAccepted f a → HasValue (rule_of a) (rows_of f)
value_of_rows f a v = (v.0, sym (first_value-rows f a.id.now) ∙ v.1, v.2)

pub each_value : (old : Command) (m : ArgMatches) (app : App) → app_of old ≡ app → IsSound app → IsParsedFrom old m
    → HasEachValue app (rows_of (found_of m))
each_value old m app is sound p k r at given =
    let found = at_place rule_of (args_of old) k r (ap (λ (z : App). slice_get z.top.rules k) is ∙ at) in
    let a = found.0 in
    let rules : list_all is_sound_rule (map rule_of (args_of old)) ≡ true = ap (λ (z : App). list_all is_sound_rule z.top.rules) is ∙ sound.rules in
    let each = each_rule is_sound_rule (args_of old) rules in
    let here : IsPlainOne a = subst IsPlainOne found.2 (plain_one (slice_index_or (args_of old) k a) (each k a found.1)) in
    let fields = plain_fields old (ap (λ (z : App). z.top.is_plain) is ∙ sound.plain) in
    let plain : IsPlain old = ((λ j d low. (plain_one (slice_index_or (args_of old) j d) (each j d low)).plain), fields.groups) in
    let differ : ids_differ (map rule_of (args_of old)) ≡ true = ap (λ (z : App). ids_differ z.top.rules) is ∙ sound.differ in
    let always_given : has_always (rule_of a) ≡ true = ap has_always found.3 ∙ given in
    let sets : list_all sets_where_always (map rule_of (args_of old)) ≡ true = ap (λ (z : App). list_all sets_where_always z.top.rules) is ∙ sound.sets in
    let own = subst (λ (w : Arg). sets_where_always (rule_of w) ≡ true) found.2 (each_rule sets_where_always (args_of old) sets k a found.1) in
    let set = both _ _ (sets_always (has_always (rule_of a)) (sets_one (rule_of a)) own always_given) in
    let place : IsAt old k a = record {
      low = found.1;
      here = found.2;
      only = λ j e low same. only_place rule_of (args_of old) j k a e differ low found.1
          (subst (λ (w : Arg). bytes_eq (slice_index_or (args_of old) j e).id.now w.id.now ≡ true) (sym found.2) same);
      one = here;
      sets = set_of a.action set.0;
      least = one_value a (no_some _ set.1);
    } in
    let value = value_of_entry old m p k a place (p.from.plain plain).1 (p.parsed (p.from.globals ∙ fields.globals))
    (entry_of old m p k a place plain app is sound always_given) in
    subst (λ (w : Rule). HasValue w (rows_of (found_of m))) found.3 (value_of_rows (found_of m) a value)
  where
    one_value : (a : Arg) → a.num_vals ≡ None → 1 ≤ least_values a
    one_value a none = rw none (omega arith)
