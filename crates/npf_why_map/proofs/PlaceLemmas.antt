-- The first reason of the maps of some statements, one statement on.
use Rattle.std.proofs.Common.{◌≡◌, ◌+◌, ◌<◌, ℕ, Bool, true, false, is_some, Option, None, Some, List, [], ◌∷◌, ◌++◌, drop, get_or, length, take, zip, refl, sym, ap, ◌∙◌}
use Rattle.std.{proofs.lemmas.List.drop_more, specs.Option.option_or}
use Rattle.npf_syntax.specs.declared.stmt.Stmt.{Stmt}
use Rattle.npf_syntax.specs.declared.stmt.Stmt.TheVariants as Is
use Rattle.npf_model.specs.declared.map.Map.{Map}
use Rattle.npf_check.specs.WrittenMap.{WrittenMap, map_written, tables_behind, written_maps}
use Rattle.npf_why_map.specs.declared.reason.MapReason.{MapReason}
use Rattle.npf_why_map.{specs.{Place.{first_reason, maps_behind, reason_of}, Side.tables_after}, proofs.SideLemmas.tables_next}

without_maps : (at : ℕ) (written : List WrittenMap) → first_reason at (zip written []) ≡ None
without_maps at [] = refl
without_maps at (w ∷ written) = refl

-- of one map that is written in front of others
reasons_of : (at : ℕ) (w : WrittenMap) (more : List WrittenMap) (maps : List Map) →
    first_reason at (zip (w ∷ more) maps) ≡ option_or (first_reason at (zip (w ∷ []) maps)) (first_reason at (zip more (drop 1 maps)))
reasons_of at w more [] = sym (without_maps at more)
reasons_of at w more (m ∷ maps) = by (reason_of at (w, m)) where
  by : (here : Option MapReason) → option_or here (first_reason at (zip more maps)) ≡ option_or (option_or here None) (first_reason at (zip more maps))
  by None = refl
  by (Some reason) = refl

reasons_step : (at : ℕ) (known : List ℕ → Bool) (stmt : Stmt) (more : List WrittenMap) (maps : List Map) →
    first_reason at (zip (map_written known stmt ++ more) maps)
    ≡ option_or (first_reason at (zip (map_written known stmt) maps)) (first_reason at (zip more (maps_behind stmt maps)))
reasons_step at known (Is.Map iface kind proto left arrow right pass span) more maps = reasons_of at _ more maps
reasons_step at known (Is.Define var values span) more maps = refl
reasons_step at known (Is.Set name value span) more maps = refl
reasons_step at known (Is.Alg name span) more maps = refl
reasons_step at known (Is.Table name kind file span) more maps = refl
reasons_step at known (Is.MapRuleset iface span) more maps = refl
reasons_step at known (Is.Group head items span) more maps = refl
reasons_step at known (Is.Procedure name calls span) more maps = refl

-- what is left to be told behind this many statements
abbrev pub reasons_from : ℕ → List Stmt → ℕ → List Map → Option MapReason
reasons_from at stmts i maps = first_reason at (zip (written_maps (tables_after (take i stmts)) (drop i stmts)) maps)

pub reasons_next : (at : ℕ) (stmts : List Stmt) (i : ℕ) (stmt : Stmt) (maps : List Map) → i < length stmts → stmt ≡ get_or stmts i stmt →
    (before : List Stmt) → before ≡ take i stmts → (reason : Option MapReason) → reason ≡ first_reason at (zip (map_written (tables_after before) stmt) maps) →
    reasons_from at stmts i maps ≡ option_or reason (reasons_from at stmts (i + 1) (maps_behind stmt maps))
reasons_next at stmts i stmt maps within is before front reason told =
    let known = tables_after (take i stmts) in
    let behind = drop (i + 1) stmts in
    let rest = reasons_from at stmts (i + 1) (maps_behind stmt maps) in
    ap (λ these. first_reason at (zip (written_maps known these) maps)) (drop_more stmts i stmt within ∙ ap (λ s. s ∷ behind) (sym is))
    ∙ reasons_step at known stmt (written_maps (tables_behind known stmt) behind) maps
    ∙ ap (λ now. option_or (first_reason at (zip (map_written known stmt) maps)) (first_reason at (zip (written_maps now behind) (maps_behind stmt maps))))
    (tables_next stmts i stmt within is)
    ∙ ap (λ first. option_or first rest) (sym (told ∙ ap (λ these. first_reason at (zip (map_written (tables_after these) stmt) maps)) front))

pub or_there : {X : Type 0} (o p : Option X) → true ≡ is_some o → option_or o p ≡ o
or_there None p is = cc
or_there (Some x) p is = refl

pub or_behind : {X : Type 0} (o p : Option X) → false ≡ is_some o → option_or o p ≡ p
or_behind None p is = refl
or_behind (Some x) p is = cc
