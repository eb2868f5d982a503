-- What statements set, one after the other.
use Rattle.std.{proofs.{Common.{◌≡◌, ◌<◌, ◌+◌, ℕ, List, [], ◌∷◌, ◌++◌, length, get_or, drop, refl, sym, ap, ◌∙◌}, lemmas.List.drop_more}, specs.List.flat_map}
use Rattle.npf_syntax.specs.declared.stmt.Stmt.{Stmt}
use Rattle.npf_model.specs.{declared.settings.{Choice.Choice, Settings.Settings}, Settings.{set_in, with_settings}}
use Rattle.npf_expand.specs.Settings.{settings_in}

pub settings_both : (settings : Settings) (xs ys : List Choice) → with_settings settings (xs ++ ys) ≡ with_settings (with_settings settings xs) ys
settings_both settings [] ys = refl
settings_both settings (x ∷ xs) ys = settings_both (set_in x settings) xs ys

-- a turn of the loop over statements
pub settings_step : (whole now next : Settings) (stmts : List Stmt) (i : ℕ) (d : Stmt) → i < length stmts
    → whole ≡ with_settings now (flat_map settings_in (drop i stmts)) → next ≡ with_settings now (settings_in (get_or stmts i d))
    → whole ≡ with_settings next (flat_map settings_in (drop (i + 1) stmts))
settings_step whole now next stmts i d below so_far is =
    let rest = flat_map settings_in (drop (i + 1) stmts) in
    so_far ∙ ap (λ left. with_settings now (flat_map settings_in left)) (drop_more stmts i d below)
    ∙ settings_both now (settings_in (get_or stmts i d)) rest ∙ ap (λ settings. with_settings settings rest) (sym is)
