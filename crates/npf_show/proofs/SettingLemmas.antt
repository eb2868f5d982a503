-- The lines of settings, one behind the other.
use Rattle.std.proofs.{Common.{◌≡◌, ◌∙◌, ◌++◌, ◌+◌, ◌<◌, ℕ, List, [], length, take, get_or, ap, sym}, lemmas.{Grind.flat_map-append, List.{flat_map_more, take_more}}}
use Rattle.std.specs.List.{flat_map}
use Rattle.npf_model.specs.declared.settings.{Choice.Choice, Parameter.Parameter, Settings.Settings}
use Rattle.npf_show.{specs.{Piece.{Piece, spelled}, Setting.{changed_setting, set_line}}, proofs.PageLemmas.also}

-- the line of one parameter more
pub one_setting_more : {now new : List ℕ} (old : List ℕ) (settings : Settings) (all : List Parameter) (i : ℕ) (d : Parameter) → i < length all
    → now ≡ old ++ spelled (flat_map set_line (flat_map (changed_setting settings) (take i all)))
    → new ≡ now ++ spelled (flat_map set_line (changed_setting settings (get_or all i d)))
    → new ≡ old ++ spelled (flat_map set_line (flat_map (changed_setting settings) (take (i + 1) all)))
one_setting_more old settings all i d within is more =
    let f : Parameter → List Choice = changed_setting settings in
    let before : List Choice = flat_map f (take i all) in
    let here : List Choice = f (get_or all i d) in
    also old (flat_map set_line before) (flat_map set_line here) is more
    ∙ ap (λ (pieces : List Piece). old ++ spelled pieces)
    (sym (flat_map-append set_line before here) ∙ ap (flat_map set_line) (flat_map_more f [] (take i all) (get_or all i d) ∙ ap (flat_map f) (sym (take_more all i d within))))
