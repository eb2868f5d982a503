-- The canonical text of what an accepted text means.
use Rattle.std.proofs.Common.{refl, sym, subst}
use Rattle.npf_shelf.proofs.ListLemmas.{nil_from_append_left, nil_from_append_right}
use Rattle.npf_show_tokens.specs.Showable.{IsShowable}
use Rattle.npf_show_meaning.{specs.Regular.IsRegular, proofs.ShownText.shown_text_means_lem}
use Rattle.npf_expand_values.specs.Declarations.{procedure_name}
use Rattle.npf_show_law.{specs.Law.{AcceptedIsShown, LawOfShow}, proofs.{Gives.sound_parts, Sound.file_gives, Lexed.text_sound}}
use Rattle.npf_show_law.{proofs.{NameMeant.{among_listed, by_form}, TreeMeant.tree_meant}, specs.Sound.AreSoundTokens}

pub accepted_is_shown_lem : AcceptedIsShown
accepted_is_shown_lem text tokens tree ifaces model lexed parsed fit elaborates none =
    let first = parsed.1 in
    let tokens_sound = sound_parts first.front parsed.0 (subst AreSoundTokens first.parts (text_sound text tokens lexed)) in
    let every = file_gives.gives first.front tree _ tokens_sound.0 first.is in
    let of_limits = nil_from_append_right _ _ none in
    let before_limits = nil_from_append_left _ _ none in
    let before_unbuilt = nil_from_append_left _ _ before_limits in
    let before_maps = nil_from_append_left _ _ before_unbuilt in
    let before_duplicates = nil_from_append_left _ _ before_maps in
    let of_names = nil_from_append_left _ _ before_duplicates in
    let of_tables = nil_from_append_right _ _ (nil_from_append_left _ _ of_names) in
    let of_table_limit = nil_from_append_right _ _ (nil_from_append_left _ _ (nil_from_append_left _ _ of_limits)) in
    subst (λ m. IsShowable m × IsRegular ifaces m) (sym elaborates.meant)
    (tree_meant ifaces fit tree every _
    (λ name. among_listed _ procedure_name name
    (by_form _ (λ a b c. refl) (λ a b c. refl) (λ a b. refl) (λ a b c e. refl) (λ a b c e f g h i. refl) (λ a b. refl) (λ a b c. refl) (λ a b c. refl)) tree.stmts)
    elaborates.clean of_tables (nil_from_append_right _ _ of_names) of_table_limit (nil_from_append_right _ _ of_limits))

pub law_of_show_lem : LawOfShow
law_of_show_lem text tokens tree ifaces model lexed parsed fit elaborates none =
    let is = accepted_is_shown_lem text tokens tree ifaces model lexed parsed fit elaborates none in
    shown_text_means_lem ifaces model is.0 is.1
