-- What may stand behind good connections.
use Rattle.std.proofs.Common.{◌≡◌, ◌<◌, ℕ, Bool, true, false, List, [], ◌∷◌, ◌++◌, Contains, refl, sym, ap, subst, ◌∙◌, append-nil}
use Rattle.std.{specs.List.{All, flat_map}, proofs.lemmas.List.{Concat.flat_map-append, Elements.{All-contains, All-push, Contains-push}}}
use Rattle.npf_types.specs.declared.key.Key.{Key}
use Rattle.npf_saved.specs.{declared.saved.Saved.Saved, Fields.FitsSaved}
use Rattle.npf_saved_file.specs.Conns.{AreDistinct, AreRising, AreSavedConns, HasKeys, HasKeysOfItsWays, TakesKeys, saved_keys}

keys_more : (conns : List Saved) (saved : Saved) → flat_map saved_keys (conns ++ saved ∷ []) ≡ flat_map saved_keys conns ++ saved_keys saved
keys_more conns saved = flat_map-append saved_keys conns (saved ∷ []) ∙ ap (λ last. flat_map saved_keys conns ++ last) (append-nil (saved_keys saved))

pub added : (conns : List Saved) (saved : Saved) (set : List Key) → AreSavedConns conns → FitsSaved saved → HasKeysOfItsWays saved → AreRising (conns ++ saved ∷ [])
    → TakesKeys (flat_map saved_keys conns) (saved_keys saved) set true
    → AreSavedConns (conns ++ saved ∷ []) × HasKeys set (flat_map saved_keys (conns ++ saved ∷ []))
added conns saved set good fits placed rising takes = (
  record {
    fit = All-push FitsSaved conns saved good.fit fits;
    placed = All-push HasKeysOfItsWays conns saved good.placed placed;
    rising = rising;
    distinct = subst AreDistinct (sym (keys_more conns saved)) takes.0;
  },
  subst (HasKeys set) (sym (keys_more conns saved)) takes.1,
)

pub not_placed : (conns : List Saved) (saved : Saved) → ¬ HasKeysOfItsWays saved → ¬ AreSavedConns (conns ++ saved ∷ [])
not_placed conns saved other good = other (All-contains HasKeysOfItsWays (conns ++ saved ∷ []) saved good.placed (Contains-push conns saved))

pub not_distinct : (conns : List Saved) (saved : Saved) → ¬ AreDistinct (flat_map saved_keys conns ++ saved_keys saved) → ¬ AreSavedConns (conns ++ saved ∷ [])
not_distinct conns saved again good = again (subst AreDistinct (keys_more conns saved) good.distinct)
