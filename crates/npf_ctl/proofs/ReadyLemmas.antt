-- The pass with which a run's first phase begins.
use Rattle.std.proofs.Common.{◌≡◌, ◌≤◌, ◌∙◌, ℕ, false, List, [], ◌∷◌, ◌++◌, Option, Some, None, All, refl, sym, subst, arith}
use Rattle.std.proofs.lemmas.{List.Elements.{All-append, All-cons, All-contains, All-nil}, Bool.ne_eqb}
use Rattle.npf_types.specs.declared.{key.{Key.Key, Way.{Way, TheVariants.{Forward, Backward, Port}}}, name.Name.Name}
use Rattle.npf_core.specs.{declared.{act.Act.TheVariants.{Claim, Start}, conn_id.ConnId.ConnId, reply.Reply.TheVariants.{Nothing, ToClaim}}, History.IsPrefix}
use Rattle.npf_connections.specs.{Pass.Pass, Stay.IsLater}
use Rattle.npf_connsave.specs.Loads.{StaysSole, entry, hold_entries_of, key_entries, load_entries, loaded_entries}
use Rattle.npf_engine.specs.Histories.{FlowEntry, carries}
use Rattle.npf_outside.specs.Files.{FilesMoment}
use Rattle.npf_runner.specs.Plays.{IsUnnumbered}
use Rattle.npf_saved.specs.declared.saved.Saved.{Saved}
use Rattle.npf_ctl_saved.specs.Loads.{BeginsLoaded}
use Rattle.npf_ctl.{specs.Ends.{IsFresh, MayBegin}, proofs.EndLemmas.unnumbered_first}

-- the entry carries the number of no packet
abbrev IsOfNone : FlowEntry → Type 0
IsOfNone one = (n : ℕ) → 1 ≤ n → carries n one.act ≡ false

module _ (seat : ℕ) (id : ConnId) where
  holds_of_none : (way : Way) (key : Option Key) → All IsOfNone (hold_entries_of seat id way key)
  holds_of_none way None = All-nil IsOfNone
  holds_of_none way (Some key) = All-cons IsOfNone _ [] (λ n some. refl) (All-nil IsOfNone)

  load_of_none : (saved : Saved) → All IsOfNone (load_entries seat id saved)
  load_of_none saved =
      All-cons IsOfNone (entry seat (Claim 0 id.slot) (ToClaim id)) (key_entries seat id saved ++ entry seat (Start id 0 saved.flow) Nothing ∷ []) (λ n some. ne_eqb 0 n (λ same. omega arith))
      (All-append IsOfNone (key_entries seat id saved) (entry seat (Start id 0 saved.flow) Nothing ∷ [])
      (All-append IsOfNone (hold_entries_of seat id Forward (Some saved.forward)) (hold_entries_of seat id Port saved.port ++
      hold_entries_of seat id Backward saved.backward) (holds_of_none Forward (Some saved.forward))
      (All-append IsOfNone (hold_entries_of seat id Port saved.port) (hold_entries_of seat id Backward saved.backward) (holds_of_none Port saved.port) (holds_of_none Backward saved.backward)))
      (All-cons IsOfNone (entry seat (Start id 0 saved.flow) Nothing) [] (λ n some. ne_eqb 0 n (λ same. omega arith)) (All-nil IsOfNone)))

all_of_none : (seat : ℕ) (made : List (ConnId × Saved)) → All IsOfNone (loaded_entries seat made)
all_of_none seat [] = All-nil IsOfNone
all_of_none seat (one ∷ made) = All-append IsOfNone (load_entries seat one.0 one.1) (loaded_entries seat made) (load_of_none seat one.0 one.1) (all_of_none seat made)

module _ (old begun : Pass FlowEntry) (fresh : IsFresh old) (same : StaysSole old begun) where
  -- a new table with the connections of a file, or without any, has entries of no packet
  pub ready : (before after : FilesMoment) (load : Option (List ℕ)) (names : List Name) → BeginsLoaded before after load names old begun → MayBegin begun
  ready before after None names begins = record {
    places = same.places ∙ fresh.places;
    unnumbered = λ last. unnumbered_first last begun.history (subst (λ (pass : Pass FlowEntry). pass.history ≡ []) (sym begins) fresh.first);
  }
  ready before after (Some file) names begins = record {
    places = same.places ∙ fresh.places;
    unnumbered = λ last. subst (IsUnnumbered last) (sym begins.loads.entries)
        (λ n one low high has. All-contains IsOfNone (loaded_entries old.number begins.loads.made) one (all_of_none old.number begins.loads.made) has n low);
  }

  -- and goes on from there
  pub later_than_new : IsLater old begun
  later_than_new = record {
    slots = same.slots;
    number = same.number;
    entered = same.entered;
    places = same.places;
    begins = subst (λ (h : List FlowEntry). IsPrefix h begun.history) (sym fresh.first) (record { rest = begun.history; goes_on = refl });
    sweeps = same.sweeps;
    epoch = same.epoch;
  }
