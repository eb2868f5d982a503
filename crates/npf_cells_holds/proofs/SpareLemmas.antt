-- A hold spares the dead: it gives a key to a connection that is Building, and takes none.
use Rattle.std.proofs.Common.{◌≡◌, ℕ, Option, Some, refl, sym, ap, ◌∙◌}
use Rattle.npf_types.specs.declared.key.{Key.Key, Way.Way}
use Rattle.npf_core.specs.declared.{act.Act.{Act, TheVariants.Hold}, conn_id.ConnId.ConnId, found.Found.Found, stage.Stage.TheVariants.{Building, Dead}}
use Rattle.npf_core.{specs.{Machine.{Machine, stage_of}, Meaning.Meaning, NextState.after_act}, proofs.HolderLemmas.{Passes, rests, gives, loses, passes}}
use Rattle.npf_cells_lives.proofs.DeathLemmas.{Spares}

module _ {S A R : Type 0} (m : Meaning S A R) (k : Machine S) (seat : ℕ) (conn : ConnId) (key : Key) (way : Way) (built : stage_of k conn ≡ Building seat) where
  abbrev act : Act S A
  act = Hold conn key way

  abbrev k' : Machine S
  k' = after_act m k seat act

  -- who holds a key after it and is Dead held it before
  held_before : (i : ConnId) (w : Way) (other : Key) (x y : Option Found) → stage_of k i ≡ Dead → Passes act other x y → y ≡ Some (record { id = i; way = w }) → x ≡ Some (record { id = i; way = w })
  held_before i w other _ _ dead rests now = now
  held_before i w other _ _ dead (gives given is) now =
      let to : given.id ≡ i = cc in
      let asks : conn ≡ given.id = cc in
      let no : Building seat ≡ Dead = sym built ∙ (ap (λ (x : ConnId). stage_of k x) (asks ∙ to) ∙ dead) in
      absurd cc
  held_before i w other _ _ dead (loses lost is) now = absurd cc

  held_after : (found : Found) (other : Key) (x y : Option Found) → Passes act other x y → x ≡ Some found → y ≡ Some found
  held_after found other _ _ rests was = was
  held_after found other _ _ (gives given is) was = absurd cc
  held_after found other _ _ (loses lost is) was = absurd cc

  pub hold_spares : Spares k k'
  hold_spares = record {
    slots = λ slot dead. refl;
    held = λ i dead w other holds. held_after (record { id = i; way = w }) other (k.holder other) (k'.holder other) (passes act other (k.holder other)) holds;
    back = λ i dead w other holds. held_before i w other (k.holder other) (k'.holder other) dead (passes act other (k.holder other)) holds;
  }
