-- Once a connection is begun, the table isn't told as full.
use Rattle.std.proofs.Common.{◌≡◌, ◌≢◌, ℕ, Err, List, [], refl}
use Rattle.npf_types.specs.declared.address.Addr.{Addr}
use Rattle.npf_core.specs.declared.conn_id.ConnId.{ConnId}
use Rattle.npf_engine_opening.specs.{declared.attempt.{Attempt.Attempt, Opened.Opened, Refusal.TheVariants.Full}, Draw.Draws}
use Rattle.npf_engine_opening.specs.{Opening.{Builds, OpensConnection, Translates}, Saying.FlowSaid, Start.StartsConnection}

draws_with_room : {id : ConnId} {addr : Addr} {ports : List ℕ} {said : List FlowSaid} {drawn : _} →
    Draws id addr ports said drawn → drawn ≢ Err Full
draws_with_room (Draws.given before port behind are) is = absurd cc
draws_with_room (Draws.all_taken all are) is = absurd cc
draws_with_room (Draws.no_node before port behind are) is = absurd cc

module _ {attempt : Attempt} {id : ConnId} where
  starts_with_room : {changes : _} {said : List FlowSaid} {opened : Opened} →
      StartsConnection attempt id changes said opened → opened ≢ Opened.Refused Full
  starts_with_room (StartsConnection.started said holds) is = absurd cc
  starts_with_room (StartsConnection.taken said holder holds) is = absurd cc
  starts_with_room (StartsConnection.no_node said holds) is = absurd cc

  translates_with_room : {said : List FlowSaid} {opened : Opened} →
      Translates attempt id said opened → opened ≢ Opened.Refused Full
  translates_with_room (Translates.fixed there back said opened plan starts) is = starts_with_room starts is
  translates_with_room (Translates.drawn addr min max first port draws said opened plan drawn starts) is =
      starts_with_room starts is
  translates_with_room (Translates.undrawn addr min max first why draws plan drawn) is = draws_with_room drawn cc

  pub builds_with_room : {said : List FlowSaid} {opened : Opened} →
      Builds attempt id said opened → opened ≢ Opened.Refused Full
  builds_with_room (Builds.held said opened translates) is = translates_with_room translates is
  builds_with_room (Builds.known holder answer) is = absurd cc
  builds_with_room Builds.no_node is = absurd cc

-- where the table is full, nothing was said
pub full_says_nothing : {attempt : Attempt} {said : List FlowSaid} {opened : Opened} →
    OpensConnection attempt said opened → opened ≡ Opened.Refused Full → said ≡ []
full_says_nothing OpensConnection.full is = refl
full_says_nothing (OpensConnection.begun id said opened builds) is = absurd (builds_with_room builds is)
