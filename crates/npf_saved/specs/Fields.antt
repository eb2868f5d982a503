-- What the fields of a saved connection can hold: numbers of their widths, and times that can be set.
use Rattle.std.specs.Prelude.{◌≡◌, ◌<◌, ◌^◌, ℕ, IfSome, length, slice_index}
use Rattle.npf_types.specs.declared.action.Action.{Action}
use Rattle.npf_types.specs.declared.address.Addr.{Addr}
use Rattle.npf_types.specs.declared.address.Addr.TheVariants.{V4, V6}
use Rattle.npf_types.specs.declared.change.Change.{Change}
use Rattle.npf_types.specs.declared.change.End.{End}
use Rattle.npf_types.specs.declared.key.Key.{Key}
use Rattle.npf_types.specs.declared.name.Name.{Name}
use Rattle.npf_tcp.specs.declared.state.TcpSide.{TcpSide}
use Rattle.npf_timeouts.specs.Timeouts.{AreTimeouts}
use Rattle.npf_flow.specs.declared.flow.Flow.{Flow}
use Rattle.npf_flow.specs.declared.flow.FlowKind.{FlowKind}
use Rattle.npf_flow.specs.declared.flow.FlowKind.TheVariants.{Tcp, Other}
use Rattle.npf_saved.specs.declared.saved.Saved.{Saved}

-- five numbers of 64 bits
pub record FitsKeyText (key : Key) : Type 0 where
  pub five : length key.0 ≡ 5
  pub first : slice_index key.0 0 < 2 ^ 64
  pub second : slice_index key.0 1 < 2 ^ 64
  pub third : slice_index key.0 2 < 2 ^ 64
  pub fourth : slice_index key.0 3 < 2 ^ 64
  pub fifth : slice_index key.0 4 < 2 ^ 64

abbrev pub FitsAddrText : Addr → Type 0
FitsAddrText (V4 address) = address < 2 ^ 32
FitsAddrText (V6 address) = address < 2 ^ 128

abbrev pub FitsEnd : End → Type 0
FitsEnd one = FitsAddrText one.addr × IfSome one.port (λ port. port < 2 ^ 16)

abbrev pub FitsChange : Change → Type 0
FitsChange change = IfSome change.src FitsEnd × IfSome change.dst FitsEnd

pub record FitsSide (side : TcpSide) : Type 0 where
  pub end : side.end < 2 ^ 32
  pub maxend : side.maxend < 2 ^ 32
  pub maxwin : side.maxwin < 2 ^ 32
  pub scale : IfSome side.scale (λ scale. scale < 2 ^ 8)

abbrev pub FitsKind : FlowKind → Type 0
FitsKind (Tcp state) = FitsSide state.forward × FitsSide state.backward
FitsKind (Other answered) = Unit {0}

-- a name's bytes stand in 15 places
abbrev pub FitsName : Name → Type 0
FitsName name = length name.bytes ≡ 15

pub record FitsAction (action : Action) : Type 0 where
  pub min_ttl : IfSome action.min_ttl (λ ttl. ttl < 2 ^ 8)
  pub max_mss : IfSome action.max_mss (λ size. size < 2 ^ 16)
  pub log : IfSome action.log FitsName

-- the number of the packet that opened the flow isn't saved: it counts as 0
pub record FitsFlow (flow : Flow) : Type 0 where
  pub kind : FitsKind flow.kind
  pub last : flow.last < 2 ^ 64
  pub opener : flow.opener ≡ 0
  pub there : FitsChange flow.there
  pub back : FitsChange flow.back
  pub action : FitsAction flow.action
  pub timeouts : AreTimeouts flow.timeouts

pub record FitsSaved (saved : Saved) : Type 0 where
  pub forward : FitsKeyText saved.forward
  pub port : IfSome saved.port FitsKeyText
  pub backward : IfSome saved.backward FitsKeyText
  pub flow : FitsFlow saved.flow
