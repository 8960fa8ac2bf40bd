-- The words of this crate that clauses and proofs use, from one place.
pub use Rattle.prl_core.specs.Cores.{AreOutputs, CoreView, IsMachineOf, IsNoNode, IsRead}
pub use Rattle.prl_core.specs.Cores.{IsReadConst, IsSightOf, IsSightOfRead, Tells, constants}
pub use Rattle.prl_core.specs.Cores.{opened_on, values_of}
pub use Rattle.prl_core.specs.code.Kept.{AreHalves, AreWorkers, IsKept}
pub use Rattle.prl_core.specs.code.Laws.{HasCoreLaws}
pub use Rattle.prl_core.specs.code.Stores.{AreNewWorkers, CanBegin, CanGive, CanRead, CanServe}
pub use Rattle.prl_core.specs.code.Stores.{CanTake, DoesRead, Ends, Gives, Serves, Takes}
