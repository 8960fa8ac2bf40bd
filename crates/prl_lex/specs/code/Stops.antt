-- Why a reader stopped, as definitions see it.
use Rattle.std.specs.Prelude.{Option, Some, None}
use Rattle.prl_lex.specs.code.Readers.{Stop as Stopped, Stuck}
use Rattle.prl_lex.specs.declared.reading.Stop.{Stop}
use Rattle.prl_lex.specs.declared.reading.Stop.TheVariants as stops

-- want of memory is no fault of the text
abbrev pub stop_of : Stop → Option Stopped
stop_of (stops.Unexpected left) = Some (Stuck left)
stop_of stops.Memory = None
