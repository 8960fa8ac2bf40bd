-- Values that are lent or a flow's own.
use Rattle.std.specs.Prelude.{List, Option, Some, None}
use denote.Ref.{Bor}
use Rattle.prl_base.specs.declared.values.Value.{Value}

abbrev pub lent_or : Option (Bor (List Value)) → List Value → List Value
lent_or (Some values) own = values.now
lent_or None own = own
