use Rattle.std.proofs.Common.{sym, subst, take}
use Rattle.prl_sensors.specs.code.Plain.{IsPlain}
use Rattle.prl_sensors.proofs.PlainRows.{plain_front}
use Rattle.prl_sensors.proofs.plain.cut_field.Goals as goal

pub returns-then-text-len-clause-plain : goal.returns-then-text-len-clause-plain
returns-then-text-len-clause-plain c =
    subst (λ n. IsPlain (take n c.args.text.now)) (sym c.plain_len-len.ensures) (plain_front c.args.text.now)
