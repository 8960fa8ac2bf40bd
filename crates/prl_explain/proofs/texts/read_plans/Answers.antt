use Rattle.prl_base.proofs.Standard.{map, err_from_is_err_and, string_bytes}
use Rattle.prl_explain.proofs.Stops.{stop_from}
use Rattle.prl_explain.proofs.texts.read_plans.Goals as goal

pub returns-in_err-plan-clause-stop : goal.returns-in_err-plan-clause-stop
returns-in_err-plan-clause-stop g c =
    let p = err_from_is_err_and c.from_residual-in_err-plan.result c.from_residual-in_err-plan.ensures.1 in
    rw (p.1, p.2) (stop_from (g.F.Files.seen c.args.files.now) (g.F.Files.seen c.read_two.new.files) (g.F.Files.seen c.read_part.new.files)
    c.read_two.ensures.kept c.in_ok-front.ensures.failed (map string_bytes c.args.words.now) c.in_err-plan.field-0.0 c.in_err-plan.ensures.stop)
