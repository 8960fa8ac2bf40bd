use Rattle.prl_base.proofs.Standard.{◌∷◌, inl, inr, length, refl}
use Rattle.prl_times.specs.Rows.{each_to, heavy, hyper_share, lasting_overload, lasting_task, served, withins_to}
use Rattle.prl_times.proofs.RowLists.{ok_weaker}
use Rattle.prl_times.proofs.lasting.push_found.Goals as goal

pub returns-in-Served-clause-about : goal.returns-in-Served-clause-about
returns-in-Served-clause-about c =
    ok_weaker c.push_served.result _ _ c.push_served.ensures.about (λ told. (served ∷ each_to lasting_task (length c.args.plan.now.graph.tasks), inl refl, told))

pub returns-in_ok-push_heavy-in-Heavy-clause-about : goal.returns-in_ok-push_heavy-in-Heavy-clause-about
returns-in_ok-push_heavy-in-Heavy-clause-about c =
    (heavy ∷ each_to hyper_share (length c.args.plan.now.graph.tasks), inr (inl refl), c.in_ok-push_heavy-in-Heavy.ensures.about)

pub returns-in_ok-push_overload-in-Overload-clause-about : goal.returns-in_ok-push_overload-in-Overload-clause-about
returns-in_ok-push_overload-in-Overload-clause-about c = (
  lasting_overload c.in-Overload.from c.in-Overload.to ∷ withins_to c.args.plan.now c.in-Overload.from c.in-Overload.to (length c.args.plan.now.graph.tasks),
  inr (inr (c.in-Overload.from, c.in-Overload.to, refl)),
  c.in_ok-push_overload-in-Overload.ensures.about,
)
