use Rattle.prl_base.proofs.Standard.{◌≡◌, ℕ, List, Some, IfSome, inr, map, string_bytes, subst}
use Rattle.prl_io.specs.declared.faults.Fault.{Fault}
use Rattle.prl_frame.specs.Refused.{IsTableRefused}
use Rattle.prl_frame.proofs.Refusals.{outcome_refused, table_named}
use Rattle.prl_frame.proofs.telling.table_told.Goals as goal

pub returns-clause-refused : goal.returns-clause-refused
returns-clause-refused g c =
    let named = table_named (map string_bytes c.args.words.now) c.requires in
    let has = subst (λ (n : List ℕ). IfSome (g.F.Files.seen c.args.files.now).folder (λ f. f n ≡ Some c.in_ok-source.source.items)) c.file_of-name.ensures c.in_ok-source.ensures.content in
    outcome_refused c.told.result _ _ c.told.ensures.refused
    (λ fault is.
    inr (
      c.in_ok-source.source.items,
      (named, has),
      subst (λ (n : List ℕ). IsTableRefused c.args.plan.now n c.in_ok-source.source.items fault) c.file_of-name.ensures
          (subst (λ (s : List ℕ). IsTableRefused c.args.plan.now c.file_of-name.result.now s fault) c.deref.ensures.value is),
    ))
