-- What a call of `prelude_frame` answers.
use Rattle.std.specs.Prelude.{◌≡◌, ℕ, List, Result, IfErr, IfOk}
use Rattle.std.specs.Bool.{OnFalse, OnTrue}
use Rattle.prl_io.specs.Faults.{EndsSo}
use Rattle.prl_io.specs.Pairs.{asks_help}
use Rattle.prl_io.specs.Views.{FolderView, SinkView}
use Rattle.prl_io.specs.declared.endings.Stop.TheVariants as stops
use Rattle.prl_io.specs.declared.faults.Fault.{Fault}
use Rattle.prl_io.specs.declared.faults.Fault.TheVariants as faults
use Rattle.prl_frame.specs.Options.{other_words}
use Rattle.prl_frame.specs.Refused.{IsRefused}
use Rattle.prl_frame.specs.Told.{IsTold}

-- its outcome, by which it ends: what the words ask for is told, or there is a reason why it is not. Where they ask for what the options
-- mean, that is told unless memory runs out
pub record Answers (words : List (List ℕ)) (files files' : FolderView) (out out' err err' : SinkView) (code : ℕ) : Type 0 where
  pub outcome : Result (List ℕ) Fault
  pub ends : EndsSo (λ text. text) outcome out out' err err' code
  pub told : OnFalse (asks_help words) (IfOk outcome (IsTold files.folder words))
  pub refused : OnFalse (asks_help words) (IfErr outcome (IsRefused files files' (other_words words)))
  pub helped : OnTrue (asks_help words) (IfErr outcome (λ fault. fault ≡ faults.Stop stops.Memory))
