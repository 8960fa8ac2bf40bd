use Rattle.prl_base.proofs.Standard.{◌≡◌, ◌++◌, take, flat_map}
use Rattle.prl_plantext.specs.PlanTexts.{after_blank, window_text}
use Rattle.prl_plantext.proofs.printing.push_windows.Given as goal

abbrev pub invariant-loop-window : goal.invariant-loop-window
invariant-loop-window l = l.text.items ≡ l.initial.text.items ++ flat_map (λ w. after_blank (window_text w)) (take l.window-index l.windows)
