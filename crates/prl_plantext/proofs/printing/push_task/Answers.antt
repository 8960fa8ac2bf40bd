use Rattle.std.proofs.Common.{rules, ◌≡◌, ◌++◌, ◌∙◌, codes, decimal}
use Rattle.prl_plantext.specs.PlanTexts.{kind_text}
use Rattle.prl_plantext.proofs.Lines.{more, task_line}
use Rattle.prl_plantext.proofs.printing.push_task.Goals as goal

pub returns : goal.returns
returns c =
    let s1 : c.push_after.new.text.items ≡ c.args.text.now.items ++ codes "task " ++ decimal c.args.k = search rules in
    let s2 : c.push.new.self.items ≡ c.push_after.new.text.items ++ (codes " ") = search rules in
    let s3 : c.extend_from_slice.new.self.items ≡ c.push.new.self.items ++ (c.args.task.now.name) = search rules in
    let s4 : c.push-2.new.self.items ≡ c.extend_from_slice.new.self.items ++ (codes " ") = search rules in
    let s5 : c.extend_from_slice-2.new.self.items ≡ c.push-2.new.self.items ++ (kind_text c.args.task.now.kind) = search rules in
    let s6 : c.push_clock.new.text.items ≡ c.extend_from_slice-2.new.self.items ++ (codes " period " ++ decimal c.args.task.now.clock.period ++ codes " start " ++ decimal c.args.task.now.clock.start) = search rules in
    let s7 : c.push_times.new.text.items ≡ c.push_clock.new.text.items ++ (codes " due " ++ decimal c.args.task.now.due ++ codes " wcet " ++ decimal c.args.task.now.wcet) = search rules in
    let s8 : c.push-3.new.self.items ≡ c.push_times.new.text.items ++ (codes "\n") = search rules in
    more (codes "\n") s8 (more (codes " due " ++ decimal c.args.task.now.due ++ codes " wcet " ++ decimal c.args.task.now.wcet) s7 (more (codes " period " ++ decimal c.args.task.now.clock.period ++ codes " start " ++ decimal c.args.task.now.clock.start) s6 (more (kind_text c.args.task.now.kind) s5 (more (codes " ") s4 (more (c.args.task.now.name) s3 (more (codes " ") s2 s1))))))
    ∙ task_line c.args.text.now.items c.args.k c.args.task.now
