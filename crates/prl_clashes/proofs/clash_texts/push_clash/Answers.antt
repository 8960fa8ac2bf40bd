use Rattle.std.proofs.Common.{codes}
use Rattle.prl_clashes.specs.ClashTexts.{led_text}
use Rattle.prl_clashes.proofs.Joins.{joined}
use Rattle.prl_clashes.proofs.clash_texts.push_clash.Goals as goal

pub returns : goal.returns
returns c =
    let one = led_text (codes "One clock there: ") c.args.flat.now c.args.clash.now.one in
    let other = led_text (codes "The other one: ") c.args.flat.now c.args.clash.now.other in
    joined c.push_led-2.result c.args.text.now.items c.push_led.new.text.items c.push_led-2.new.text.items one other c.in_ok-push_led.ensures c.push_led-2.ensures
