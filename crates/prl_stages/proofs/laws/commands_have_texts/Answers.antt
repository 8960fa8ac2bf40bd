use Rattle.prl_stages.proofs.SomeMeant.{Laws, some_meant}
use Rattle.prl_stages.proofs.laws.commands_have_texts.Goals as goal

pub returns : goal.returns
returns c = λ g command holds comes.
    let exist = c.texts_exist.ensures in
    let with_bodies = c.texts_have_behaviours.ensures in
    let law : Laws g = record {
      print = exist.print g;
      plan = exist.plan g;
      check = exist.check g;
      schedule = exist.schedule g;
      edf = exist.edf g;
      table = exist.table g;
      flows = with_bodies.flows g;
      replay = with_bodies.replay g;
      cores = with_bodies.cores g;
      run = with_bodies.run g;
      cycle = with_bodies.cycle g;
      generate = with_bodies.generate g;
    } in
    some_meant g law command holds comes
