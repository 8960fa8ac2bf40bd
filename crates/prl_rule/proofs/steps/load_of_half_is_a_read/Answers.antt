use Rattle.prl_rule.specs.PlanLaws.{PlanLaws}
use Rattle.prl_rule.proofs.Caught.{load_half_law, value_law}
use Rattle.prl_rule.proofs.HalfSteps.{found_loaded, half_of_loaded, fits_loaded}
use Rattle.prl_rule.proofs.Telling.{found_is_written, word_is_own}
use Rattle.prl_rule.proofs.steps.load_of_half_is_a_read.Goals as goal

pub returns : goal.returns
returns c =
    let laws : PlanLaws = c.plan_laws.ensures in record {
      keeps = λ k run v w es words views id i count port e m h view p a has read at. load_half_law k run v laws w es words views id i count view p a has read port e m h at;
      found = found_loaded;
      half = λ k run v w es words views h m a inside tag. (half_of_loaded k run v w es words views h m a inside tag, fits_loaded k run v w es words views h m a inside tag);
      value = λ k run v w es words views id i count port e m h view p a has read at tag odd. value_law k run v laws w es words views id i count view p a has read port e m h at tag odd;
      written = λ k run v w es words views h m a inside tag. found_is_written k run v laws (laws.written run) w es words views h m a inside tag;
      own = λ k run v w es words views id i h view p a has writer inside. word_is_own k run v (laws.left run a.facts) w es words views id i h view p a has.seat has.part writer inside;
    }
