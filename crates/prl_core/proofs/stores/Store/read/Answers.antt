use Rattle.std.proofs.Common.{◌%◌, ℕ, ap}
use Rattle.prl_track.specs.declared.seen.Seen.TheVariants as sights
use Rattle.prl_core.proofs.Stored.{taken_from, high_read}
use Rattle.prl_core.proofs.stores.Store.read.Goals as goal

pub take-requires : goal.take-requires
take-requires c =
    taken_from c.args.sensors.now c.args.bodies.now c.args.self.now.halves.items c.args.self.now.workers.items c.args.task.0 c.args.job c.args.port c.args.slot.0 (c.args.slot.0 % 2)
    c.index-value.result.now c.if-is_low.ensures.no c.requires.slot c.index-value.ensures c.requires.reads

pub returns-clause-read : goal.returns-clause-read
returns-clause-read c =
    high_read c.args.sensors.now c.args.bodies.now c.args.self.now.halves.items c.args.self.now.workers.items c.take.new.self.workers.items c.args.task c.args.job c.args.port c.args.edge
    c.args.instance c.args.slot (c.args.slot.0 % 2) c.index-value.result.now _ c.if-is_low.ensures.no c.requires.slot c.index-value.ensures c.take.ensures.workers
    (ap (λ (n : ℕ). sights.Read c.args.task c.args.job c.args.port c.args.edge c.args.instance (record { 0 = n }) c.index-value.result.now) c.cell-cell.ensures)
