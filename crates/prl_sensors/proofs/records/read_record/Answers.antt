use Rattle.csv.specs.Records.{fields_of}
use Rattle.prl_sensors.proofs.LeftRecords.{read_on}
use Rattle.prl_sensors.proofs.records.read_record.Goals as goal

pub returns : goal.returns
returns c = record {
  found = λ left h.
      read_on c.args.reader.now c.read_byte_record.new.self c.in-Ok.found (fields_of c.read_byte_record.new.row) left h
      (c.in-Ok.ensures.reads h.trim h.ready) (c.in-Ok.ensures.ready h.trim);
}
