use Rattle.record.proofs.Record.run.Goals as goal

pub returns : goal.returns
returns c =
    record {
      is = c.run-ended.ensures.is c.args.self.refused;
      keeps = record { solver = c.run-ended.ensures.keeps; counts = c.requires.keeps.counts };
    }
