use Rattle.std.proofs.Common.{rules}
use Rattle.job_lines.specs.declared.verb.Verb.TheVariants.{Field, Escape, Pad, Land, Keep, Bar, Clear}
use Rattle.job_lines.proofs.Forms.{rest_read}
use Rattle.job_lines.proofs.read.read_rest.Goals as goal

pub returns-in-Field : goal.returns-in-Field
returns-in-Field c = rest_read _ Field _ _ _ c.in-Field.is c.read_point.ensures (search rules)

pub returns-in-Escape : goal.returns-in-Escape
returns-in-Escape c = rest_read _ Escape _ _ _ c.in-Escape.is c.read_point-in-Escape.ensures (search rules)

pub returns-in-Pad : goal.returns-in-Pad
returns-in-Pad c = rest_read _ Pad _ _ _ c.in-Pad.is c.read_pad.ensures (search rules)

pub returns-in-Land : goal.returns-in-Land
returns-in-Land c = rest_read _ Land _ _ _ c.in-Land.is c.read_point-in-Land.ensures (search rules)

pub returns-in-Keep : goal.returns-in-Keep
returns-in-Keep c = rest_read _ Keep _ _ _ c.in-Keep.is c.read_cell.ensures (search rules)

pub returns-in-Bar : goal.returns-in-Bar
returns-in-Bar c = rest_read _ Bar _ _ _ c.in-Bar.is c.read_cell-in-Bar.ensures (search rules)

pub returns-in-Clear : goal.returns-in-Clear
returns-in-Clear c = rest_read _ Clear _ _ _ c.in-Clear.is c.read_cell-in-Clear.ensures (search rules)
