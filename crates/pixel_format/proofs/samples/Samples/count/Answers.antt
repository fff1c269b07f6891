-- `Samples::count`: by the layout.
use Rattle.pixel_format.proofs.ChannelSamples.{pixels_count}
use Rattle.pixel_format.proofs.samples.Samples.count.Goals as goal

pub returns-in-Pixels-clause-own : goal.returns-in-Pixels-clause-own
returns-in-Pixels-clause-own c = pixels_count c.args.self.layout c.args.self.channel c.args.self.src.now c.in-Pixels.field-0 c.in-Pixels.is

pub returns-in-Pixels-clause-each : goal.returns-in-Pixels-clause-each
returns-in-Pixels-clause-each c = λ k. pixels_count c.args.self.layout k c.args.self.src.now c.in-Pixels.field-0 c.in-Pixels.is
