-- The samples of a channel, as the code has them: a slice, its layout and the channel.
use Rattle.std.specs.Prelude.{ℕ, List}
use Rattle.pixel_format.specs.declared.samples.Samples.{Samples}
use Rattle.pixel_format.specs.Channel.{samples_of}

abbrev pub samples_in : Samples → List ℕ
samples_in s = samples_of s.layout s.channel s.src.now
