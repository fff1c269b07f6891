-- `Samples::read`: nothing where none are left, else the samples of the layout.
use Rattle.std.proofs.Common.{◌≡◌, ℕ, ◌+◌, ◌-◌, ◌/◌, length, take, drop, min, sym, ap, ◌∙◌, arith}
use Rattle.std.proofs.Math.Seq.{length-take-le}
use Rattle.pixel_format.specs.Samples.{samples_in}
use Rattle.pixel_format.proofs.ChannelSamples.{length_strided, read_past_end, samples_of_planar, samples_of_pixels, read_part}
use Rattle.pixel_format.proofs.samples.Samples.read.Goals as goal

pub returns-then-count-from : goal.returns-then-count-from
returns-then-count-from c = read_past_end c.args.dst.now (samples_in c.args.self) c.args.from (omega (arith, c.count-count.ensures.own))

pub copy-requires : goal.copy-requires
copy-requires c =
    let a = c.args in
    let p = c.new.result in
    let room = c.min-n.ensures in
    let is = samples_of_pixels a.self.layout a.self.channel a.self.src.now c.in-Pixels.pixels c.in-Pixels.is in
    let n : length p.pixels.now / 4 ≡ c.count-count.result =
    sym (length_strided 4 p.offset (length p.pixels.now / 4) p.pixels.now) ∙ ap length (c.new.ensures ∙ is) ∙ sym c.count-count.ensures.own in
    let part : length (take c.min-n.result a.dst.now) ≡ c.min-n.result = length-take-le c.min-n.result a.dst.now (omega arith) in
    omega arith

pub returns-in-Planar : goal.returns-in-Planar
returns-in-Planar c =
    let a = c.args in
    let n = c.min-n.result in
    let same = samples_of_planar a.self.layout a.self.channel a.self.src.now c.in-Planar.is in
    let part : a.from + n - a.from ≡ n = omega arith in
    read_part a.self.layout a.self.channel a.self.src.now a.dst.now c.copy_from_slice.new.self a.from n
    (c.min-n.ensures ∙ ap (λ (k : ℕ). min (k - a.from) (length a.dst.now)) c.count-count.ensures.own) c.copy_from_slice.ensures.len
    (c.copy_from_slice.ensures.after ∙ (λ i. take (part i) (drop a.from (same i))))

pub returns-in-Pixels : goal.returns-in-Pixels
returns-in-Pixels c =
    let a = c.args in
    let n = c.min-n.result in
    let room = c.min-n.ensures in
    let same = samples_of_pixels a.self.layout a.self.channel a.self.src.now c.in-Pixels.pixels c.in-Pixels.is in
    let part = length-take-le n a.dst.now (omega arith) in
    read_part a.self.layout a.self.channel a.self.src.now a.dst.now c.copy.new.dst a.from n
    (c.min-n.ensures ∙ ap (λ (k : ℕ). min (k - a.from) (length a.dst.now)) c.count-count.ensures.own) c.copy.auto.dst
    (c.copy.ensures ∙ (λ i. take (part i) (drop a.from ((c.new.ensures ∙ same) i))))
