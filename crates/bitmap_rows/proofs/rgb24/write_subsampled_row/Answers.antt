-- `write_subsampled_row`: the pairs, and the last pixel of an odd width.
use Rattle.std.proofs.Common.{rules, ◌≡◌, ℕ, List, ◌+◌, ◌*◌, ◌/◌, true, [], ◌++◌, get_or, ap, refl, ◌∙◌, arith}
use Rattle.bitmap_format.specs.declared.ColorPlaneDefinition.TheVariants.{AYCoCg}
use Rattle.bitmap_format.specs.declared.Rgb.{Rgb}
use Rattle.bitmap_format.specs.Colour.{rgb24, aycocg_colour}
use Rattle.bitmap_format.specs.Pixels.{three_bytes}
use Rattle.bitmap_rows.specs.Rows.{pixel_at}
use Rattle.bitmap_rows.proofs.PixelLoop.{pixels_even_width, pixels_odd_width, pairs_written, pixel_pair, aycocg_pixel, last_counted, pairs_counted, chroma_subsampled}
use Rattle.bitmap_rows.proofs.rgb24.write_subsampled_row.Goals as goal

pub write_each-requires-clause-callable : goal.write_each-requires-clause-callable
write_each-requires-clause-callable c =
    let r = c.args.row in
    let co = chroma_subsampled _ r.width _ c.requires.0 r.second in
    let cg = chroma_subsampled _ r.width _ c.requires.0 r.third in
    λ i l. (omega arith, omega arith, omega arith, pairs_counted i)

pub bounds-co-pairs : goal.bounds-co-pairs
bounds-co-pairs c = omega (arith, chroma_subsampled _ c.args.row.width _ c.requires.0 c.args.row.second)

pub bounds-cg-pairs : goal.bounds-cg-pairs
bounds-cg-pairs c = omega (arith, chroma_subsampled _ c.args.row.width _ c.requires.0 c.args.row.third)

pub returns-then-width-eq1 : goal.returns-then-width-eq1
returns-then-width-eq1 c =
    let r = c.args.row in
    let s = r.samples in
    let f : ℕ → List ℕ = pixel_at three_bytes (AYCoCg c.args.level.level true) c.args.flagged s.first.now s.second.now s.third.now [] in
    let pairs = pairs_written c.args.dst.now c.write_each.new.dst (r.width / 2) f (c.write_each.ensures (λ pair. f (2 * pair) ++ f (2 * pair + 1)) (λ i. refl) (λ i p l k.
    let left = aycocg_colour c.args.flagged c.args.level.level (get_or s.first.now (2 * i) 0) (get_or s.second.now i 0) (get_or s.third.now i 0) in
    let right = aycocg_colour c.args.flagged c.args.level.level (get_or s.first.now (2 * i + 1) 0) (get_or s.second.now i 0) (get_or s.third.now i 0) in
    let e : p ≡ (left, right) = search rules in
    ap (λ (q : Rgb × Rgb). rgb24 q.0 ++ rgb24 q.1) e ∙ pixel_pair c.args.flagged c.args.level.level s.first.now s.second.now s.third.now i)) in
    let odd = c.if-width-eq1.true in
    pixels_odd_width 3 _ f (λ i. refl) _ r.width pairs _ _ _ odd c.write_each.auto.dst
    (aycocg_pixel _ _ true s.first.now s.second.now s.third.now _ _ _ (last_counted r.width odd) c.color-last.ensures.color) refl c.store.auto.dst c.store.ensures

pub returns-else-width-eq1 : goal.returns-else-width-eq1
returns-else-width-eq1 c =
    let r = c.args.row in
    let s = r.samples in
    let f : ℕ → List ℕ = pixel_at three_bytes (AYCoCg c.args.level.level true) c.args.flagged s.first.now s.second.now s.third.now [] in
    let pairs = pairs_written c.args.dst.now c.write_each.new.dst (r.width / 2) f (c.write_each.ensures (λ pair. f (2 * pair) ++ f (2 * pair + 1)) (λ i. refl) (λ i p l k.
    let left = aycocg_colour c.args.flagged c.args.level.level (get_or s.first.now (2 * i) 0) (get_or s.second.now i 0) (get_or s.third.now i 0) in
    let right = aycocg_colour c.args.flagged c.args.level.level (get_or s.first.now (2 * i + 1) 0) (get_or s.second.now i 0) (get_or s.third.now i 0) in
    let e : p ≡ (left, right) = search rules in
    ap (λ (q : Rgb × Rgb). rgb24 q.0 ++ rgb24 q.1) e ∙ pixel_pair c.args.flagged c.args.level.level s.first.now s.second.now s.third.now i)) in
    pixels_even_width 3 _ f (λ i. refl) _ r.width pairs c.if-width-eq1.false
