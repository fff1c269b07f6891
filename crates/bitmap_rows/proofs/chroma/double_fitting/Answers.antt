-- `double_fitting`: the pairs, and the last column of an odd width.
use Rattle.std.proofs.Common.{rules, ◌≡◌, ℕ, List, ◌+◌, ◌-◌, ◌*◌, ◌/◌, ◌<◌, true, [], ◌∷◌, ◌++◌, length, get_or, refl, ◌∙◌, ap, arith}
use Rattle.std.proofs.Math.ListN.{set, length-set}
use Rattle.rle_format.proofs.Slice.{set-write_at}
use Rattle.bitmap_format.specs.Image.{chroma_index}
use Rattle.bitmap_rows.proofs.PixelLoop.{pixels_even_width, pixels_odd_width, pairs_written, doubled_pair, sample_at_lem, last_counted, pairs_counted, chroma_half}
use Rattle.bitmap_rows.proofs.chroma.double_fitting.Goals as goal

pub write_each-requires-clause-callable : goal.write_each-requires-clause-callable
write_each-requires-clause-callable c = λ i l. let half = chroma_half c.args.width (length c.args.samples.now) c.requires.0 in (omega arith, pairs_counted i)

pub bounds-samples-pairs : goal.bounds-samples-pairs
bounds-samples-pairs c = omega (arith, chroma_half c.args.width (length c.args.samples.now) c.requires.0)

pub returns-then-width-eq1 : goal.returns-then-width-eq1
returns-then-width-eq1 c =
    let a = c.args in
    let d = c.write_each.new.dst in
    let v = get_or a.samples.now (a.width / 2) 0 in
    let f : ℕ → List ℕ = λ column. get_or a.samples.now (chroma_index true column) 0 ∷ [] in
    let pairs = pairs_written a.doubled.now d (a.width / 2) f (c.write_each.ensures (λ pair. f (2 * pair) ++ f (2 * pair + 1)) (λ i. refl) (λ i p l k.
    let e : p ≡ (get_or a.samples.now i 0, get_or a.samples.now i 0) = search rules in
    ap (λ (q : ℕ × ℕ). q.0 ∷ q.1 ∷ []) e ∙ doubled_pair a.samples.now i)) in
    let odd = c.if-width-eq1.true in
    let room : a.width - 1 < length d = omega arith in
    pixels_odd_width 1 a.doubled.now f (λ i. refl) d a.width pairs (set d (a.width - 1) v) (a.width - 1) (v ∷ []) odd c.write_each.auto.dst
    (sample_at_lem a.samples.now (a.width - 1) (a.width / 2) (last_counted a.width odd)) (omega arith) (length-set d (a.width - 1) v) (set-write_at d (a.width - 1) v room)

pub returns-else-width-eq1 : goal.returns-else-width-eq1
returns-else-width-eq1 c =
    let a = c.args in
    let d = c.write_each.new.dst in
    let f : ℕ → List ℕ = λ column. get_or a.samples.now (chroma_index true column) 0 ∷ [] in
    let pairs = pairs_written a.doubled.now d (a.width / 2) f (c.write_each.ensures (λ pair. f (2 * pair) ++ f (2 * pair + 1)) (λ i. refl) (λ i p l k.
    let e : p ≡ (get_or a.samples.now i 0, get_or a.samples.now i 0) = search rules in
    ap (λ (q : ℕ × ℕ). q.0 ∷ q.1 ∷ []) e ∙ doubled_pair a.samples.now i)) in
    pixels_even_width 1 a.doubled.now f (λ i. refl) d a.width pairs c.if-width-eq1.false
