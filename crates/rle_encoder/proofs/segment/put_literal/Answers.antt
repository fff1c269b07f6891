-- `put_literal`: of the sixteen bytes behind the control byte the first are the segment's.
use Rattle.std.proofs.Common.{◌≡◌, ℕ, ◌+◌, ◌-◌, ◌*◌, length, set, take, drop, sym, ap, ◌∙◌, arith, length-drop, length-take-le, take-take}
use Rattle.std.specs.Array.{IsWholeChunk}
use Rattle.rle_format.specs.Pack.{literal}
use Rattle.rle_format.specs.Slice.{write_at}
use Rattle.rle_format.proofs.Writing.{control_byte_short}
use Rattle.rle_scanline_encoder.proofs.Part.{put_mid-write_at}
use Rattle.rle_encoder.proofs.Put.{put_one}
use Rattle.rle_encoder.proofs.segment.put_literal.Goals as goal

pub returns : goal.returns
returns c =
    let a = c.args in
    let raw = a.raw.now in
    let control = 16 * a.count + a.run in
    let d = set a.packed.now a.at control in
    let left = c.copy_from_slice.new.self in
    let array : IsWholeChunk (take (a.from + 16 - a.from) (drop a.from raw)) c.unwrap.result.now 16 = rw c.unwrap.ensures at c.as_array.ensures.cases in
    let n : a.from + 16 - a.from ≡ 16 = omega arith in
    let e : left ≡ take 16 (drop a.from raw) = c.copy_from_slice.ensures.after ∙ array.same ∙ ap (λ (k : ℕ). take k (drop a.from raw)) n in
    let rest = length-drop a.from raw in
    let sixteen : length (take 16 (drop a.from raw)) ≡ 16 = length-take-le 16 (drop a.from raw) (omega arith) in
    let some : length (take a.count (drop a.from raw)) ≡ a.count = length-take-le a.count (drop a.from raw) (omega arith) in
    let put = put_mid-write_at d left (a.at + 1) (a.at + 17) (omega (arith, ap length e)) ∙ ap (write_at d (a.at + 1)) e in
    put_one (literal (take a.count (drop a.from raw)) a.run) a.packed.now _ (take 16 (drop a.from raw)) a.at control (a.at + 1 + a.count)
    (omega arith) (ap (λ (n : ℕ). 16 * n + a.run) (sym some) ∙ sym (control_byte_short (take a.count (drop a.from raw)) a.run (omega arith))) (omega (arith, some))
    (ap (λ (n : ℕ). take n (take 16 (drop a.from raw))) some ∙ take-take a.count 16 (drop a.from raw) (omega arith)) (omega arith) (omega arith) put
